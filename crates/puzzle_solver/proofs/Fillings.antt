-- Filling areas of a kind with pieces of width Two, one after another.
use Rattle.std.proofs.Common.{ℕ, ◌≡◌, ◌+◌, ◌*◌, ◌≤◌, ◌<◌, refl, ap, Bool, true, false, ◌&&◌}
use Rattle.std.proofs.Common.{cond, IsSome, unwrap_or, Option, Some, None, arith}
use Rattle.std.proofs.lemmas.Bool.{eq-eqb}
use Rattle.std.proofs.Math.Nat.{add-mul}
use Rattle.pcc_base.specs.declared.run.Width.TheVariants.{One, Two}
use Rattle.puzzle_board.specs.declared.area.AreaKind.{AreaKind}
use Rattle.puzzle_board.specs.declared.area.AreaKind.TheVariants.{E, U1, L1, U0, L0, Full}
use Rattle.puzzle_board.specs.declared.piece.Columns.TheVariants.{All}
use Rattle.puzzle_board.specs.declared.piece.Kind.{Kind}
use Rattle.puzzle_board.specs.declared.piece.Kind.TheVariants.{X, Y, Z}
use Rattle.puzzle_board.specs.Areas.{place_of_kind, same_kind}
use Rattle.puzzle_board.specs.Boards.{IsAreaOf, Puzzle, area_count, free_areas, piece_count, same_letter, same_width}
use Rattle.puzzle_board.specs.Worth.{after_wide, both_price, lower_price, upper_price, worth}
use Rattle.puzzle_board.proofs.Changes.{worth-wide}
use Rattle.puzzle_solver.specs.Filling.{Filled, IsFilled, left_by, one}
use Rattle.puzzle_solver.specs.Onward.{IsFirstPlaced}
use Rattle.puzzle_solver.proofs.Onward.{onward-more, onward-none}

-- one more of a number
next-mul : (n p : ℕ) → (n + 1) * p ≡ n * p + p
next-mul n p = omega (arith, add-mul n 1 p)

pub cond-zero : (b : Bool) → cond {A = ℕ} b 0 0 ≡ 0
cond-zero true = refl
cond-zero false = refl

pub cond-next : (b : Bool) (n : ℕ) → cond {A = ℕ} b (n + 1) 0 ≡ cond b n 0 + cond b 1 0
cond-next true n = refl
cond-next false n = refl

pub filled-none : (kind : Kind) (from left : AreaKind) (board : Puzzle) → IsFilled kind from left 0 board board
filled-none kind from left board = record {
  onward = onward-none board;
  worths = λ prices. omega arith;
  counts = λ k w. omega (arith, cond-zero (same_letter kind k && same_width Two w));
}

-- one piece in an area of the kind
pub filled-one :
    (kind : Kind) (from left : AreaKind) (a b : Puzzle) (area : ℕ) → IsAreaOf a from area
    → after_wide kind from ≡ Some left → IsFirstPlaced kind Two (record { area = area; columns = All }) a b
    → IsFilled kind from left 1 a b
filled-one kind from left a b area is after placed = record {
  onward = placed.onward;
  worths = λ prices.
      let here = worth-wide prices (free_areas a) area kind from left is after in
      let free = ap (λ areas. worth prices areas) placed.free in
      omega (arith, here, free);
  counts = placed.counts;
}

-- one piece more
pub filled-more :
    (kind : Kind) (from left : AreaKind) (n : ℕ) (a b c : Puzzle) → IsFilled kind from left n a b
    → IsFilled kind from left 1 b c → IsFilled kind from left (n + 1) a c
filled-more kind from left n a b c filled placed = record {
  onward = onward-more a b c filled.onward placed.onward;
  worths = λ prices.
      let so_far = filled.worths prices in
      let here = placed.worths prices in
      omega (arith, so_far, here, next-mul n (prices from), next-mul n (prices left));
  counts = λ k w.
      let so_far = filled.counts k w in
      let here = placed.counts k w in
      omega (arith, so_far, here, cond-next (same_letter kind k && same_width Two w) n);
}

same_kind-refl : (k : AreaKind) → same_kind k k ≡ true
same_kind-refl k = eq-eqb (place_of_kind k) (place_of_kind k) refl

-- the kind that is left is the one that the table names
pub left-is : (kind : Kind) (from : AreaKind) → IsSome (after_wide kind from) → after_wide kind from
    ≡ Some (left_by kind from)
left-is kind from some = named (after_wide kind from) some where
  named : (o : Option AreaKind) → IsSome o → o ≡ Some (unwrap_or o Full)
  named None some = absurd (cc)
  named (Some k) some = refl

-- as long as not all are placed, there is an area left
pub still-areas :
    (kind : Kind) (from left : AreaKind) (n : ℕ) (a b : Puzzle) → IsFilled kind from left n a b
    → n < area_count a from → 1 ≤ area_count b from
still-areas kind from left n a b filled more =
    let count = filled.worths (one from) in
    let used = ap (λ (t : Bool). n * cond t 1 0) (same_kind-refl from) in
    omega (arith, count, used)

same_letter-refl : (k : Kind) → same_letter k k ≡ true
same_letter-refl X = refl
same_letter-refl Y = refl
same_letter-refl Z = refl

-- and a piece
pub still-pieces :
    (kind : Kind) (from left : AreaKind) (n : ℕ) (a b : Puzzle) → IsFilled kind from left n a b
    → n < piece_count a kind Two → 1 ≤ piece_count b kind Two
still-pieces kind from left n a b filled more =
    let count = filled.counts kind Two in
    let used = ap {B = ℕ} (λ (t : Bool). cond (t && same_width Two Two) n 0) (same_letter-refl kind) in
    omega (arith, count, used)

-- a filling in the numbers that others depend on
pub filled-numbers :
    (kind : Kind) (from left : AreaKind) (n : ℕ) (a b : Puzzle) → IsFilled kind from left n a b
    → Filled kind from left n a b
filled-numbers kind from left n a b filled = record {
  onward = filled.onward;
  e = filled.worths (one E);
  u1 = filled.worths (one U1);
  l1 = filled.worths (one L1);
  u0 = filled.worths (one U0);
  l0 = filled.worths (one L0);
  both = filled.worths both_price;
  upper = filled.worths upper_price;
  lower = filled.worths lower_price;
  x1 = omega (arith, filled.counts X One, none (same_letter kind X));
  y1 = omega (arith, filled.counts Y One, none (same_letter kind Y));
  z1 = omega (arith, filled.counts Z One, none (same_letter kind Z));
  x2 = omega (arith, filled.counts X Two, all (same_letter kind X));
  y2 = omega (arith, filled.counts Y Two, all (same_letter kind Y));
  z2 = omega (arith, filled.counts Z Two, all (same_letter kind Z));
} where
  none : (t : Bool) → cond (t && false) n 0 ≡ 0
  none true = refl
  none false = refl

  all : (t : Bool) → cond (t && true) n 0 ≡ cond t n 0
  all true = refl
  all false = refl

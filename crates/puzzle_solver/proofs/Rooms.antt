-- Room for pieces of width One, column by column.
use Rattle.std.proofs.Common.{ℕ, zero, suc, ◌≡◌, ◌+◌, ◌≤◌, ◌<◌, ◌⊎◌, inl, inr, refl, sym, ◌∙◌, ap, subst, Bool, true}
use Rattle.std.proofs.Common.{false, not, ◌&&◌, ◌==◌, cond, nat_lt, List, [], ◌∷◌, length, slice_get, Some, arith}
use Rattle.std.proofs.lemmas.Bool.Decides.{nat_tests}
use Rattle.pcc_base.specs.declared.run.Width.{Width}
use Rattle.pcc_base.specs.declared.run.Width.TheVariants.{One, Two}
use Rattle.puzzle_board.specs.declared.area.Area.{Area}
use Rattle.puzzle_board.specs.declared.area.Column.{Column}
use Rattle.puzzle_board.specs.declared.area.Column.TheVariants.{Both, Upper, Lower, Neither}
use Rattle.puzzle_board.specs.declared.piece.Columns.{Columns}
use Rattle.puzzle_board.specs.declared.piece.Columns.TheVariants.{Low, High}
use Rattle.puzzle_board.specs.declared.piece.Kind.{Kind}
use Rattle.puzzle_board.specs.declared.piece.Kind.TheVariants.{X, Y, Z}
use Rattle.puzzle_board.specs.declared.piece.Spot.{Spot}
use Rattle.puzzle_board.specs.Areas.{fits_column, share_column, share_row}
use Rattle.puzzle_board.specs.Boards.{Puzzle, free_areas, piece_count, same_letter, same_width}
use Rattle.puzzle_board.specs.Placements.{clear_at, fits_at}
use Rattle.puzzle_board.proofs.Cells.{fits_at-clear_at}
use Rattle.puzzle_solver.specs.Columns.{IsChanged, IsRoom, IsWaiting, PlacedIfAny, columns}
use Rattle.puzzle_solver.specs.Columns.{columns_behind, columns_from, room, used}
use Rattle.puzzle_solver.specs.Onward.{IsFirstPlaced}
use Rattle.puzzle_solver.proofs.Onward.{onward-more, onward-none}

-- ---- columns

-- what a placed piece leaves behind its area is what was there
behind-clear_at :
    (areas : List Area) (i : ℕ) (k : Kind) (c : Columns)
    → columns_behind (clear_at areas i k c) i High ≡ columns_behind areas i High
behind-clear_at [] i k c = refl
behind-clear_at (a ∷ areas) zero k c = refl
behind-clear_at (a ∷ areas) (suc i) k c = behind-clear_at areas i k c

and-true-right : (a : Bool) → a && true ≡ a
and-true-right true = refl
and-true-right false = refl

and-false-right : (a : Bool) → a && false ≡ false
and-false-right true = refl
and-false-right false = refl

-- another column of the area is as it was
others-clear_at :
    (areas : List Area) (i : ℕ) (k j : Kind) (c d : Columns) → share_column c d ≡ false
    → fits_at (clear_at areas i k c) i j d ≡ fits_at areas i j d
others-clear_at areas i k j c d apart =
    fits_at-clear_at areas i i k j c d
    ∙ (ap (λ (b : Bool). fits_at areas i j d && not (i == i && (b && share_row k j))) apart
    ∙ (ap (λ (b : Bool). fits_at areas i j d && not b) (and-false-right (i == i))
    ∙ and-true-right (fits_at areas i j d)))

-- so is the other row of the column
pub row-clear_at :
    (areas : List Area) (i : ℕ) (k j : Kind) (c d : Columns) → share_row k j ≡ false
    → fits_at (clear_at areas i k c) i j d ≡ fits_at areas i j d
row-clear_at areas i k j c d apart =
    fits_at-clear_at areas i i k j c d
    ∙ (ap (λ (b : Bool). fits_at areas i j d && not (i == i && (share_column c d && b))) apart
    ∙ (ap (λ (b : Bool). fits_at areas i j d && not (i == i && b)) (and-false-right (share_column c d))
    ∙ (ap (λ (b : Bool). fits_at areas i j d && not b) (and-false-right (i == i))
    ∙ and-true-right (fits_at areas i j d))))

-- the columns of an area that is read
pub read-low :
    (areas : List Area) (i : ℕ) (a : Area) (k : Kind) → slice_get areas i ≡ Some a
    → fits_at areas i k Low ≡ fits_column k a.low
read-low [] i a k is = absurd (cc)
read-low (b ∷ areas) zero a k is =
    let same : b ≡ a = cc in
    ap (λ (c : Area). fits_column k c.low) same
read-low (b ∷ areas) (suc i) a k is = read-low areas i a k is

pub read-high :
    (areas : List Area) (i : ℕ) (a : Area) (k : Kind) → slice_get areas i ≡ Some a
    → fits_at areas i k High ≡ fits_column k a.high
read-high [] i a k is = absurd (cc)
read-high (b ∷ areas) zero a k is =
    let same : b ≡ a = cc in
    ap (λ (c : Area). fits_column k c.high) same
read-high (b ∷ areas) (suc i) a k is = read-high areas i a k is

pub from-low :
    (areas : List Area) (i : ℕ) (a : Area) → slice_get areas i ≡ Some a
    → columns_from areas i ≡ a.low ∷ columns_behind areas i Low
from-low [] i a is = absurd (cc)
from-low (b ∷ areas) zero a is =
    let same : b ≡ a = cc in
    ap (λ (c : Area). c.low ∷ b.high ∷ columns areas) same
from-low (b ∷ areas) (suc i) a is = from-low areas i a is

pub from-high :
    (areas : List Area) (i : ℕ) (a : Area) → slice_get areas i ≡ Some a
    → columns_behind areas i Low ≡ a.high ∷ columns_behind areas i High
from-high [] i a is = absurd (cc)
from-high (b ∷ areas) zero a is =
    let same : b ≡ a = cc in
    ap (λ (c : Area). c.high ∷ columns areas) same
from-high (b ∷ areas) (suc i) a is = from-high areas i a is

pub from-none : (areas : List Area) → columns_from areas zero ≡ columns areas
from-none [] = refl
from-none (a ∷ areas) = refl

pub from-next : (areas : List Area) (i : ℕ) → columns_behind areas i High ≡ columns_from areas (suc i)
from-next [] i = refl
from-next (a ∷ areas) zero = sym (from-none areas)
from-next (a ∷ areas) (suc i) = from-next areas i

pub from-end : (areas : List Area) (i : ℕ) → length areas ≤ i → columns_from areas i ≡ []
from-end [] i end = refl
from-end (a ∷ areas) zero end = absurd (omega arith)
from-end (a ∷ areas) (suc i) end = from-end areas i (omega arith)

-- ---- room

-- a column with both rows free has a free cell in each
y-below : (k : Kind) (cs : List Column) → room Y cs ≤ room k cs
y-below k [] = omega arith
y-below k (c ∷ more) = omega (arith, one k c, y-below k more) where
  one : (k : Kind) (c : Column) → cond (fits_column Y c) 1 0 ≤ cond {A = ℕ} (fits_column k c) 1 0
  one X Both = omega arith
  one X Upper = omega arith
  one X Lower = omega arith
  one X Neither = omega arith
  one Y Both = omega arith
  one Y Upper = omega arith
  one Y Lower = omega arith
  one Y Neither = omega arith
  one Z Both = omega arith
  one Z Upper = omega arith
  one Z Lower = omega arith
  one Z Neither = omega arith

-- what a piece uses of a column, from what waits and fits
used-is :
    (waiting : ℕ) (kind : Kind) (c : Column)
    → (used waiting kind c ≡ 0) × (waiting ≡ 0)
    ⊎ (used waiting kind c ≡ cond (fits_column kind c) 1 0)
used-is zero kind c = inl (refl, refl)
used-is (suc n) kind c = inr (ap {B = ℕ} (λ (b : Bool). cond (b && fits_column kind c) 1 0) some) where
  some : nat_lt 0 (suc n) ≡ true
  some = grind (arith, nat_tests)

-- where a Y was placed, the next columns have room for the rest
pub room-y :
    (x y z left : ℕ) (c : Column) (more : List Column) → left + used y Y c ≡ y → left < y
    → IsRoom x y z (c ∷ more) → IsRoom x left z more
room-y x y z left c more is less before = placed (used-is y Y c) where
  one : (c : Column) (k : Kind) → cond {A = ℕ} (fits_column k c) 1 0 ≤ 1
  one Both X = omega arith
  one Both Y = omega arith
  one Both Z = omega arith
  one Upper X = omega arith
  one Upper Y = omega arith
  one Upper Z = omega arith
  one Lower X = omega arith
  one Lower Y = omega arith
  one Lower Z = omega arith
  one Neither X = omega arith
  one Neither Y = omega arith
  one Neither Z = omega arith

  placed :
      (used y Y c ≡ 0) × (y ≡ 0) ⊎ (used y Y c ≡ cond (fits_column Y c) 1 0) → IsRoom x left z more
  placed (inl none) = absurd (omega arith)
  placed (inr some) = record {
    both = omega (arith, before.both, some, one c Y, one c X, one c Z);
    upper = omega (arith, before.upper, some, one c Y, one c X, one c Z);
    lower = omega (arith, before.lower, some, one c Y, one c X, one c Z);
  }

-- where no Y was placed, so have they once an X and a Z were placed that wait and fit
pub room-xz :
    (x y z x_left y_left z_left : ℕ) (c : Column) (more : List Column) → y ≤ y_left → y_left + used y Y c ≡ y
    → x_left + used x X c ≡ x → z_left + used z Z c ≡ z → IsRoom x y z (c ∷ more)
    → IsRoom x_left y_left z_left more
room-xz x y z x_left y_left z_left c more none is_y is_x is_z before =
    left (used-is y Y c) (used-is x X c) (used-is z Z c)
  where
    left :
        (used y Y c ≡ 0) × (y ≡ 0) ⊎ (used y Y c ≡ cond (fits_column Y c) 1 0)
        → (used x X c ≡ 0) × (x ≡ 0) ⊎ (used x X c ≡ cond (fits_column X c) 1 0)
        → (used z Z c ≡ 0) × (z ≡ 0) ⊎ (used z Z c ≡ cond (fits_column Z c) 1 0)
        → IsRoom x_left y_left z_left more
    left ys xs zs =
        let both : y ≤ room Y more = omega (arith, ys, before.both, none, is_y) in
        record {
          both = omega (arith, both, is_y);
          upper = omega (arith, both, xs, is_x, is_y, none, before.upper, y-below X more);
          lower = omega (arith, both, zs, is_z, is_y, none, before.lower, y-below Z more);
        }

-- ---- boards

changed-none : (spot : Spot) (a b : Puzzle) → b ≡ a → IsChanged spot a b
changed-none spot a b same =
    subst (λ (c : Puzzle). IsChanged spot a c) (sym same)
    (record { onward = onward-none a; behind = refl; others = λ kind c apart. refl })

changed-placed : (kind : Kind) (spot : Spot) (a b : Puzzle) → IsFirstPlaced kind One spot a b → IsChanged spot a b
changed-placed kind spot a b placed = record {
  onward = placed.onward;
  behind =
      ap (λ areas. columns_behind areas spot.area High) placed.free
      ∙ behind-clear_at (free_areas a) spot.area kind spot.columns;
  others = λ j c apart.
      ap (λ areas. fits_at areas spot.area j c) placed.free
      ∙ others-clear_at (free_areas a) spot.area kind j spot.columns c apart;
}

pub changed-any :
    (kind : Kind) (n : ℕ) (spot : Spot) (a b : Puzzle) → PlacedIfAny kind n spot a b → IsChanged spot a b
changed-any kind n spot a b (inl none) = changed-none spot a b none.1
changed-any kind n spot a b (inr one) = changed-placed kind spot a b one.1

pub changed-more : (spot : Spot) (a b c : Puzzle) → IsChanged spot a b → IsChanged spot b c → IsChanged spot a c
changed-more spot a b c first then = record {
  onward = onward-more a b c first.onward then.onward;
  behind = then.behind ∙ first.behind;
  others = λ kind d apart. then.others kind d apart ∙ first.others kind d apart;
}

-- where nothing was used, nothing was placed
pub same-if-none :
    (kind : Kind) (n : ℕ) (spot : Spot) (a b : Puzzle) → PlacedIfAny kind n spot a b → n ≡ 0 → b ≡ a
same-if-none kind n spot a b (inl none) is = none.1
same-if-none kind n spot a b (inr one) is = absurd (omega arith)

-- the row of a Z is as it was once an X is placed
pub row-any :
    (n : ℕ) (spot : Spot) (a b : Puzzle) → PlacedIfAny X n spot a b
    → fits_at (free_areas b) spot.area Z spot.columns ≡ fits_at (free_areas a) spot.area Z spot.columns
row-any n spot a b (inl none) = ap (λ (c : Puzzle). fits_at (free_areas c) spot.area Z spot.columns) none.1
row-any n spot a b (inr one) =
    ap (λ areas. fits_at areas spot.area Z spot.columns) one.1.free
    ∙ row-clear_at (free_areas a) spot.area X Z spot.columns spot.columns refl

-- the counts once a piece was placed if there was any
counts-any :
    (kind : Kind) (n : ℕ) (spot : Spot) (a b : Puzzle) → PlacedIfAny kind n spot a b → (k : Kind) (w : Width)
    → piece_count b k w + cond (same_letter kind k && same_width One w) n 0 ≡ piece_count a k w
counts-any kind n spot a b (inl none) k w =
    omega (
      arith,
      ap {B = ℕ} (λ (c : Puzzle). piece_count c k w) none.1,
      ap {B = ℕ} (λ (m : ℕ). cond (same_letter kind k && same_width One w) m 0) none.0,
      nothing (same_letter kind k && same_width One w),
    )
  where
    nothing : (t : Bool) → cond {A = ℕ} t 0 0 ≡ 0
    nothing true = refl
    nothing false = refl
counts-any kind n spot a b (inr one) k w =
    omega (
      arith,
      one.1.counts k w,
      ap {B = ℕ} (λ (m : ℕ). cond (same_letter kind k && same_width One w) m 0) one.0,
    )

pub waiting-y :
    (x y z left n : ℕ) (spot : Spot) (a b : Puzzle) → IsWaiting a x y z → left + n ≡ y → PlacedIfAny Y n spot a b
    → IsWaiting b x left z
waiting-y x y z left n spot a b waiting is placed =
    let counts = counts-any Y n spot a b placed in
    record {
      x1 = omega (arith, counts X One, waiting.x1);
      y1 = omega (arith, counts Y One, waiting.y1);
      z1 = omega (arith, counts Z One, waiting.z1);
      x2 = omega (arith, counts X Two, waiting.x2);
      y2 = omega (arith, counts Y Two, waiting.y2);
      z2 = omega (arith, counts Z Two, waiting.z2);
    }

pub waiting-x :
    (x y z left n : ℕ) (spot : Spot) (a b : Puzzle) → IsWaiting a x y z → left + n ≡ x → PlacedIfAny X n spot a b
    → IsWaiting b left y z
waiting-x x y z left n spot a b waiting is placed =
    let counts = counts-any X n spot a b placed in
    record {
      x1 = omega (arith, counts X One, waiting.x1);
      y1 = omega (arith, counts Y One, waiting.y1);
      z1 = omega (arith, counts Z One, waiting.z1);
      x2 = omega (arith, counts X Two, waiting.x2);
      y2 = omega (arith, counts Y Two, waiting.y2);
      z2 = omega (arith, counts Z Two, waiting.z2);
    }

pub waiting-z :
    (x y z left n : ℕ) (spot : Spot) (a b : Puzzle) → IsWaiting a x y z → left + n ≡ z → PlacedIfAny Z n spot a b
    → IsWaiting b x y left
waiting-z x y z left n spot a b waiting is placed =
    let counts = counts-any Z n spot a b placed in
    record {
      x1 = omega (arith, counts X One, waiting.x1);
      y1 = omega (arith, counts Y One, waiting.y1);
      z1 = omega (arith, counts Z One, waiting.z1);
      x2 = omega (arith, counts X Two, waiting.x2);
      y2 = omega (arith, counts Y Two, waiting.y2);
      z2 = omega (arith, counts Z Two, waiting.z2);
    }

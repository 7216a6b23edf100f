-- No fewer variables would do than those beyond the most pieces that can stay.
use Rattle.std.proofs.Common.{ℕ, ◌≡◌, ◌≤◌, ◌+◌, ◌↔◌, Bool, true, false, refl, sym, ◌∙◌, ap, subst, List, [], length, map, arith}
use Rattle.std.specs.Prelude.{IsTrue}
use Rattle.std.specs.Bool.{OnTrue}
use Rattle.std.specs.List.Sorted.{IsPermutation, IsSorted}
use Rattle.std.specs.Ordering.{nat_cmp}
use Rattle.pcc_base.specs.declared.run.Width.{Width}
use Rattle.pcc_base.specs.declared.run.Width.TheVariants.{One, Two}
use Rattle.puzzle_board.specs.declared.area.Area.{Area}
use Rattle.puzzle_board.specs.declared.area.AreaKind.TheVariants.{E, U1, L1, C, U0, L0, UpperLower, UpperNone}
use Rattle.puzzle_board.specs.declared.area.AreaKind.TheVariants.{LowerNone}
use Rattle.puzzle_board.specs.declared.piece.Kind.{Kind}
use Rattle.puzzle_board.specs.declared.piece.Kind.TheVariants.{X, Y, Z}
use Rattle.puzzle_board.specs.declared.piece.Piece.{Piece}
use Rattle.puzzle_board.specs.declared.piece.State.{State}
use Rattle.puzzle_board.specs.Boards.{Puzzle, areas_of_kind, free_areas, is_piece, piece_count, pieces_of}
use Rattle.puzzle_board.specs.Boards.{remaining, remaining_in, standing}
use Rattle.puzzle_board.specs.Bounds.{IsBounded, counts_of}
use Rattle.puzzle_board.specs.Placements.{IsSolvable}
use Rattle.puzzle_solver.specs.declared.board_counts.AreaCounts.{AreaCounts}
use Rattle.puzzle_solver.specs.declared.board_counts.PieceCounts.{PieceCounts}
use Rattle.puzzle_solver.specs.Counting.{AreasAre, PiecesAre}
use Rattle.puzzle_solver.specs.Onward.{is_removed}
use Rattle.puzzle_solver.specs.Prefixes.{Fits, without_variables}
use Rattle.puzzle_solver.specs.Solved.{IsSolved}
use Rattle.puzzle_solver.proofs.Ends.{all-free, counted-bounded, kept-counted, solved-solvable}
use Rattle.least_spill.specs.Least.{IsLeast}
use Rattle.least_spill.specs.Most.{CanStay, IsMost, total}
use Rattle.least_spill.specs.Removing.{AreApart, IsWithout, occurrences}
use Rattle.least_spill.proofs.Ordered.{permuted-occurs, permuted-states, sorted-ascends, without-pieces}
use Rattle.least_spill.proofs.Removals.{fewer-rests, length-rests, remaining-rests, rests, six-kinds, without-areas}
use Rattle.least_spill.proofs.Removals.{without-stands}
use Rattle.least_spill.proofs.Taking.{counted-remaining}

-- ---- the same areas

-- where nothing stands, the areas are counted as they are without variables
pub areas-without :
    (board : Puzzle) (vs : List ℕ) (a : AreaCounts) → standing board ≡ [] → AreasAre board a
    → AreasAre (without_variables board vs) a
areas-without board vs a none are = record {
  e = are.e ∙ ap (λ (areas : List Area). areas_of_kind areas E) same;
  u1 = are.u1 ∙ ap (λ (areas : List Area). areas_of_kind areas U1) same;
  l1 = are.l1 ∙ ap (λ (areas : List Area). areas_of_kind areas L1) same;
  c = are.c ∙ ap (λ (areas : List Area). areas_of_kind areas C) same;
  u0 = are.u0 ∙ ap (λ (areas : List Area). areas_of_kind areas U0) same;
  l0 = are.l0 ∙ ap (λ (areas : List Area). areas_of_kind areas L0) same;
  upper_lower = are.upper_lower ∙ ap (λ (areas : List Area). areas_of_kind areas UpperLower) same;
  upper_none = are.upper_none ∙ ap (λ (areas : List Area). areas_of_kind areas UpperNone) same;
  lower_none = are.lower_none ∙ ap (λ (areas : List Area). areas_of_kind areas LowerNone) same;
} where
  same : free_areas board ≡ free_areas (without_variables board vs)
  same =
      all-free board none
      ∙ (sym (without-areas board vs)
      ∙ sym (all-free (without_variables board vs) (without-stands board vs none)))

-- ---- no fewer variables

-- how many pieces remain, by kind and width
abbrev counted : Puzzle → PieceCounts
counted board = record {
  x1 = piece_count board X One;
  x2 = piece_count board X Two;
  y1 = piece_count board Y One;
  y2 = piece_count board Y Two;
  z1 = piece_count board Z One;
  z2 = piece_count board Z Two;
}

-- they are all pieces
all-counted :
    (board : Puzzle) (p : PieceCounts) → standing board ≡ [] → PiecesAre board p → length (remaining board) ≡ total p
all-counted board p none are =
    omega (
      arith,
      six-kinds (remaining board),
      are.x1,
      are.x2,
      are.y1,
      are.y2,
      are.z1,
      are.z2,
      counted-remaining board X One none,
      counted-remaining board X Two none,
      counted-remaining board Y One none,
      counted-remaining board Y Two none,
      counted-remaining board Z One none,
      counted-remaining board Z Two none,
    )

-- no more of a kind and width remain without variables
fewer-counted :
    (board : Puzzle) (vs : List ℕ) (k : Kind) (w : Width) → standing board ≡ []
    → piece_count (without_variables board vs) k w ≤ piece_count board k w
fewer-counted board vs k w none =
    let here = counted-remaining board k w none in
    let there = counted-remaining (without_variables board vs) k w (without-stands board vs none) in
    let same = ap (λ (ps : List Piece). pieces_of ps k w) (remaining-rests board vs) in
    omega (arith, here, there, same, fewer-rests (is_piece k w) vs (remaining board))

-- what is left without variables that do can stay
can-stay :
    (board : Puzzle) (a : AreaCounts) (p : PieceCounts) (vs : List ℕ) → standing board ≡ [] → AreasAre board a
    → PiecesAre board p → Fits board vs → CanStay a p (counted (without_variables board vs))
can-stay board a p vs none areas are fits = record {
  part = record {
    x1 = omega (arith, are.x1, fewer-counted board vs X One none);
    x2 = omega (arith, are.x2, fewer-counted board vs X Two none);
    y1 = omega (arith, are.y1, fewer-counted board vs Y One none);
    y2 = omega (arith, are.y2, fewer-counted board vs Y Two none);
    z1 = omega (arith, are.z1, fewer-counted board vs Z One none);
    z2 = omega (arith, are.z2, fewer-counted board vs Z Two none);
  };
  bounded =
      counted-bounded (without_variables board vs) a (counted (without_variables board vs))
      (without-stands board vs none)
      (areas-without board vs a none areas)
      (record { x1 = refl; x2 = refl; y1 = refl; y2 = refl; z1 = refl; z2 = refl })
      (subst (λ (given : List Area). IsSolvable given (remaining (without_variables board vs)))
      (sym (without-areas board vs)) fits);
}

-- so they are as many as are beyond the most
pub no-fewer :
    (board : Puzzle) (a : AreaCounts) (p kept : PieceCounts) (n : ℕ) (vs : List ℕ) → standing board ≡ []
    → AreApart board → AreasAre board a → PiecesAre board p → IsMost a p kept → n + total kept ≡ total p
    → Fits board vs → n ≤ length vs
no-fewer board a p kept n vs none apart areas are most beyond fits =
    let left = counted (without_variables board vs) in
    let all : length (remaining (without_variables board vs)) ≡ total left =
    all-counted (without_variables board vs) left (without-stands board vs none)
    (record { x1 = refl; x2 = refl; y1 = refl; y2 = refl; z1 = refl; z2 = refl }) in
    let same = ap (λ (ps : List Piece). length ps) (remaining-rests board vs) in
    bounded-by n (total p) (total kept) (total left) (length (remaining board))
    (length (rests vs (remaining board))) (length vs) beyond (most.most left (can-stay board a p vs none areas are fits))
    (all-counted board p none are) (sym same ∙ all) (length-rests vs (remaining board) apart) where
      bounded-by : (n p kept left here there vs : ℕ) → n + kept ≡ p → left ≤ kept → here ≡ p → there ≡ left
          → here ≤ there + vs → n ≤ vs
      bounded-by n p kept left here there vs beyond few all rest each = omega arith

-- ---- the answer

surely : (r : Bool) (P : Type 0) → IsTrue r → OnTrue r P → P
surely true P is solved = solved
surely false P is solved = absurd (cc)

-- what can stay is solved
pub kept-solved :
    (base now new : Puzzle) (a : AreaCounts) (p kept : PieceCounts) (removed : List ℕ) (r : Bool) → standing base ≡ []
    → AreasAre base a → IsWithout base removed now → standing now ≡ [] → PiecesAre now kept → IsMost a p kept
    → IsTrue r ↔ IsBounded (counts_of now.areas (remaining now)) → OnTrue r (IsSolved now new) → IsSolved now new
kept-solved base now new a p kept removed r none areas without stands are most exact solved =
    let here : AreasAre now a =
    subst (λ (b : Puzzle). AreasAre b a) (sym without.board) (areas-without base removed a none areas) in
    surely r (IsSolved now new) (exact.1 (kept-counted now a kept stands here are most.stay.bounded)) solved

remaining-same :
    (old new : Puzzle) → new.pieces ≡ old.pieces → new.states ≡ old.states → remaining new ≡ remaining old
remaining-same old new pieces states =
    ap (λ (ps : List Piece). remaining_in ps new.states) pieces
    ∙ ap (λ (ss : List State). remaining_in old.pieces ss) states

-- a board that was solved is one without the variables in any order
pub solved-permuted :
    (base now new : Puzzle) (removed sorted : List ℕ) → IsWithout base removed now → IsPermutation removed sorted
    → IsSolved now new → IsSolved (without_variables base sorted) new
solved-permuted base now new removed sorted without permuted solved = record {
  onward = record {
    areas =
        solved.onward.areas
        ∙ (ap (λ (b : Puzzle). b.areas) without.board
        ∙ (without-areas base removed ∙ sym (without-areas base sorted)));
    pieces =
        solved.onward.pieces
        ∙ (ap (λ (b : Puzzle). b.pieces) without.board
        ∙ (without-pieces base removed ∙ sym (without-pieces base sorted)));
    removed =
        solved.onward.removed
        ∙ (ap (λ (b : Puzzle). map is_removed b.states) without.board
        ∙ ap (λ (states : List State). map is_removed states) (permuted-states base removed sorted permuted));
  };
  placed = solved.placed;
}

-- and so they fit
pub fits-permuted :
    (base new : Puzzle) (sorted : List ℕ) → IsSolved (without_variables base sorted) new → Fits base sorted
fits-permuted base new sorted solved =
    subst (λ (given : List Area). IsSolvable given (remaining (without_variables base sorted)))
    (without-areas base sorted)
    (solved-solvable (without_variables base sorted) new solved)

pub is-least :
    (base now new : Puzzle) (a : AreaCounts) (p kept : PieceCounts) (removed sorted : List ℕ) → standing base ≡ []
    → AreApart base → AreasAre base a → PiecesAre base p → IsMost a p kept → IsWithout base removed now
    → length sorted + total kept ≡ total p → IsPermutation removed sorted → IsSorted nat_cmp sorted
    → IsSolved now new → IsLeast base sorted
is-least base now new a p kept removed sorted none apart areas are most without beyond permuted up solved = record {
  ascending = sorted-ascends sorted up once;
  fits = fits-permuted base new sorted (solved-permuted base now new removed sorted without permuted solved);
  least = λ other fits. no-fewer base a p kept (length sorted) other none apart areas are most beyond fits;
} where
  once : (v : ℕ) → occurrences v sorted ≤ 1
  once v = omega (arith, without.once v, permuted-occurs removed sorted permuted v)

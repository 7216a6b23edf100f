-- How the counts of a board change when a piece is placed.
use Rattle.std.proofs.Common.{ℕ, zero, suc, ◌≡◌, ◌+◌, refl, sym, ◌∙◌, ap, subst, Bool, true, false, not, ◌&&◌, ◌||◌}
use Rattle.std.proofs.Common.{cond, IsTrue, List, [], ◌∷◌, map, slice_get, slice_set, Some, None, ◌==◌, arith}
use Rattle.std.proofs.lemmas.Bool.{eqb-true, and_parts}
use Rattle.std.proofs.lemmas.List.Sums.{sum_by-cons}
use Rattle.pcc_base.specs.declared.run.Width.{Width}
use Rattle.puzzle_board.specs.declared.area.Area.{Area}
use Rattle.puzzle_board.specs.declared.area.AreaKind.{AreaKind}
use Rattle.puzzle_board.specs.declared.area.AreaKind.TheVariants.{E, U1, L1, C, U0, L0, UpperLower, UpperNone}
use Rattle.puzzle_board.specs.declared.area.AreaKind.TheVariants.{LowerNone, Full}
use Rattle.puzzle_board.specs.declared.area.Column.{Column}
use Rattle.puzzle_board.specs.declared.piece.Columns.TheVariants.{All}
use Rattle.puzzle_board.specs.declared.piece.Kind.{Kind}
use Rattle.puzzle_board.specs.declared.piece.Piece.{Piece}
use Rattle.puzzle_board.specs.declared.piece.Spot.{Spot}
use Rattle.puzzle_board.specs.declared.piece.State.{State}
use Rattle.puzzle_board.specs.declared.piece.State.TheVariants.{Unplaced, At, Removed}
use Rattle.puzzle_board.specs.Areas.{cleared, fits_area, kind_of, place_of_kind, same_kind}
use Rattle.puzzle_board.specs.Placements.{clear_at, fits_at}
use Rattle.puzzle_board.specs.Boards.{is_piece, pieces_of, unplaced_in}
use Rattle.puzzle_board.specs.Worth.{after_wide, area_of, worth}
use Rattle.puzzle_board.proofs.Prices.{all_columns, all_columns-at, all_letters, all_letters-at}

-- ---- kinds

kind_at : ℕ → AreaKind
kind_at n =
    cond (n == 0) E
    (cond (n == 1) U1
    (cond (n == 2) L1
    (cond (n == 3) C
    (cond (n == 4) U0
    (cond (n == 5) L0
    (cond (n == 6) UpperLower (cond (n == 7) UpperNone (cond (n == 8) LowerNone Full))))))))

kind_at-place : (k : AreaKind) → kind_at (place_of_kind k) ≡ k
unfolding kind_at
kind_at-place E = refl
kind_at-place U1 = refl
kind_at-place L1 = refl
kind_at-place C = refl
kind_at-place U0 = refl
kind_at-place L0 = refl
kind_at-place UpperLower = refl
kind_at-place UpperNone = refl
kind_at-place LowerNone = refl
kind_at-place Full = refl

-- kinds that are the same are equal
pub same_kind-equal : (j k : AreaKind) → IsTrue (same_kind j k) → j ≡ k
same_kind-equal j k same =
    sym (kind_at-place j) ∙ (ap kind_at (eqb-true (place_of_kind j) (place_of_kind k) same) ∙ kind_at-place k)

-- ---- pieces of width Two

abbrev like_kind : (low high : Column) → Kind → Bool
like_kind low high k =
    let a : Area = record { low = low; high = high } in
    let b : Area = area_of (kind_of a) in
    (not (fits_area b k All) || fits_area a k All) && same_kind (kind_of (cleared a k All)) (kind_of (cleared b k All))

-- what a piece of width Two leaves of an area is known from the area's kind
like_its_kind : (a : Area) (k : Kind) → IsTrue (like_kind a.low a.high k)
like_its_kind a k =
    all_letters-at
    (λ k. like_kind a.low a.high k)
    (all_columns-at
    (λ high. all_letters (λ k. like_kind a.low high k))
    (all_columns-at (λ low. all_columns (λ high. all_letters (λ k. like_kind low high k))) refl a.low)
    a.high)
    k

implies : (a b : Bool) → IsTrue (not a || b) → IsTrue a → IsTrue b
implies true b either is = either
implies false b either is = absurd (cc)

-- where there is a kind of area left, the piece fits
chosen : (fits : Bool) (after : AreaKind) (left : AreaKind) → cond fits (Some after) None ≡ Some left → IsTrue fits
    × (after ≡ left)
chosen true after left is = (refl, cc)
chosen false after left is = absurd (cc)

pub wide_area :
    (a : Area) (k : Kind) (left : AreaKind) → after_wide k (kind_of a) ≡ Some left
    → IsTrue (fits_area a k All) × (kind_of (cleared a k All) ≡ left)
wide_area a k left is =
    let b = area_of (kind_of a) in
    let choice = chosen (fits_area b k All) (kind_of (cleared b k All)) left is in
    let parts = and_parts (not (fits_area b k All) || fits_area a k All) _ (like_its_kind a k) in (
      implies (fits_area b k All) (fits_area a k All) parts.0 choice.0,
      same_kind-equal (kind_of (cleared a k All)) (kind_of (cleared b k All)) parts.1 ∙ choice.1,
    )

-- a piece of width Two fits in an area of a kind that it fits in
pub wide-fits :
    (areas : List Area) (i : ℕ) (k : Kind) (from left : AreaKind) → slice_get (map kind_of areas) i ≡ Some from
    → after_wide k from ≡ Some left → IsTrue (fits_at areas i k All)
wide-fits [] i k from left is after = absurd (cc)
wide-fits (a ∷ areas) zero k from left is after =
    let same : from ≡ kind_of a = cc in
    (wide_area a k left (subst (λ (kind : AreaKind). after_wide k kind ≡ Some left) same after)).0
wide-fits (a ∷ areas) (suc i) k from left is after = wide-fits areas i k from left is after

-- the worth of a board once a piece of width Two is placed
pub worth-wide :
    (prices : AreaKind → ℕ) (areas : List Area) (i : ℕ) (k : Kind) (from left : AreaKind)
    → slice_get (map kind_of areas) i ≡ Some from → after_wide k from ≡ Some left
    → worth prices (clear_at areas i k All) + prices from ≡ worth prices areas + prices left
worth-wide prices [] i k from left is after = absurd (cc)
worth-wide prices (a ∷ areas) zero k from left is after =
    let same : from ≡ kind_of a = cc in
    let there = (wide_area a k left (subst (λ (kind : AreaKind). after_wide k kind ≡ Some left) same after)).1 in
    omega (
      arith,
      sum_by-cons (λ b. prices (kind_of b)) a areas,
      sum_by-cons (λ b. prices (kind_of b)) (cleared a k All) areas,
      ap prices there,
      ap prices same,
    )
worth-wide prices (a ∷ areas) (suc i) k from left is after =
    omega (
      arith,
      sum_by-cons (λ b. prices (kind_of b)) a areas,
      sum_by-cons (λ b. prices (kind_of b)) a (clear_at areas i k All),
      worth-wide prices areas i k from left is after,
    )

-- ---- pieces

-- the pieces of a kind and a width that are unplaced once one is placed
pub pieces_of-placed :
    (pieces : List Piece) (states : List State) (i : ℕ) (p : Piece) (spot : Spot) (k : Kind) (w : Width)
    → slice_get pieces i ≡ Some p → slice_get states i ≡ Some Unplaced
    → pieces_of (unplaced_in pieces (slice_set states i (At spot))) k w + cond (is_piece k w p) 1 0
    ≡ pieces_of (unplaced_in pieces states) k w
pieces_of-placed [] states i p spot k w is free = absurd (cc)
pieces_of-placed (q ∷ pieces) [] i p spot k w is free = absurd (cc)
pieces_of-placed (q ∷ pieces) (Unplaced ∷ states) zero p spot k w is free =
    let same : q ≡ p = cc in
    omega (
      arith,
      sum_by-cons (λ r. cond (is_piece k w r) 1 0) q (unplaced_in pieces states),
      ap {B = ℕ} (λ (r : Piece). cond (is_piece k w r) 1 0) same,
    )
pieces_of-placed (q ∷ pieces) (At other ∷ states) zero p spot k w is free = absurd (cc)
pieces_of-placed (q ∷ pieces) (Removed ∷ states) zero p spot k w is free = absurd (cc)
pieces_of-placed (q ∷ pieces) (Unplaced ∷ states) (suc i) p spot k w is free =
    omega (
      arith,
      sum_by-cons (λ r. cond (is_piece k w r) 1 0) q (unplaced_in pieces states),
      sum_by-cons (λ r. cond (is_piece k w r) 1 0) q (unplaced_in pieces (slice_set states i (At spot))),
      pieces_of-placed pieces states i p spot k w is free,
    )
pieces_of-placed (q ∷ pieces) (At other ∷ states) (suc i) p spot k w is free =
    pieces_of-placed pieces states i p spot k w is free
pieces_of-placed (q ∷ pieces) (Removed ∷ states) (suc i) p spot k w is free =
    pieces_of-placed pieces states i p spot k w is free

-- What stands on a board once a piece more is placed, and that it stands legally.
use Rattle.std.proofs.Common.{ℕ, zero, suc, ◌≡◌, ◌<◌, refl, ◌∙◌, ap, subst, not, ◌==◌, IsTrue}
use Rattle.std.proofs.Common.{List, [], ◌∷◌, length, slice_set, slice_get, slice_index_or, Some, arith}
use Rattle.std.proofs.lemmas.Bool.Decides.{nat_tests}
use Rattle.std.specs.List.{AllByRecursion}
use Rattle.std.proofs.lemmas.Bool.{and_parts}
use Rattle.puzzle_board.specs.declared.area.Area.{Area}
use Rattle.puzzle_board.specs.declared.piece.Columns.{Columns}
use Rattle.puzzle_board.specs.declared.piece.Columns.TheVariants.{Low, High, All}
use Rattle.puzzle_board.specs.declared.piece.Kind.{Kind}
use Rattle.puzzle_board.specs.declared.piece.Kind.TheVariants.{X, Y, Z}
use Rattle.puzzle_board.specs.declared.piece.Piece.{Piece}
use Rattle.puzzle_board.specs.declared.piece.Spot.{Spot}
use Rattle.puzzle_board.specs.declared.piece.State.{State}
use Rattle.puzzle_board.specs.declared.piece.State.TheVariants.{Unplaced, At, Removed}
use Rattle.puzzle_board.specs.Areas.{cleared, share_column, share_row}
use Rattle.puzzle_board.specs.Placements.{Standing, fits_at, fits, overlap, clear_at, clear, clear_all, IsLegal}
use Rattle.puzzle_board.specs.Boards.{standing_in}
use Rattle.puzzle_board.proofs.Cells.{fits-clear, clear-comm}

-- ---- tests

pub share_column-comm : (c d : Columns) → share_column c d ≡ share_column d c
share_column-comm Low Low = refl
share_column-comm Low High = refl
share_column-comm Low All = refl
share_column-comm High Low = refl
share_column-comm High High = refl
share_column-comm High All = refl
share_column-comm All Low = refl
share_column-comm All High = refl
share_column-comm All All = refl

share_row-comm : (k j : Kind) → share_row k j ≡ share_row j k
share_row-comm X X = refl
share_row-comm X Y = refl
share_row-comm X Z = refl
share_row-comm Y X = refl
share_row-comm Y Y = refl
share_row-comm Y Z = refl
share_row-comm Z X = refl
share_row-comm Z Y = refl
share_row-comm Z Z = refl

equal-comm : (i m : ℕ) → (i == m) ≡ (m == i)
equal-comm i m = grind (arith, nat_tests)

-- two pieces have a cell in common in either order
pub overlap-comm : (s t : Standing) → overlap s t ≡ overlap t s
overlap-comm s t =
    rw (
      equal-comm s.spot.area t.spot.area,
      share_column-comm s.spot.columns t.spot.columns,
      share_row-comm s.piece.kind t.piece.kind,
    )

-- ---- fitting among others

-- a piece that fits where others have taken their cells fits on the board, and has no cell in common with them
pub fits-clear_all :
    (areas : List Area) (more : List Standing) (s : Standing) → IsTrue (fits (clear_all areas more) s)
    → IsTrue (fits areas s) × AllByRecursion (λ t. IsTrue (not (overlap s t))) more
fits-clear_all areas [] s holds = (holds, tt)
fits-clear_all areas (t ∷ more) s holds =
    let parts = and_parts _ _ (subst IsTrue (fits-clear (clear_all areas more) t s) holds) in
    let below = fits-clear_all areas more s parts.0 in
    (below.0, (subst (λ b. IsTrue (not b)) (overlap-comm t s) parts.1, below.1))

-- what fits lies on the board
pub fits_at-below :
    (areas : List Area) (i : ℕ) (k : Kind) (c : Columns) → IsTrue (fits_at areas i k c) → i < length areas
fits_at-below [] i k c holds = absurd (cc)
fits_at-below (a ∷ areas) zero k c holds = omega arith
fits_at-below (a ∷ areas) (suc i) k c holds = omega (arith, fits_at-below areas i k c holds)

-- taking cells changes one area
pub clear_at-set :
    (areas : List Area) (i : ℕ) (k : Kind) (c : Columns) (d : Area) → i < length areas
    → clear_at areas i k c ≡ slice_set areas i (cleared (slice_index_or areas i d) k c)
clear_at-set [] i k c d within = absurd (omega arith)
clear_at-set (a ∷ areas) zero k c d within = refl
clear_at-set (a ∷ areas) (suc i) k c d within = ap (λ more. a ∷ more) (clear_at-set areas i k c d (omega arith))

-- ---- one piece more

-- what holds of the placed pieces and of the new one holds of all
AllByRecursion-placed :
    (P : Standing → Type 0) (pieces : List Piece) (states : List State) (i : ℕ) (p : Piece) (spot : Spot)
    → slice_get pieces i ≡ Some p → slice_get states i ≡ Some Unplaced
    → AllByRecursion P (standing_in pieces states) → P (record { piece = p; spot = spot })
    → AllByRecursion P (standing_in pieces (slice_set states i (At spot)))
AllByRecursion-placed P [] states i p spot is free all new = absurd (cc)
AllByRecursion-placed P (q ∷ pieces) [] i p spot is free all new = absurd (cc)
AllByRecursion-placed P (q ∷ pieces) (Unplaced ∷ states) zero p spot is free all new =
    let same : p ≡ q = cc in
    (subst (λ r. P (record { piece = r; spot = spot })) same new, all)
AllByRecursion-placed P (q ∷ pieces) (At other ∷ states) zero p spot is free all new = absurd (cc)
AllByRecursion-placed P (q ∷ pieces) (Removed ∷ states) zero p spot is free all new = absurd (cc)
AllByRecursion-placed P (q ∷ pieces) (Unplaced ∷ states) (suc i) p spot is free all new =
    AllByRecursion-placed P pieces states i p spot is free all new
AllByRecursion-placed P (q ∷ pieces) (At other ∷ states) (suc i) p spot is free all new =
    (all.0, AllByRecursion-placed P pieces states i p spot is free all.1 new)
AllByRecursion-placed P (q ∷ pieces) (Removed ∷ states) (suc i) p spot is free all new =
    AllByRecursion-placed P pieces states i p spot is free all new

-- the free cells are those that the new piece leaves of the ones that were free
pub clear_all-placed :
    (areas : List Area) (pieces : List Piece) (states : List State) (i : ℕ) (p : Piece) (spot : Spot)
    → slice_get pieces i ≡ Some p → slice_get states i ≡ Some Unplaced
    → clear_all areas (standing_in pieces (slice_set states i (At spot)))
    ≡ clear (clear_all areas (standing_in pieces states)) (record { piece = p; spot = spot })
clear_all-placed areas [] states i p spot is free = absurd (cc)
clear_all-placed areas (q ∷ pieces) [] i p spot is free = absurd (cc)
clear_all-placed areas (q ∷ pieces) (Unplaced ∷ states) zero p spot is free =
    let same : q ≡ p = cc in
    ap
    (λ (r : Piece). clear (clear_all areas (standing_in pieces states)) (record { piece = r; spot = spot }))
    same
clear_all-placed areas (q ∷ pieces) (At other ∷ states) zero p spot is free = absurd (cc)
clear_all-placed areas (q ∷ pieces) (Removed ∷ states) zero p spot is free = absurd (cc)
clear_all-placed areas (q ∷ pieces) (Unplaced ∷ states) (suc i) p spot is free =
    clear_all-placed areas pieces states i p spot is free
clear_all-placed areas (q ∷ pieces) (At other ∷ states) (suc i) p spot is free =
    let first : Standing = record { piece = q; spot = other } in
    ap (λ (free : List Area). clear free first) (clear_all-placed areas pieces states i p spot is free)
    ∙ clear-comm (clear_all areas (standing_in pieces states)) (record { piece = p; spot = spot }) first
clear_all-placed areas (q ∷ pieces) (Removed ∷ states) (suc i) p spot is free =
    clear_all-placed areas pieces states i p spot is free

-- a piece that is put on free cells stands legally among the others
pub IsLegal-placed :
    (areas : List Area) (pieces : List Piece) (states : List State) (i : ℕ) (p : Piece) (spot : Spot)
    → slice_get pieces i ≡ Some p → slice_get states i ≡ Some Unplaced → IsLegal areas (standing_in pieces states)
    → IsTrue (fits (clear_all areas (standing_in pieces states)) (record { piece = p; spot = spot }))
    → IsLegal areas (standing_in pieces (slice_set states i (At spot)))
IsLegal-placed areas [] states i p spot is free legal holds = absurd (cc)
IsLegal-placed areas (q ∷ pieces) [] i p spot is free legal holds = absurd (cc)
IsLegal-placed areas (q ∷ pieces) (Unplaced ∷ states) zero p spot is free legal holds =
    let same : p ≡ q = cc in
    let here = subst
    (λ (r : Piece).
    IsTrue (fits (clear_all areas (standing_in pieces states)) (record { piece = r; spot = spot })))
    same
    holds in
    let parts = fits-clear_all areas (standing_in pieces states) (record { piece = q; spot = spot }) here in
    (parts.0, parts.1, legal)
IsLegal-placed areas (q ∷ pieces) (At other ∷ states) zero p spot is free legal holds = absurd (cc)
IsLegal-placed areas (q ∷ pieces) (Removed ∷ states) zero p spot is free legal holds = absurd (cc)
IsLegal-placed areas (q ∷ pieces) (Unplaced ∷ states) (suc i) p spot is free legal holds =
    IsLegal-placed areas pieces states i p spot is free legal holds
IsLegal-placed areas (q ∷ pieces) (At other ∷ states) (suc i) p spot is free legal holds =
    let first : Standing = record { piece = q; spot = other } in
    let new : Standing = record { piece = p; spot = spot } in
    let before = clear_all areas (standing_in pieces states) in
    let parts = and_parts (fits before new) (not (overlap first new))
    (subst IsTrue (fits-clear before first new) holds) in (
      legal.0,
      AllByRecursion-placed (λ t. IsTrue (not (overlap first t))) pieces states i p spot is free legal.1 parts.1,
      IsLegal-placed areas pieces states i p spot is free legal.2 parts.0,
    )
IsLegal-placed areas (q ∷ pieces) (Removed ∷ states) (suc i) p spot is free legal holds =
    IsLegal-placed areas pieces states i p spot is free legal holds

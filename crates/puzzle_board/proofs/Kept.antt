-- Each call keeps what every board keeps.
use Rattle.std.proofs.Common.{ℕ, zero, suc, ◌≡◌, ◌≢◌, ◌<◌, ◌≤◌, refl, sym, ◌∙◌, ap, subst, Bool, true, false, cond}
use Rattle.std.proofs.Common.{◌==◌}
use Rattle.std.proofs.Common.{List, [], ◌∷◌, ◌++◌, length, map, slice_set, slice_get, slice_index_or, Some, arith}
use Rattle.std.proofs.Common.{take, length-append, length-set}
use Rattle.std.proofs.lemmas.List.{length-map}
use Rattle.std.proofs.lemmas.Bool.{ne_eqb, and_parts}
use Rattle.std.specs.List.{AllByRecursion}
use Rattle.puzzle_board.specs.declared.area.Area.{Area}
use Rattle.puzzle_board.specs.declared.piece.Columns.{Columns}
use Rattle.puzzle_board.specs.declared.piece.Kind.{Kind}
use Rattle.puzzle_board.specs.declared.piece.Piece.{Piece}
use Rattle.puzzle_board.specs.declared.piece.Spot.{Spot}
use Rattle.puzzle_board.specs.declared.piece.State.{State}
use Rattle.puzzle_board.specs.declared.piece.State.TheVariants.{Unplaced, At, Removed}
use Rattle.puzzle_board.specs.Areas.{cleared, is_of_width}
use Rattle.puzzle_board.specs.Placements.{Standing, fits_at, clear_at, clear_all, IsLegal}
use Rattle.puzzle_board.specs.Boards.{Puzzle, IsKept, IsPlaceable, free_areas, lifted, removed_in, standing}
use Rattle.puzzle_board.specs.Boards.{standing_in, with_none_placed, with_piece, with_spot, without_variable}
use Rattle.puzzle_board.proofs.Standings.{IsLegal-placed, clear_all-placed, clear_at-set, fits_at-below}

-- ---- lists

slice_get-index :
    {A : Type 0} (xs : List A) (i : ℕ) (x d : A) → slice_get xs i ≡ Some x → slice_index_or xs i d ≡ x
slice_get-index [] i x d is = absurd (cc)
slice_get-index (y ∷ xs) zero x d is = cc
slice_get-index (y ∷ xs) (suc i) x d is = slice_get-index xs i x d is

-- an element that is read is there
pub slice_get-read :
    {A : Type 0} (xs : List A) (i : ℕ) (x : A) → i < length xs → x ≡ slice_index_or xs i x
    → slice_get xs i ≡ Some x
slice_get-read [] i x within is = absurd (omega arith)
slice_get-read (y ∷ xs) zero x within is = ap Some (sym is)
slice_get-read (y ∷ xs) (suc i) x within is = slice_get-read xs i x (omega arith) is

-- a vector that was written over as far as it goes
pub take-front : {A : Type 0} (xs ys : List A) (n : ℕ) → length xs ≡ n → take n (xs ++ ys) ≡ xs
take-front [] ys n same = rw (sym same) refl
take-front (x ∷ xs) ys zero same = absurd (omega arith)
take-front (x ∷ xs) ys (suc n) same = ap (λ more. x ∷ more) (take-front xs ys n (omega arith))

-- ---- lengths

length-clear_at : (areas : List Area) (i : ℕ) (k : Kind) (c : Columns) → length (clear_at areas i k c) ≡ length areas
length-clear_at [] i k c = refl
length-clear_at (a ∷ areas) zero k c = refl
length-clear_at (a ∷ areas) (suc i) k c = ap suc (length-clear_at areas i k c)

pub length-clear_all : (areas : List Area) (more : List Standing) → length (clear_all areas more) ≡ length areas
length-clear_all areas [] = refl
length-clear_all areas (s ∷ more) =
    length-clear_at (clear_all areas more) s.spot.area s.piece.kind s.spot.columns ∙ length-clear_all areas more

pub length-removed_in :
    (pieces : List Piece) (states : List State) (v : ℕ) → length (removed_in pieces states v) ≡ length states
length-removed_in [] states v = refl
length-removed_in (p ∷ pieces) [] v = refl
length-removed_in (p ∷ pieces) (s ∷ states) v = ap suc (length-removed_in pieces states v)

-- the free cells are kept by area
pub kept-length : (board : Puzzle) (free : List Area) → IsKept board free → length free ≡ length board.areas
kept-length board free kept = ap length kept.left ∙ length-clear_all board.areas (standing board)

-- ---- what stands

-- a new piece stands nowhere
pub standing_in-more :
    (pieces : List Piece) (states : List State) (p : Piece) → length states ≡ length pieces
    → standing_in (pieces ++ p ∷ []) (states ++ Unplaced ∷ []) ≡ standing_in pieces states
standing_in-more [] [] p same = refl
standing_in-more [] (s ∷ states) p same = absurd (omega arith)
standing_in-more (q ∷ pieces) [] p same = absurd (omega arith)
standing_in-more (q ∷ pieces) (Unplaced ∷ states) p same = standing_in-more pieces states p (omega arith)
standing_in-more (q ∷ pieces) (At spot ∷ states) p same =
    ap (λ more. record { piece = q; spot = spot } ∷ more) (standing_in-more pieces states p (omega arith))
standing_in-more (q ∷ pieces) (Removed ∷ states) p same = standing_in-more pieces states p (omega arith)

-- a piece that stands nowhere stands nowhere once it is removed
unplaced-removed :
    (pieces : List Piece) (states : List State) (p : Piece) (b : Bool)
    → standing_in (p ∷ pieces) (cond b Removed Unplaced ∷ states) ≡ standing_in pieces states
unplaced-removed pieces states p true = refl
unplaced-removed pieces states p false = refl

removed-removed :
    (pieces : List Piece) (states : List State) (p : Piece) (b : Bool)
    → standing_in (p ∷ pieces) (cond b Removed Removed ∷ states) ≡ standing_in pieces states
removed-removed pieces states p true = refl
removed-removed pieces states p false = refl

-- what stands where no piece of the variable does
pub standing_in-removed :
    (pieces : List Piece) (states : List State) (v : ℕ)
    → AllByRecursion (λ s. s.piece.var ≢ v) (standing_in pieces states)
    → standing_in pieces (removed_in pieces states v) ≡ standing_in pieces states
standing_in-removed [] states v others = refl
standing_in-removed (p ∷ pieces) [] v others = refl
standing_in-removed (p ∷ pieces) (Unplaced ∷ states) v others =
    unplaced-removed pieces (removed_in pieces states v) p (p.var == v) ∙ standing_in-removed pieces states v others
standing_in-removed (p ∷ pieces) (At spot ∷ states) v others =
    rw (ne_eqb p.var v others.0)
    (ap (λ more. record { piece = p; spot = spot } ∷ more) (standing_in-removed pieces states v others.1))
standing_in-removed (p ∷ pieces) (Removed ∷ states) v others =
    removed-removed pieces (removed_in pieces states v) p (p.var == v) ∙ standing_in-removed pieces states v others

pub standing_in-lifted : (pieces : List Piece) (states : List State) → standing_in pieces (map lifted states) ≡ []
standing_in-lifted [] states = refl
standing_in-lifted (p ∷ pieces) [] = refl
standing_in-lifted (p ∷ pieces) (Unplaced ∷ states) = standing_in-lifted pieces states
standing_in-lifted (p ∷ pieces) (At spot ∷ states) = standing_in-lifted pieces states
standing_in-lifted (p ∷ pieces) (Removed ∷ states) = standing_in-lifted pieces states

-- ---- the calls

-- what stands the same leaves the same cells free
same-standing :
    (board new : Puzzle) (free : List Area) → IsKept board free → new.areas ≡ board.areas
    → standing new ≡ standing board → length new.states ≡ length new.pieces → length new.pieces ≤ 0xffffffff
    → IsKept new free
same-standing board new free kept areas same states few = record {
  kept = record {
    states = states;
    legal =
        let P : List Area → List Standing → Type 0 = λ a s. IsLegal a s in
        subst (λ s. P new.areas s) (sym same) (subst (λ a. P a (standing board)) (sym areas) kept.kept.legal);
    few_areas = subst (λ a. length a ≤ 0xffffffff) (sym areas) kept.kept.few_areas;
    few_pieces = few;
  };
  left = kept.left ∙ (ap (λ a. clear_all a (standing board)) (sym areas) ∙ ap (λ s. clear_all new.areas s) (sym same));
}

pub kept-piece :
    (board : Puzzle) (free : List Area) (p : Piece) → IsKept board free → length board.pieces < 0xffffffff
    → IsKept (with_piece board p) free
kept-piece board free p kept room =
    same-standing board (with_piece board p) free kept refl
    (standing_in-more board.pieces board.states p kept.kept.states)
    (omega (arith, length-append board.states (Unplaced ∷ []), length-append board.pieces (p ∷ []), kept.kept.states))
    (omega (arith, length-append board.pieces (p ∷ [])))

pub kept-removed :
    (board : Puzzle) (free : List Area) (v : ℕ) → IsKept board free
    → AllByRecursion (λ s. s.piece.var ≢ v) (standing board) → IsKept (without_variable board v) free
kept-removed board free v kept others =
    same-standing board (without_variable board v) free kept refl
    (standing_in-removed board.pieces board.states v others)
    (length-removed_in board.pieces board.states v ∙ kept.kept.states)
    kept.kept.few_pieces

pub kept-lifted :
    (board : Puzzle) (free : List Area) → IsKept board free → IsKept (with_none_placed board) board.areas
kept-lifted board free kept = record {
  kept = record {
    states = length-map board.states lifted ∙ kept.kept.states;
    legal = rw (standing_in-lifted board.pieces board.states) tt;
    few_areas = kept.kept.few_areas;
    few_pieces = kept.kept.few_pieces;
  };
  left = rw (standing_in-lifted board.pieces board.states) refl;
}

-- the spot of a piece that fits is on the board
pub placeable-below :
    (board : Puzzle) (free : List Area) (number : ℕ) (spot : Spot) → IsKept board free
    → IsPlaceable board number spot → spot.area < length free
placeable-below board free number spot kept (p, is, holds) =
    let parts = and_parts
    (is_of_width p.width spot.columns)
    (fits_at (free_areas board) spot.area p.kind spot.columns)
    holds in
    subst (λ (areas : List Area). spot.area < length areas) (sym kept.left)
    (fits_at-below (free_areas board) spot.area p.kind spot.columns parts.1)

-- a piece that is put on free cells, with what it takes of its area
pub kept-placed :
    (board : Puzzle) (free : List Area) (number : ℕ) (spot : Spot) (read : Piece) (a : Area) → IsKept board free
    → IsPlaceable board number spot → read ≡ slice_index_or board.pieces number read
    → a ≡ slice_index_or free spot.area a
    → IsKept (with_spot board number spot) (slice_set free spot.area (cleared a read.kind spot.columns))
kept-placed board free number spot read a kept (p, unplaced, holds) read-is a-is =
    let same : read ≡ p = read-is ∙ slice_get-index board.pieces number p read unplaced.is in
    let within = placeable-below board free number spot kept (p, unplaced, holds) in
    record {
      kept = record {
        states = length-set board.states number (At spot) ∙ kept.kept.states;
        legal = IsLegal-placed board.areas board.pieces board.states number p spot unplaced.is unplaced.unplaced
            kept.kept.legal holds;
        few_areas = kept.kept.few_areas;
        few_pieces = kept.kept.few_pieces;
      };
      left =
          (ap (λ (b : Area). slice_set free spot.area (cleared b read.kind spot.columns)) a-is
          ∙ sym (clear_at-set free spot.area read.kind spot.columns a within))
          ∙ (ap (λ (q : Piece). clear_at free spot.area q.kind spot.columns) same
          ∙ (ap (λ (areas : List Area). clear_at areas spot.area p.kind spot.columns) kept.left
          ∙ sym (clear_all-placed board.areas board.pieces board.states number p spot unplaced.is unplaced.unplaced)));
    }

-- Lemmas on the answers on boards.
use Rattle.std.proofs.Common.{◌≡◌, ℕ, Bool, List, [], ◌∷◌, map, drop, codes}
use Rattle.std.proofs.Common.{refl, sym, ap, ◌∙◌, subst, inl, inr}
use Rattle.puzzle_board.specs.declared.area.Area.{Area}
use Rattle.puzzle_board.specs.declared.piece.Piece.{Piece}
use Rattle.puzzle_board.specs.declared.piece.State.{State}
use Rattle.puzzle_board.specs.declared.piece.State.TheVariants.{Unplaced, At, Removed}
use Rattle.puzzle_board.specs.Boards.{Puzzle, remaining, remaining_in, standing, standing_in}
use Rattle.puzzle_board.specs.Placements.{IsLegalPlacement, IsSolvable}
use Rattle.puzzle_solver.specs.Onward.{is_removed}
use Rattle.puzzle_solver.specs.Solved.{IsSolved}
use Rattle.puzzle_solver.specs.Reading.{fresh_board}
use Rattle.puzzle_solver.specs.Texts.{placement_text}
use Rattle.pcc_driver.specs.Solutions.{IsAnswer}

-- ---- boards on which nothing is placed or removed

none_stands : (pieces : List Piece) → standing_in pieces (map (λ (p : Piece). Unplaced) pieces) ≡ []
none_stands [] = refl
none_stands (p ∷ pieces) = none_stands pieces

pub fresh_stands : (board : Puzzle) → board ≡ fresh_board board.areas board.pieces → standing board ≡ []
fresh_stands board fresh = ap (λ (b : Puzzle). standing b) fresh ∙ none_stands board.pieces

-- where no piece is removed all remain
all_remain : (pieces : List Piece) (states : List State)
    → map is_removed states ≡ map is_removed (map (λ (p : Piece). Unplaced) pieces)
    → remaining_in pieces states ≡ pieces
all_remain [] states e = refl
all_remain (p ∷ pieces) [] e = absurd (cc)
all_remain (p ∷ pieces) (Unplaced ∷ states) e =
    ap (λ (more : List Piece). p ∷ more) (all_remain pieces states (ap (λ (bs : List Bool). drop 1 bs) e))
all_remain (p ∷ pieces) (At spot ∷ states) e =
    ap (λ (more : List Piece). p ∷ more) (all_remain pieces states (ap (λ (bs : List Bool). drop 1 bs) e))
all_remain (p ∷ pieces) (Removed ∷ states) e = absurd (cc)

-- ---- answers

-- the text of a solved board answers
pub placed_answer : (board new : Puzzle) (answer : List ℕ) → board ≡ fresh_board board.areas board.pieces
    → IsSolved board new → answer ≡ placement_text new → IsAnswer board.areas board.pieces answer
placed_answer board new answer fresh solved is =
    let flags : map is_removed new.states ≡ map is_removed (map (λ (p : Piece). Unplaced) new.pieces) =
    solved.onward.removed ∙ (ap (λ (b : Puzzle). map is_removed b.states) fresh
    ∙ ap (λ (ps : List Piece). map is_removed (map (λ (p : Piece). Unplaced) ps)) (sym solved.onward.pieces)) in
    let every : remaining new ≡ board.pieces = all_remain new.pieces new.states flags ∙ solved.onward.pieces in
    inl (record {
      board = new;
      areas_are = solved.onward.areas;
      pieces_are = solved.onward.pieces;
      placed = subst (λ (ps : List Piece). IsLegalPlacement board.areas ps (standing new)) every
          (subst (λ (a : List Area). IsLegalPlacement a (remaining new) (standing new)) solved.onward.areas
          solved.placed);
      answer_is = is;
    })

-- so does `none` for a board that isn't solvable
pub none_answer : (board : Puzzle) (answer : List ℕ) → board ≡ fresh_board board.areas board.pieces
    → (IsSolvable board.areas (remaining board) → ⊥) → answer ≡ codes "none\n"
    → IsAnswer board.areas board.pieces answer
none_answer board answer fresh none is =
    let every : remaining board ≡ board.pieces =
    all_remain board.pieces board.states (ap (λ (b : Puzzle). map is_removed b.states) fresh) in
    inr (subst (λ (ps : List Piece). IsSolvable board.areas ps → ⊥) every none, is)

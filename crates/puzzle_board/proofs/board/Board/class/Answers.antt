use Rattle.std.proofs.Common.{◌≡◌, ◌<◌, ℕ, List, length, slice_get, slice_index_or, Some, arith, ◌∙◌, sym, ap}
use Rattle.puzzle_board.specs.declared.area.Area.{Area}
use Rattle.puzzle_board.specs.Boards.{Puzzle, IsKept, free_areas}
use Rattle.puzzle_board.proofs.Kept.{kept-length, slice_get-read}
use Rattle.puzzle_board.proofs.board.Board.class.Goals as goal

pub index-requires : goal.index-requires
index-requires g c =
    let same = kept-length _ _ c.self.invariant.kept in
    let now = ap (λ (b : Puzzle). length b.areas) c.self.view_is in
    omega (arith, same, now, c.requires)

-- what is read of the free cells
read : (board now : Puzzle) (free : List Area) (i : ℕ) (a : Area) → IsKept board free → board ≡ now
    → i < length free → a ≡ slice_index_or free i a → slice_get (free_areas now) i ≡ Some a
read board now free i a kept same within is =
    ap (λ (b : Puzzle). slice_get (free_areas b) i) (sym same)
    ∙ (ap (λ (areas : List Area). slice_get areas i) (sym kept.left) ∙ slice_get-read free i a within is)

pub returns-clause-value : goal.returns-clause-value
returns-clause-value g c =
    let same = kept-length _ _ c.self.invariant.kept in
    let now = ap (λ (b : Puzzle). length b.areas) c.self.view_is in
    read _ _ _ _ _ c.self.invariant.kept c.self.view_is (omega (arith, same, now, c.requires)) c.index.ensures

use Rattle.puzzle_board.proofs.Necessary.{solvable_is_bounded}
use Rattle.puzzle_board.proofs.bounds.solvable_is_bounded.Goals as goal

pub returns : goal.returns
returns c = solvable_is_bounded

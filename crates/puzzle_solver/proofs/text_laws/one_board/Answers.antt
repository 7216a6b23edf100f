use Rattle.puzzle_solver.proofs.OneText.{one-board}
use Rattle.puzzle_solver.proofs.text_laws.one_board.Goals as goal

pub returns : goal.returns
returns c = one-board

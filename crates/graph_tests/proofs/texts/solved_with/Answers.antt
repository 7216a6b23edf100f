use Rattle.graph_tests.proofs.Fresh.{fresh-stands}
use Rattle.graph_tests.proofs.texts.solved_with.Goals as goal

pub solve-requires : goal.solve-requires
solve-requires g c = fresh-stands c.in_ok-board.board c.in_ok-board.ensures.read.fresh

use Rattle.least_spill.proofs.Single.{numbered-single}
use Rattle.graph_tests.proofs.Fresh.{fresh-stands}
use Rattle.graph_tests.proofs.fewest.removed_with.Goals as goal

pub least-requires-clause-unplaced : goal.least-requires-clause-unplaced
least-requires-clause-unplaced g c = fresh-stands c.in_ok-board.board c.in_ok-board.ensures.read.fresh

pub least-requires-clause-single : goal.least-requires-clause-single
least-requires-clause-single g c = numbered-single c.in_ok-board.board c.in_ok-board.ensures.read.numbered

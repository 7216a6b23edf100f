-- A board on which nothing stands, whose pieces are numbered.
use Rattle.least_spill.proofs.Single.{numbered-single}
use Rattle.pcc_driver.proofs.Solving.{fresh_stands}
use Rattle.pcc_driver.proofs.least.removal_on.Goals as goal

pub least-requires-clause-unplaced : goal.least-requires-clause-unplaced
least-requires-clause-unplaced g c = fresh_stands c.args.board.now c.requires.fresh

pub least-requires-clause-single : goal.least-requires-clause-single
least-requires-clause-single g c = numbered-single c.args.board.now c.requires.numbered

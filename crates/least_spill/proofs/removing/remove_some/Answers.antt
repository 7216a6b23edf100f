use Rattle.least_spill.proofs.Taking.{still-some}
use Rattle.least_spill.proofs.removing.remove_some.Goals as goal

pub remove_one-requires-clause-some : goal.remove_one-requires-clause-some
remove_one-requires-clause-some g c =
    still-some c.args.kind c.args.width c.loop-taken._taken c.args.count c.args.board.now c.loop-taken.board
    c.args.removed.now.items c.loop-taken.removed.items c.loop-taken.invariant.taken c.requires.enough
    c.loop-taken-test.true

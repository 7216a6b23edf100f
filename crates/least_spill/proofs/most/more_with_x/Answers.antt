use Rattle.std.proofs.Common.{arith}
use Rattle.least_spill.proofs.Choices.{before-row}
use Rattle.least_spill.proofs.most.more_with_x.Goals as goal

pub returns : goal.returns
returns c =
    before-row c.args.areas c.args.pieces c.args.x c.loop-z.z c.loop-z.best c.loop-z.invariant (omega arith)

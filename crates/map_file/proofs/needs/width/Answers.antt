use Rattle.std.proofs.Common.{arith}
use Rattle.map_file.proofs.Variables.{width_at, width_past}
use Rattle.map_file.proofs.needs.width.Goals as goal

pub returns-then-index-len : goal.returns-then-index-len
returns-then-index-len c =
    width_at c.args.function.now.vars.items c.args.variable c.index.result.now
    (omega (arith, c.len.ensures, c.if-index-len.true)) c.index.ensures

pub returns-else-index-len : goal.returns-else-index-len
returns-else-index-len c =
    width_past c.args.function.now.vars.items c.args.variable (omega (arith, c.len.ensures, c.if-index-len.false))

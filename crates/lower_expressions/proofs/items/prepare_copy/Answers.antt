use Rattle.std.proofs.Common.{w32}
use Rattle.std.proofs.lemmas.Int.{to_z-of_z}
use Rattle.lower_expressions.proofs.Chained.{three-numbers}
use Rattle.lower_expressions.proofs.items.prepare_copy.Goals as goal

pub returns : goal.returns
returns c = three-numbers _ _ _ c.args.count _ c.in_ok-to.to c.in_ok-from.from c.in_ok-one.one
    (to_z-of_z w32 c.args.count (record { sfits = c.ranges.count.sfits })) c.in_ok-to.ensures c.in_ok-from.ensures
    c.in_ok-one.ensures c.in_ok-emit.ensures c.in_ok-emit-2.ensures c.in_ok-emit-3.ensures

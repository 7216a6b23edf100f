use Rattle.std.proofs.Common.{◌∙◌}
use Rattle.allocator.proofs.Placing.{listed-told}
use Rattle.allocator.proofs.variables.is_listed.Goals as goal

pub returns : goal.returns
returns c =
    c.is_ok.ensures.value
    ∙ listed-told c.args.vars.now c.args.var c.binary_search.result c.requires c.binary_search.ensures.position

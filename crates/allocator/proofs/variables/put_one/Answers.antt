use Rattle.std.proofs.Common.{◌∙◌}
use Rattle.allocator.proofs.OneMore.{one-found, one-put}
use Rattle.allocator.proofs.variables.put_one.Goals as goal

pub returns-in_ok-insert : goal.returns-in_ok-insert
returns-in_ok-insert c =
    c.in_ok-insert.ensures.items
    ∙ one-put c.args.var c.in-Err.place c.args.vars.now.items c.deref.result.now c.binary_search.result
    c.deref.ensures.value c.in-Err.is c.requires c.binary_search.ensures.position

pub returns-in_default : goal.returns-in_default
returns-in_default c =
    one-found c.args.var c.in_default.field-0 c.args.vars.now.items c.deref.result.now c.binary_search.result
    c.deref.ensures.value c.in_default.is c.requires c.binary_search.ensures.position

use Rattle.std.proofs.Common.{sym, ◌∙◌}
use Rattle.ia32_select.proofs.Nexts.{next-behind}
use Rattle.ia32_select.proofs.exits.next_points.Goals as goal

pub returns-in-Next : goal.returns-in-Next
returns-in-Next c =
    next-behind c.args.graph.now c.args.point c.op.result.now c.requires c.op.ensures c.is_flow.ensures.0
    c.is_flow.ensures.1 c.next.result (sym c.exit_of.ensures ∙ c.in-Next.is) c.next.ensures

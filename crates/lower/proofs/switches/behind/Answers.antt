use Rattle.std.proofs.Common.{rules, ◌≡◌, ◌∙◌, ◌-◌, length}
use Rattle.lower.proofs.Comparisons.{behind-count}
use Rattle.lower.proofs.switches.behind.Goals as goal

pub returns : goal.returns
returns c =
    let e : c.in_ok-blocks.blocks ≡ length c.args.cases.now - 1 = search rules in
    e ∙ behind-count c.args.cases.now

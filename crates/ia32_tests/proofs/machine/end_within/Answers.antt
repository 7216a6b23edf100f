use Rattle.std.proofs.Common.{◌∙◌}
use Rattle.ia32_tests.proofs.Ends.{ends_unread}
use Rattle.ia32_tests.proofs.machine.end_within.Goals as goal

pub returns : goal.returns
returns c = λ o runs.
    ends_unread _ c.args.machine _ _ _ _ _ o (c.new-input.ensures ∙ c.new-bytes.ensures.items) c.run.ensures.counted (c.run.ensures.told tt) runs

use Rattle.std.proofs.lemmas.Result.{IfOk-weaker}
use Rattle.c_typing.specs.Checked.{pair}
use Rattle.c_typing.specs.Statements.{alone}
use Rattle.c_check_statements.proofs.nodes.if_only.Goals as goal

pub returns : goal.returns
returns c = IfOk-weaker c.if_only_of.result _ _ (λ j row x a before between after first second.
    row (pair x (alone a)) before after (c.tested_parts.ensures x a before between after first second))
    c.if_only_of.ensures

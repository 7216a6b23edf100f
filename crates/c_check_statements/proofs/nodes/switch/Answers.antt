use Rattle.std.proofs.lemmas.Result.{IfOk-weaker}
use Rattle.c_typing.specs.Checked.{pair}
use Rattle.c_check_statements.proofs.nodes.switch.Goals as goal

pub returns : goal.returns
returns c = IfOk-weaker c.switch_of.result _ _ (λ j row x a b before between after front body.
    row (pair x (pair a b)) before after (c.cases.ensures x a b before between after front body))
    c.switch_of.ensures

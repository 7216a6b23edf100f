use Rattle.std.proofs.lemmas.Result.{IfOk-weaker}
use Rattle.c_typing.specs.Checked.{pair}
use Rattle.c_typing.specs.Statements.{alone}
use Rattle.c_check_statements.proofs.nodes.if_else.Goals as goal

pub returns : goal.returns
returns c = IfOk-weaker c.if_else_of.result _ _ (λ j row x a b before between after front other.
    row (pair x (pair a (alone b))) before after (c.branches.ensures x a b before between after front other))
    c.if_else_of.ensures

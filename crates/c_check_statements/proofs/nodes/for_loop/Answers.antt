use Rattle.std.proofs.lemmas.Result.{IfOk-weaker}
use Rattle.c_typing.specs.Checked.{pair}
use Rattle.c_typing.specs.Statements.{alone}
use Rattle.c_check_statements.proofs.nodes.for_loop.Goals as goal

pub returns : goal.returns
returns c = IfOk-weaker c.for_of.result _ _ (λ j row a b d e before between after front part.
    row (pair (pair a b) (pair d (alone e))) before after
    (c.turns.ensures (pair a b) d e before between after front part)) c.for_of.ensures

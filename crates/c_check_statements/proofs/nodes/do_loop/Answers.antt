use Rattle.std.proofs.lemmas.Result.{IfOk-weaker}
use Rattle.c_typing.specs.Checked.{pair}
use Rattle.c_typing.specs.Statements.{alone}
use Rattle.c_check_statements.proofs.nodes.do_loop.Goals as goal

pub returns-in-Ok : goal.returns-in-Ok
returns-in-Ok c = IfOk-weaker c.do_of.result _ _ (λ j row a x before part test.
    row (pair (alone a) x) before c.said_behind.new.notes (c.repeated_parts.ensures a x before c.args.notes.now
    c.said_behind.new.notes part (c.in-Ok.ensures x test))) c.do_of.ensures

use Rattle.c_syntax.specs.Expressions.{expr_of}
use Rattle.c_typing.specs.Statements.{condition}
use Rattle.c_check_statements.proofs.conditions.condition_if_any.Goals as goal

pub returns-in_ok-part-in-Some : goal.returns-in_ok-part-in-Some
returns-in_ok-part-in-Some c = rw (c.in-Some.is, ← c.deref.ensures) (c.some.ensures
    (condition c.args.scopes.now c.args.at (expr_of c.deref.result.now)) c.args.notes.now c.condition.new.notes
    c.in_ok-part-in-Some.ensures)

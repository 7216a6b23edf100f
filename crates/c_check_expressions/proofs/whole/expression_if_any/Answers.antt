use Rattle.c_syntax.specs.Expressions.{expr_of}
use Rattle.c_typing.specs.Expressions.{typed_expression}
use Rattle.c_check_expressions.proofs.whole.expression_if_any.Goals as goal

pub returns-in_ok-expression-in-Some-clause-said : goal.returns-in_ok-expression-in-Some-clause-said
returns-in_ok-expression-in-Some-clause-said c = rw (c.in-Some.is, ← c.deref.ensures) (c.some.ensures.said
    (typed_expression c.args.scopes.now (expr_of c.deref.result.now)) c.args.notes.now c.expression.new.notes
    c.in_ok-expression-in-Some.ensures.said)

pub returns-in_ok-expression-in-Some-clause-operand : goal.returns-in_ok-expression-in-Some-clause-operand
returns-in_ok-expression-in-Some-clause-operand c = c.some.ensures.operand c.in_ok-expression-in-Some.ensures.operand

use Rattle.c_syntax.specs.Declarations.{maybe_expr_of}
use Rattle.c_typing.specs.Statements.{condition_if_any}
use Rattle.c_check_statements.proofs.heads.and_test.Goals as goal

pub returns-in-Ok : goal.returns-in-Ok
returns-in-Ok c = λ part before said. c.start.ensures part
    (condition_if_any c.args.scopes.now c.args.at (maybe_expr_of c.args.e.now)) before c.args.notes.now
    c.condition_if_any.new.notes said c.in-Ok.ensures

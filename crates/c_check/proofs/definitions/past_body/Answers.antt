use Rattle.std.proofs.Common.{map}
use Rattle.c_syntax.specs.Declarations.{parameter_of}
use Rattle.c_syntax.specs.Statements.{stmt_of}
use Rattle.c_check.proofs.Bodies.{left_body}
use Rattle.c_check.proofs.definitions.past_body.Goals as goal

pub returns : goal.returns
returns c =
    let s = c.args.scopes.now in
    left_body s c.begin.new.scopes c.body.new.scopes c.leave.new.self (map parameter_of c.args.list.now)
    (stmt_of c.args.inside.now) c.in_ok-mark.ensures.0 c.in_ok-judged.ensures.scope
    (λ more names. c.leave.ensures s more names c.in_ok-mark.ensures.1 c.in_ok-mark.ensures.2)

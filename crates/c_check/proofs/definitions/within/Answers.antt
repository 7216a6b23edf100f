use Rattle.std.proofs.Common.{◌∙◌, map}
use Rattle.c_syntax.specs.Declarations.{parameter_of}
use Rattle.c_syntax.specs.Statements.{stmt_of}
use Rattle.c_check_names.specs.Views as views
use Rattle.c_check.proofs.Bodies.{left_body, within_said}
use Rattle.c_check.proofs.definitions.within.Goals as goal

pub returns-clause-said : goal.returns-clause-said
returns-clause-said c = within_said c.args.name.now (views.signature_of c.args.signature.now) c.args.scopes.now
    c.begin.new.scopes c.body.new.scopes (map parameter_of c.args.list.now) (stmt_of c.args.inside.now)
    c.in_ok-count.count c.in_ok-judged.judged c.in_ok-whole.whole c.args.notes.now c.body.new.notes
    c.in_ok-mark.ensures.0 (c.in_ok-count.ensures ∙ c.local_count-locals.ensures) c.in_ok-judged.ensures.said
    c.in_ok-judged.ensures.scope c.in_ok-whole.ensures

pub returns-clause-scope : goal.returns-clause-scope
returns-clause-scope c =
    let s = c.args.scopes.now in
    left_body s c.begin.new.scopes c.body.new.scopes c.leave.new.self (map parameter_of c.args.list.now)
    (stmt_of c.args.inside.now) c.in_ok-mark.ensures.0 c.in_ok-judged.ensures.scope
    (λ more names. c.leave.ensures s more names c.in_ok-mark.ensures.1 c.in_ok-mark.ensures.2)

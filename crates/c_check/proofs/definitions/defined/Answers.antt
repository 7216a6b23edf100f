use Rattle.std.proofs.Common.{map}
use Rattle.std.proofs.lemmas.Result.{IfOk-weaker}
use Rattle.c_syntax.specs.Declarations.{parameter_of}
use Rattle.c_syntax.specs.Statements.{stmt_of}
use Rattle.c_check_declarations.specs.Views.{specified_of}
use Rattle.c_check_names.specs.Views as views
use Rattle.c_check.proofs.Bodies.{defined_said, defined_scope, holds_ok}
use Rattle.c_check.proofs.definitions.defined.Goals as goal

pub returns-clause-said : goal.returns-clause-said
returns-clause-said c = IfOk-weaker c.noted.result _ _ (λ j row.
    defined_said (specified_of c.args.said) c.args.name.now (views.signature_of c.args.signature) c.args.scopes.now
    c.declare_function.new.scopes (map parameter_of c.args.list.now) (stmt_of c.args.inside.now)
    (views.entity_of c.in_ok-entity.entity) c.in_ok-part.part j c.args.notes.now c.within.new.notes c.noted.new.notes
    c.in_ok-entity.ensures.0 c.in_ok-entity.ensures.1 c.in_ok-part.ensures.said row)
    c.noted.ensures

pub returns-clause-scope : goal.returns-clause-scope
returns-clause-scope c = holds_ok c.noted.result _
    (defined_scope (specified_of c.args.said) c.args.name.now (views.signature_of c.args.signature) c.args.scopes.now
    c.declare_function.new.scopes c.within.new.scopes (map parameter_of c.args.list.now) (stmt_of c.args.inside.now)
    c.in_ok-entity.ensures.1 c.in_ok-part.ensures.scope)

use Rattle.c_syntax.specs.Declarations.{parameter_of}
use Rattle.c_check_declarations.proofs.Scoped.{scope_behind}
use Rattle.c_check_declarations.proofs.parameter_lists.parameter.Goals as goal

pub returns-clause-scope : goal.returns-clause-scope
returns-clause-scope c = scope_behind c.args.scopes.now c.declare_named.new.scopes c.args.definition
    (parameter_of c.args.p.now) c.in_ok-part.part c.in_ok-declare_named.ensures c.in_ok-part.ensures.0

use Rattle.std.proofs.Common.{map}
use Rattle.c_syntax.specs.Declarations.{parameter_of}
use Rattle.c_typing.specs.Declarators.{parameters_meant}
use Rattle.c_check_declarations.proofs.Scoped.{apart_same}
use Rattle.c_check_declarations.proofs.parameter_lists.parameters_apart.Goals as goal

pub returns-clause-scope : goal.returns-clause-scope
returns-clause-scope c =
    let s = c.args.scopes.now in
    apart_same s c.enter.new.self c.parameters.new.scopes c.leave.new.self c.forget_locals.new.self
    (parameters_meant (map parameter_of c.args.list.now)) c.local_count-locals.result c.in_ok-mark.ensures.0
    c.in_ok-types.ensures.scope
    (λ more names. c.leave.ensures s more names c.in_ok-mark.ensures.1 c.in_ok-mark.ensures.2)
    c.forget_locals.ensures c.local_count-locals.ensures

use Rattle.std.proofs.Common.{ap, ◌∙◌, Option}
use Rattle.c_syntax.specs.Declarations.{parameter_of}
use Rattle.c_tree.specs.declared.types.ValueType.{ValueType}
use Rattle.c_typing.specs.Declarators.{parameter_declared, parameter_place}
use Rattle.c_typing.specs.Types.{pointed}
use Rattle.c_check_declarations.specs.Together.{fault_answered, listed}
use Rattle.c_check_declarations.proofs.Sized.{with_faults, with_said}
use Rattle.c_check_declarations.proofs.parameter_lists.parameter_with.Goals as goal

pub returns-clause-said : goal.returns-clause-said
returns-clause-said c =
    let q = parameter_of c.args.p.now in
    with_said c.parameter_place.result (parameter_place q q.name) c.parameter_declared-of.result
    (parameter_declared (pointed c.args.base q.pointer) q.array) c.parameter_allowed.result c.parameter_place.ensures
    (c.parameter_declared-of.ensures ∙ ap (λ (t : Option ValueType). parameter_declared t q.array) c.pointed.ensures)
    c.parameter_allowed.ensures.said

pub returns-clause-fault : goal.returns-clause-fault
returns-clause-fault c =
    let q = parameter_of c.args.p.now in
    with_faults c.parameter_place.result (parameter_place q q.name) c.parameter_declared-of.result
    (parameter_declared (pointed c.args.base q.pointer) q.array) (listed (fault_answered c.parameter_allowed.result))
    c.parameter_place.ensures
    (c.parameter_declared-of.ensures ∙ ap (λ (t : Option ValueType). parameter_declared t q.array) c.pointed.ensures)
    c.parameter_allowed.ensures.fault

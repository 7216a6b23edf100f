use Rattle.std.proofs.Common.{ap, ◌∙◌}
use Rattle.c_syntax.specs.Declarations.{parameter_of}
use Rattle.c_typing.specs.Checked.{also, faults_in, if_fits}
use Rattle.c_typing.specs.Declarators.{parameter_faults, parameter_size, parameter_with}
use Rattle.c_check_declarations.specs.DeclaratorAnswers.{IsSame}
use Rattle.c_check_declarations.specs.Together.{listed}
use Rattle.c_check_declarations.proofs.Rows.{faults_said}
use Rattle.c_check_declarations.proofs.parameter_lists.based_parameter.Goals as goal

pub returns : goal.returns
returns c =
    let q = parameter_of c.args.p.now in
    let s = c.args.scopes.now in
    let of = parameter_with c.args.base q in
    faults_said IsSame c.fault_of-forbidden.result (faults_in of)
    (if_fits (parameter_size s q.array) (λ size. also (parameter_faults s c.args.definition q q.name) of))
    c.sized_parameter-part.result c.also.result c.args.notes.now c.parameter_size.new.notes
    (ap listed c.fault_of-forbidden.ensures ∙ c.parameter_with-of.ensures.fault) c.also.ensures
    (c.sized_parameter-part.ensures (parameter_size s q.array) of c.args.notes.now c.parameter_size.new.notes
    c.in_ok-size.ensures c.parameter_with-of.ensures.said)

use Rattle.std.proofs.Common.{ℕ, subst}
use Rattle.c_syntax.specs.Declarations.{parameter_of}
use Rattle.c_typing.specs.Checked.{also}
use Rattle.c_typing.specs.Declarators.{parameter_faults}
use Rattle.c_check_expressions.specs.declared.judged.Judged.{Judged}
use Rattle.c_check_expressions.specs.Said.{IsSaid}
use Rattle.c_check_declarations.specs.DeclaratorAnswers.{IsSame}
use Rattle.c_check_declarations.proofs.Rows.{fails_said, faults_said, then_said}
use Rattle.c_check_declarations.proofs.parameter_lists.sized_parameter.Goals as goal

pub returns-in-Fails : goal.returns-in-Fails
returns-in-Fails c = λ size of before after said row.
    let q = parameter_of c.args.p.now in
    fails_said IsSame IsSame (λ count. also (parameter_faults c.args.scopes.now c.args.definition q q.name) of) size
    c.in-Fails.fault before after after
    (subst (λ (z : Judged ℕ). IsSaid IsSame size z before after) c.in-Fails.is said)

pub returns-in-Fits : goal.returns-in-Fits
returns-in-Fits c = λ size of before after said row.
    let q = parameter_of c.args.p.now in
    let fs = parameter_faults c.args.scopes.now c.args.definition q q.name in
    then_said IsSame IsSame (λ count. also fs of) size c.in-Fits.field-0 c.also.result before after after
    (subst (λ (z : Judged ℕ). IsSaid IsSame size z before after) c.in-Fits.is said)
    (λ count same. faults_said IsSame c.parameter_fault.result fs of c.args.of c.also.result after after
    c.parameter_fault.ensures c.also.ensures (row after))

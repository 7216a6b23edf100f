use Rattle.std.proofs.Common.{subst, ℤ}
use Rattle.c_check_expressions.specs.Constants.{IsConstant}
use Rattle.c_typing.specs.Initialisers.{constant_for}
use Rattle.c_check_expressions.specs.Judged.{IsOperandOf}
use Rattle.c_check_expressions.specs.Said.{IsSaid}
use Rattle.c_check_declarations.specs.DeclaratorAnswers.{IsSame}
use Rattle.c_check_declarations.proofs.Rows.{then_said}
use Rattle.c_check_declarations.specs.InitialValues.{row_within}
use Rattle.c_check_declarations.proofs.initial_values.constant_within.Goals as goal

pub returns-in-Fits : goal.returns-in-Fits
returns-in-Fits c = λ part before after said.
    then_said IsOperandOf (IsSame {A = ℤ}) (row_within c.args.room (constant_for c.args.of) c.args.at) part
    c.in-Fits.operand c.constant_or_fault.result before after after
    (subst (λ p. IsSaid IsOperandOf part p before after) c.in-Fits.is said)
    (λ e h. c.constant_or_fault.ensures e c.args.of after (c.converted_value-value.ensures e
    (subst (λ x. IsConstant x c.in-Fits.operand.constant) h.0 h.1.0)))

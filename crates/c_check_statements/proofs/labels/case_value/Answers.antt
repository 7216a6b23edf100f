use Rattle.std.proofs.Common.{sym, subst, ℤ, Option}
use Rattle.c_check_expressions.specs.Constants.{IsConstant}
use Rattle.c_typing.specs.Constants.{constant_value}
use Rattle.c_typing.specs.Statements.{case_value}
use Rattle.c_check_expressions.specs.Judged.{IsOperandOf}
use Rattle.c_check_expressions.specs.Said.{IsSaid}
use Rattle.c_check_declarations.specs.DeclaratorAnswers.{IsSame}
use Rattle.c_check_declarations.proofs.Rows.{then_said}
use Rattle.c_check_statements.proofs.labels.case_value.Goals as goal

pub returns-in-Fits : goal.returns-in-Fits
returns-in-Fits c = λ part before after said.
    then_said IsOperandOf (IsSame {A = Option ℤ}) (λ x. case_value c.args.at (constant_value x)) part
    c.in-Fits.operand c.value_of.result before after after
    (subst (λ p. IsSaid IsOperandOf part p before after) c.in-Fits.is said)
    (λ e h. subst (λ v. IsSaid (IsSame {A = Option ℤ}) (case_value c.args.at v) c.value_of.result after after)
    (sym (c.value-value.ensures e (subst (λ x. IsConstant x c.in-Fits.operand.constant) h.0 h.1.0)))
    (c.value_of.ensures after))

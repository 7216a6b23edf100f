use Rattle.std.proofs.Common.{subst}
use Rattle.c_typing.specs.Statements.{returned}
use Rattle.c_check_expressions.specs.Said.{IsSaid}
use Rattle.c_check_expressions.specs.Maybe.{IsOperandIfAny}
use Rattle.c_check_declarations.specs.ItemAnswers.{IsTreeIfAny}
use Rattle.c_check_declarations.proofs.Rows.{then_said}
use Rattle.c_check_statements.proofs.conditions.returned_tree.Goals as goal

pub returns-in-Fits : goal.returns-in-Fits
returns-in-Fits c = λ part before after said.
    then_said IsOperandIfAny IsTreeIfAny (returned c.args.of c.args.at) part c.in-Fits.value c.returned_value.result
    before after after (subst (λ p. IsSaid IsOperandIfAny part p before after) c.in-Fits.is said)
    (λ x is. c.returned_value.ensures x after is)

use Rattle.std.proofs.Common.{subst}
use Rattle.c_check_expressions.specs.Judged.{IsOperandOf}
use Rattle.c_check_expressions.specs.Said.{IsSaid}
use Rattle.c_check_declarations.proofs.Sized.{size_said}
use Rattle.c_check_declarations.proofs.sizes.size_given.Goals as goal

pub returns-in-Fits : goal.returns-in-Fits
returns-in-Fits c = λ checked before after said. size_said c.args.opening c.in-Fits.operand c.value-value.result
    c.at_least_one.result checked before after c.value-value.ensures c.at_least_one.ensures
    (subst (λ j. IsSaid IsOperandOf checked j before after) c.in-Fits.is said)

use Rattle.std.proofs.Common.{sym, subst}
use Rattle.c_check_expressions.specs.Constants.{IsConstant}
use Rattle.c_tree.specs.Program.{Cast}
use Rattle.c_check_expressions.proofs.one_operand.constant_of.Goals as goal

pub returns-in-Integer : goal.returns-in-Integer
returns-in-Integer c = λ e known.
    subst (λ to. IsConstant (Cast to e) c.cast.result) (sym c.in-Integer.is) (c.cast.ensures e known)

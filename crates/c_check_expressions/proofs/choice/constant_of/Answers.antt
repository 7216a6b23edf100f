use Rattle.std.proofs.Common.{sym, subst}
use Rattle.c_check_expressions.specs.Constants.{IsConstant}
use Rattle.c_tree.specs.Program.{Conditional}
use Rattle.c_check_expressions.proofs.choice.constant_of.Goals as goal

pub returns-in-Integer : goal.returns-in-Integer
returns-in-Integer c = λ t a b test first second types ia ib.
    subst (λ of. IsConstant (Conditional of t a b) c.conditional.result) (sym c.in-Integer.is)
    (c.conditional.ensures t a b test first second)

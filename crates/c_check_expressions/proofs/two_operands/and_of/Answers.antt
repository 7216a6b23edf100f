use Rattle.std.proofs.Common.{refl}
use Rattle.c_tree.specs.Erased.{boxed_of}
use Rattle.c_tree.specs.Program.{And}
use Rattle.c_check_expressions.proofs.Operands.{operand_of}
use Rattle.c_check_expressions.proofs.two_operands.and_of.Goals as goal

pub returns : goal.returns
returns c = let a = boxed_of c.args.left.tree in let b = boxed_of c.args.right.tree in
    operand_of c.in_ok-tree.tree c.and-constant.result (And a b) c.in_ok-tree.ensures
    (c.and-constant.ensures a b c.requires.left.0 c.requires.right.0) (λ h. refl)

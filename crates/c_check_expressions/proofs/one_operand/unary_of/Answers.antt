use Rattle.std.proofs.Common.{refl}
use Rattle.c_tree.specs.Erased.{boxed_of}
use Rattle.c_tree.specs.Program.{Unary}
use Rattle.c_check_expressions.proofs.Operands.{operand_of}
use Rattle.c_check_expressions.proofs.one_operand.unary_of.Goals as goal

pub returns : goal.returns
returns c = let e = boxed_of c.args.operand.tree in
    operand_of c.in_ok-tree.tree c.unary-2.result (Unary c.args.of c.args.op e) c.in_ok-tree.ensures
    (c.unary-2.ensures e c.requires.0) (λ h. refl)

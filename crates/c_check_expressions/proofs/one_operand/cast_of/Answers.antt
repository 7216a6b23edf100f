use Rattle.c_tree.specs.Erased.{boxed_of}
use Rattle.c_tree.specs.Program.{Cast}
use Rattle.c_check_expressions.proofs.Operands.{operand_of, integral_cast}
use Rattle.c_check_expressions.proofs.one_operand.cast_of.Goals as goal

pub returns : goal.returns
returns c = let e = boxed_of c.args.operand.tree in
    operand_of c.in_ok-tree.tree c.constant_of.result (Cast c.args.to e) c.in_ok-tree.ensures
    (c.constant_of.ensures e c.requires.0) (integral_cast c.args.to e)

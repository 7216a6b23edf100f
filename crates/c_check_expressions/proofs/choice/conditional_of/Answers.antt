use Rattle.c_tree.specs.Erased.{boxed_of}
use Rattle.c_tree.specs.Program.{Conditional}
use Rattle.c_check_expressions.proofs.Operands.{operand_of, integral_conditional}
use Rattle.c_check_expressions.proofs.choice.conditional_of.Goals as goal

pub returns : goal.returns
returns c = let t = boxed_of c.args.test.tree in let a = boxed_of c.args.first.tree in
    let b = boxed_of c.args.second.tree in
    operand_of c.in_ok-tree.tree c.constant_of-constant.result (Conditional c.args.of t a b) c.in_ok-tree.ensures
    (c.constant_of-constant.ensures t a b c.requires.test.0 c.requires.first.0 c.requires.second.0 c.requires.integer
    c.requires.first.1 c.requires.second.1)
    (integral_conditional c.args.of t a b c.requires.first.1 c.requires.second.1 c.requires.integer)

use Rattle.std.proofs.Common.{◌≡◌, rules}
use Rattle.c_tree.specs.Erased.{boxed_of}
use Rattle.c_tree.specs.Operators.{working_type}
use Rattle.c_tree.specs.Program.{Binary, value_type}
use Rattle.c_check_expressions.proofs.Operands.{operand_of, integral_binary}
use Rattle.c_check_expressions.proofs.two_operands.binary_of.Goals as goal

pub returns : goal.returns
returns c = let a = boxed_of c.args.left.tree in let b = boxed_of c.args.right.tree in
    let within : c.working_type-within.result ≡ working_type c.args.op (value_type a) (value_type b) = search rules in
    operand_of c.in_ok-tree.tree c.binary-constant.result (Binary c.args.of c.args.op a b) c.in_ok-tree.ensures
    (c.binary-constant.ensures c.args.of a b within c.requires.left.0 c.requires.right.0)
    (integral_binary c.args.of c.args.op a b c.requires.left.1 c.requires.right.1 c.requires.integer)

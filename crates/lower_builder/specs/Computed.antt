-- The op of an operator on two numbers, which stand where it takes them, and what two numbers are asked, in memory.
use Rattle.std.specs.Prelude.{ℕ}
use Rattle.c_tree.specs.declared.expression.BinaryOp.{BinaryOp}
use Rattle.c_tree.specs.declared.expression.BinaryOp.TheVariants as binary
use Rattle.c_tree.specs.declared.types.IntegerType.{IntegerType}
use Rattle.flow_graph.specs.declared.op.Comparison.TheVariants.{Lt, Gt, Le, Ge, Eq, Ne}
use Rattle.flow_graph.specs.declared.op.Op.{Op}
use Rattle.flow_graph.specs.declared.op.Op.TheVariants as op
use Rattle.flow_graph.specs.declared.op.Order.TheVariants as order
use Rattle.lower_lines.specs.Operators.{NumberTest, WithSigns, WithoutSigns, order_in, quotient_op, remainder_op}
use Rattle.lower_lines.specs.Operators.{right_shift_op, test_set}
use Rattle.lower_builder.specs.declared.numbers.NumberTest as memory
use Rattle.lower_builder.specs.declared.numbers.NumberTest.TheVariants as asked

-- what two numbers are asked, that stands in memory
abbrev pub number_test_of : memory.NumberTest → NumberTest
number_test_of (asked.WithSigns how) = WithSigns how
number_test_of (asked.WithoutSigns how) = WithoutSigns how

-- the op of an operator in the type that it works in
abbrev pub op_of : IntegerType → BinaryOp → ℕ → ℕ → ℕ → Op
op_of within binary.Multiply to x y = op.Mul to x y
op_of within binary.Divide to x y = quotient_op within to x y
op_of within binary.Remainder to x y = remainder_op within to x y
op_of within binary.Add to x y = op.Add to x y
op_of within binary.Subtract to x y = op.Sub to x y
op_of within binary.ShiftLeft to x y = op.Shl to x y
op_of within binary.ShiftRight to x y = right_shift_op within to x y
op_of within binary.Less to x y = test_set (order_in within Lt order.Lt) to x y
op_of within binary.Greater to x y = test_set (order_in within Gt order.Gt) to x y
op_of within binary.LessOrEqual to x y = test_set (order_in within Le order.Le) to x y
op_of within binary.GreaterOrEqual to x y = test_set (order_in within Ge order.Ge) to x y
op_of within binary.Equal to x y = op.Set Eq to x y
op_of within binary.NotEqual to x y = op.Set Ne to x y
op_of within binary.BitAnd to x y = op.And to x y
op_of within binary.BitXor to x y = op.Xor to x y
op_of within binary.BitOr to x y = op.Or to x y

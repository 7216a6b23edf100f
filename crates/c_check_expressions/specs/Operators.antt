-- The rows of operators, by what they do in a typed tree (C99 6.5.5 to 6.5.17).
use Rattle.std.specs.Prelude.{Bool, false, Option, Some, None}
use Rattle.pcc_base.specs.declared.span.Span.{Span}
use Rattle.pcc_base.specs.declared.fault.FaultKind.TheVariants.{PointerUse}
use Rattle.c_tree.specs.declared.expression.BinaryOp.{BinaryOp}
use Rattle.c_tree.specs.declared.expression.BinaryOp.TheVariants as ops
use Rattle.c_tree.specs.declared.types.IntegerType.{IntegerType}
use Rattle.c_tree.specs.declared.types.ValueType.{ValueType}
use Rattle.c_tree.specs.Program as tree
use Rattle.c_tree.specs.Program.{value_type, Expression, Place}
use Rattle.c_typing.specs.Checked.{Checked, fits, fails}
use Rattle.c_typing.specs.Constants.{is_null}
use Rattle.c_typing.specs.Rows.{of_numbers, of_shift, of_sum, of_difference, of_order, of_equality, row_at, types_of}
use Rattle.c_typing.specs.Rows.{joined, assign_row, updated}
use Rattle.c_check_expressions.specs.declared.two_operands.Joint.{Joint}
use Rattle.c_check_expressions.specs.declared.two_operands.Joint.TheVariants as joints
use Rattle.c_check_expressions.specs.declared.lvalues.Change.{Change}
use Rattle.c_check_expressions.specs.declared.lvalues.Change.TheVariants as changes

-- the type of an operator's result; whether each operand is the null constant stands beside its type
abbrev pub result_type : BinaryOp → ValueType → Bool → ValueType → Bool → Option ValueType
result_type ops.Multiply t null u other = of_numbers t u
result_type ops.Divide t null u other = of_numbers t u
result_type ops.Remainder t null u other = of_numbers t u
result_type ops.Add t null u other = of_sum t u
result_type ops.Subtract t null u other = of_difference t u
result_type ops.ShiftLeft t null u other = of_shift t u
result_type ops.ShiftRight t null u other = of_shift t u
result_type ops.Less t null u other = of_order t u
result_type ops.Greater t null u other = of_order t u
result_type ops.LessOrEqual t null u other = of_order t u
result_type ops.GreaterOrEqual t null u other = of_order t u
result_type ops.Equal t null u other = of_equality t null u other
result_type ops.NotEqual t null u other = of_equality t null u other
result_type ops.BitAnd t null u other = of_numbers t u
result_type ops.BitXor t null u other = of_numbers t u
result_type ops.BitOr t null u other = of_numbers t u

-- an operator that evaluates both operands, `&&`, `||` or `,`
abbrev pub joint_row : Joint → Span → Expression → Expression → Checked Expression
joint_row (joints.Evaluates op) at a b =
    row_at at (types_of a b) (result_type op (value_type a) (is_null a) (value_type b) (is_null b))
    (λ of. tree.Binary of op a b)
joint_row joints.And at a b = joined tree.And at a b
joint_row joints.Or at a b = joined tree.Or at a b
joint_row joints.Comma at a b = fits (tree.Comma a b)

-- `=`, or an assignment with an operator
abbrev pub change_row : Change → Span → ValueType → Place → Expression → Checked Expression
change_row changes.Assigns at of place e = assign_row at of place e
change_row (changes.Updates op) at of place e =
    updated op at of place e (result_type op of false (value_type e) false)

-- `&` of a place, with the type of its element where it is one
abbrev pub address_at : Span → Place → Option IntegerType → Checked Expression
address_at at place None = fails PointerUse at
address_at at place (Some element) = fits (tree.Address element place)

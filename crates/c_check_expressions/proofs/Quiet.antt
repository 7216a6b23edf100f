-- Rows of operators say nothing beside their trees.
use Rattle.std.proofs.Common.{refl, Bool, true, false, List, [], ◌∷◌, Option, Some, None, if◌then◌else◌}
use Rattle.pcc_base.specs.declared.span.Span.{Span}
use Rattle.c_syntax.specs.declared.operator.BinaryOp as raw
use Rattle.c_syntax.specs.declared.operator.BinaryOp.TheVariants as raw_binary
use Rattle.c_syntax.specs.declared.operator.UnaryOp as raw_one
use Rattle.c_syntax.specs.declared.operator.UnaryOp.TheVariants as raw_unary
use Rattle.c_syntax.specs.declared.operator.AssignOp.{AssignOp}
use Rattle.c_syntax.specs.declared.operator.AssignOp.TheVariants as raw_assign
use Rattle.c_tree.specs.declared.expression.BinaryOp.{BinaryOp}
use Rattle.c_tree.specs.declared.expression.BinaryOp.TheVariants as ops
use Rattle.c_tree.specs.declared.expression.StepOp.{StepOp}
use Rattle.c_tree.specs.declared.expression.UnaryOp.{UnaryOp}
use Rattle.c_tree.specs.declared.expression.UnaryOp.TheVariants.{Not, Plus, Minus, Complement}
use Rattle.c_tree.specs.declared.types.IntegerType.TheVariants.{Int}
use Rattle.c_tree.specs.declared.types.ValueType.{ValueType}
use Rattle.c_tree.specs.declared.types.ValueType.TheVariants.{Void, Integer, Pointer}
use Rattle.c_tree.specs.Program.{value_type, Expression, Place, LocalPlace, StaticPlace, Target, Element, Unary, Cast}
use Rattle.c_tree.specs.Program.{And}
use Rattle.c_tree.specs.Program.{Or, Assign, Update, Conditional, Binary}
use Rattle.c_typing.specs.Checked.{Checked, fits}
use Rattle.c_typing.specs.Constants.{is_null}
use Rattle.c_typing.specs.Rows.{misfit, row_at, types_of, is_scalar, can_assign, can_cast, of_sum, of_choice}
use Rattle.c_typing.specs.Rows.{of_numbers, of_shift}
use Rattle.c_typing.specs.Rows.{of_difference, of_order, of_equality, of_conditions, operated, compared, joined}
use Rattle.c_typing.specs.Rows.{on_number, dereferenced, address_row, unary_row, step_row, cast_row}
use Rattle.c_typing.specs.Rows.{binary_row, element_of, index_row, conditional_row, assign_row, updated, update_row}
use Rattle.c_typing.specs.Rows.{to_place_row, assignment_row, assigned, place_named}
use Rattle.c_check_expressions.specs.Said.{IsQuiet}

pub quiet_if : {A : Type 0} (b : Bool) (c d : Checked A) → IsQuiet c → IsQuiet d → IsQuiet (if b then c else d)
quiet_if true c d h k = h
quiet_if false c d h k = k

quiet_row_at : (at : Span) (types : List ValueType) (of : Option ValueType) (tree : ValueType → Expression)
    → IsQuiet (row_at at types of tree)
quiet_row_at at types None tree = tt
quiet_row_at at types (Some of) tree = refl

pub quiet_assigned : (to : ValueType) (at : Span) (e : Expression) → IsQuiet (assigned to at e)
quiet_assigned to at e = quiet_if (can_assign to (value_type e) (is_null e)) (fits e)
    (misfit at (to ∷ value_type e ∷ []))
    refl tt

quiet_on_number : (op : UnaryOp) (at : Span) (of : ValueType) (e : Expression) → IsQuiet (on_number op at of e)
quiet_on_number op at Void e = tt
quiet_on_number op at (Integer t) e = refl
quiet_on_number op at (Pointer t) e = tt

quiet_dereferenced : (at : Span) (of : ValueType) (e : Expression) → IsQuiet (dereferenced at of e)
quiet_dereferenced at Void e = tt
quiet_dereferenced at (Integer t) e = tt
quiet_dereferenced at (Pointer t) e = refl

quiet_address : (at : Span) (named : Option (ValueType × Place)) → IsQuiet (address_row at named)
quiet_address at None = tt
quiet_address at (Some (of, LocalPlace v)) = tt
quiet_address at (Some (of, StaticPlace k)) = tt
quiet_address at (Some (of, Target element e)) = refl
quiet_address at (Some (of, Element element a i)) = refl

pub quiet_unary : (op : raw_one.UnaryOp) (at : Span) (e : Expression) → IsQuiet (unary_row op at e)
quiet_unary raw_unary.AddressOf at e = quiet_address at (place_named e)
quiet_unary raw_unary.Dereference at e = quiet_dereferenced at (value_type e) e
quiet_unary raw_unary.Plus at e = quiet_on_number Plus at (value_type e) e
quiet_unary raw_unary.Minus at e = quiet_on_number Minus at (value_type e) e
quiet_unary raw_unary.Complement at e = quiet_on_number Complement at (value_type e) e
quiet_unary raw_unary.Not at e =
    quiet_if (is_scalar (value_type e)) (fits (Unary Int Not e)) (misfit at (value_type e ∷ [])) refl tt

pub quiet_step : (op : StepOp) (at : Span) (named : Option (ValueType × Place)) → IsQuiet (step_row op at named)
quiet_step op at None = tt
quiet_step op at (Some named) = refl

pub quiet_cast : (at : Span) (to : ValueType) (e : Expression) → IsQuiet (cast_row at to e)
quiet_cast at to e = quiet_if (can_cast to (value_type e) (is_null e)) (fits (Cast to e))
    (misfit at (to ∷ value_type e ∷ [])) refl tt

quiet_operated : (row : ValueType → ValueType → Option ValueType) (op : BinaryOp) (at : Span) (a b : Expression)
    → IsQuiet (operated row op at a b)
quiet_operated row op at a b =
    quiet_row_at at (types_of a b) (row (value_type a) (value_type b)) (λ of. Binary of op a b)

quiet_compared : (op : BinaryOp) (at : Span) (a b : Expression) → IsQuiet (compared op at a b)
quiet_compared op at a b = quiet_row_at at (types_of a b)
    (of_equality (value_type a) (is_null a) (value_type b) (is_null b)) (λ of. Binary of op a b)

quiet_joined : (tree : Expression → Expression → Expression) (at : Span) (a b : Expression)
    → IsQuiet (joined tree at a b)
quiet_joined tree at a b =
    quiet_row_at at (types_of a b) (of_conditions (value_type a) (value_type b)) (λ of. tree a b)

pub quiet_binary : (op : raw.BinaryOp) (at : Span) (a b : Expression) → IsQuiet (binary_row op at a b)
quiet_binary raw_binary.Multiply at a b = quiet_operated of_numbers ops.Multiply at a b
quiet_binary raw_binary.Divide at a b = quiet_operated of_numbers ops.Divide at a b
quiet_binary raw_binary.Remainder at a b = quiet_operated of_numbers ops.Remainder at a b
quiet_binary raw_binary.Add at a b = quiet_operated of_sum ops.Add at a b
quiet_binary raw_binary.Subtract at a b = quiet_operated of_difference ops.Subtract at a b
quiet_binary raw_binary.ShiftLeft at a b = quiet_operated of_shift ops.ShiftLeft at a b
quiet_binary raw_binary.ShiftRight at a b = quiet_operated of_shift ops.ShiftRight at a b
quiet_binary raw_binary.Less at a b = quiet_operated of_order ops.Less at a b
quiet_binary raw_binary.Greater at a b = quiet_operated of_order ops.Greater at a b
quiet_binary raw_binary.LessEqual at a b = quiet_operated of_order ops.LessOrEqual at a b
quiet_binary raw_binary.GreaterEqual at a b = quiet_operated of_order ops.GreaterOrEqual at a b
quiet_binary raw_binary.Equal at a b = quiet_compared ops.Equal at a b
quiet_binary raw_binary.NotEqual at a b = quiet_compared ops.NotEqual at a b
quiet_binary raw_binary.BitAnd at a b = quiet_operated of_numbers ops.BitAnd at a b
quiet_binary raw_binary.BitXor at a b = quiet_operated of_numbers ops.BitXor at a b
quiet_binary raw_binary.BitOr at a b = quiet_operated of_numbers ops.BitOr at a b
quiet_binary raw_binary.LogicalAnd at a b = quiet_joined And at a b
quiet_binary raw_binary.LogicalOr at a b = quiet_joined Or at a b
quiet_binary raw_binary.Comma at a b = refl

quiet_element : (at : Span) (of : Option ValueType) (a i : Expression) → IsQuiet (element_of at of a i)
quiet_element at None a i = tt
quiet_element at (Some Void) a i = tt
quiet_element at (Some (Integer t)) a i = tt
quiet_element at (Some (Pointer t)) a i = refl

pub quiet_index : (at : Span) (a i : Expression) → IsQuiet (index_row at a i)
quiet_index at a i = quiet_element at (of_sum (value_type a) (value_type i)) a i

pub quiet_conditional : (at : Span) (t a b : Expression) → IsQuiet (conditional_row at t a b)
quiet_conditional at t a b = quiet_row_at at (value_type t ∷ types_of a b)
    (if is_scalar (value_type t) then of_choice (value_type a) (is_null a) (value_type b) (is_null b) else None)
    (λ of. Conditional of t a b)

quiet_assign : (at : Span) (of : ValueType) (place : Place) (e : Expression) → IsQuiet (assign_row at of place e)
quiet_assign at of place e = quiet_if (can_assign of (value_type e) (is_null e)) (fits (Assign of place e))
    (misfit at (of ∷ value_type e ∷ [])) refl tt

quiet_updated : (op : BinaryOp) (at : Span) (of : ValueType) (place : Place) (e : Expression) (row : Option ValueType)
    → IsQuiet (updated op at of place e row)
quiet_updated op at of place e None = tt
quiet_updated op at of place e (Some result) = quiet_if (can_assign of result false) (fits (Update of op place e))
    (misfit at (of ∷ value_type e ∷ [])) refl tt

quiet_update : (row : ValueType → ValueType → Option ValueType) (op : BinaryOp) (at : Span) (of : ValueType)
    (place : Place) (e : Expression) → IsQuiet (update_row row op at of place e)
quiet_update row op at of place e = quiet_updated op at of place e (row of (value_type e))

quiet_to_place : (op : AssignOp) (at : Span) (of : ValueType) (place : Place) (e : Expression)
    → IsQuiet (to_place_row op at of place e)
quiet_to_place raw_assign.Assign at of place e = quiet_assign at of place e
quiet_to_place raw_assign.Multiply at of place e = quiet_update of_numbers ops.Multiply at of place e
quiet_to_place raw_assign.Divide at of place e = quiet_update of_numbers ops.Divide at of place e
quiet_to_place raw_assign.Remainder at of place e = quiet_update of_numbers ops.Remainder at of place e
quiet_to_place raw_assign.Add at of place e = quiet_update of_sum ops.Add at of place e
quiet_to_place raw_assign.Subtract at of place e = quiet_update of_difference ops.Subtract at of place e
quiet_to_place raw_assign.ShiftLeft at of place e = quiet_update of_shift ops.ShiftLeft at of place e
quiet_to_place raw_assign.ShiftRight at of place e = quiet_update of_shift ops.ShiftRight at of place e
quiet_to_place raw_assign.BitAnd at of place e = quiet_update of_numbers ops.BitAnd at of place e
quiet_to_place raw_assign.BitXor at of place e = quiet_update of_numbers ops.BitXor at of place e
quiet_to_place raw_assign.BitOr at of place e = quiet_update of_numbers ops.BitOr at of place e

pub quiet_assignment : (op : AssignOp) (at : Span) (named : Option (ValueType × Place)) (e : Expression)
    → IsQuiet (assignment_row op at named e)
quiet_assignment op at None e = tt
quiet_assignment op at (Some named) e = quiet_to_place op at named.0 named.1 e

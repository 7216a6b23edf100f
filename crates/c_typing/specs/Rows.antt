-- The rows of the typing of expressions: what a construct accepts of operands that have types, and its type (C99 6.5).
use Rattle.std.specs.Prelude.{List, [], ◌∷◌, option_map, Bool, true, false, Option, Some, None}
use Rattle.std.specs.Prelude.{if◌then◌else◌}
use Rattle.std.specs.List.{list_any}
use Rattle.pcc_base.specs.declared.span.Span.{Span}
use Rattle.pcc_base.specs.declared.fault.FaultKind.TheVariants.{TypeRule, NotAssignable, PointerUse}
use Rattle.c_syntax.specs.declared.operator.BinaryOp as raw
use Rattle.c_syntax.specs.declared.operator.BinaryOp.TheVariants as raw_binary
use Rattle.c_syntax.specs.declared.operator.UnaryOp as raw_one
use Rattle.c_syntax.specs.declared.operator.UnaryOp.TheVariants as raw_unary
use Rattle.c_syntax.specs.declared.operator.AssignOp.{AssignOp}
use Rattle.c_syntax.specs.declared.operator.AssignOp.TheVariants as raw_assign
use Rattle.c_tree.specs.declared.expression.BinaryOp.{BinaryOp}
use Rattle.c_tree.specs.declared.expression.BinaryOp.TheVariants.{Multiply, Divide, Remainder, Add, Subtract}
use Rattle.c_tree.specs.declared.expression.BinaryOp.TheVariants.{ShiftLeft, ShiftRight, Less, Greater, LessOrEqual}
use Rattle.c_tree.specs.declared.expression.BinaryOp.TheVariants.{GreaterOrEqual, Equal, NotEqual, BitAnd, BitXor}
use Rattle.c_tree.specs.declared.expression.BinaryOp.TheVariants.{BitOr}
use Rattle.c_tree.specs.declared.expression.StepOp.{StepOp}
use Rattle.c_tree.specs.declared.expression.UnaryOp.{UnaryOp}
use Rattle.c_tree.specs.declared.expression.UnaryOp.TheVariants.{Plus, Minus, Complement, Not}
use Rattle.c_tree.specs.declared.types.IntegerType.{IntegerType}
use Rattle.c_tree.specs.declared.types.IntegerType.TheVariants.{Int}
use Rattle.c_tree.specs.declared.types.ValueType.{ValueType}
use Rattle.c_tree.specs.declared.types.ValueType.TheVariants.{Void, Integer, Pointer}
use Rattle.c_tree.specs.Operators.{common, promoted}
use Rattle.c_tree.specs.Program.{int, value_type, Expression, Constant, Start, Read, Address, Unary, Binary, And, Or}
use Rattle.c_tree.specs.Program.{Conditional, Cast, Assign, Update, Step, Comma, Call, Putchar, Getchar, Exit}
use Rattle.c_tree.specs.Program.{Place, LocalPlace, StaticPlace, Target, Element}
use Rattle.c_typing.specs.Checked.{Checked, fits, fails}
use Rattle.c_typing.specs.Constants.{is_null}
use Rattle.c_typing.specs.Types.{same_integer, is_pointer}

-- no row fits: a pointer is among the types, or none
abbrev pub misfit : {A : Type 0} → Span → List ValueType → Checked A
misfit at types = fails (if list_any is_pointer types then PointerUse else TypeRule) at

-- the construct, where a row gives its type
abbrev pub row_at : Span → List ValueType → Option ValueType → (ValueType → Expression) → Checked Expression
row_at at types None tree = misfit at types
row_at at types (Some of) tree = fits (tree of)

-- ---- types of results

-- `* / % & ^ |` take two numbers, and give one of their common type (C99 6.5.5 and 6.5.10 to 6.5.12)
abbrev pub of_numbers : ValueType → ValueType → Option ValueType
of_numbers (Integer t) (Integer u) = Some (Integer (common t u))
of_numbers _ _ = None

-- `<< >>` take two numbers, and give one of the promoted left type (C99 6.5.7p3)
abbrev pub of_shift : ValueType → ValueType → Option ValueType
of_shift (Integer t) (Integer u) = Some (Integer (promoted t))
of_shift _ _ = None

abbrev pub if_same : IntegerType → IntegerType → ValueType → Option ValueType
if_same t u of = if same_integer t u then Some of else None

-- `+` takes a pointer and a number too, in either order (C99 6.5.6p2)
abbrev pub of_sum : ValueType → ValueType → Option ValueType
of_sum (Integer t) (Integer u) = Some (Integer (common t u))
of_sum (Pointer t) (Integer u) = Some (Pointer t)
of_sum (Integer t) (Pointer u) = Some (Pointer u)
of_sum _ _ = None

-- `-` takes a pointer and a number too, or two pointers of one type (C99 6.5.6p3)
abbrev pub of_difference : ValueType → ValueType → Option ValueType
of_difference (Integer t) (Integer u) = Some (Integer (common t u))
of_difference (Pointer t) (Integer u) = Some (Pointer t)
of_difference (Pointer t) (Pointer u) = if_same t u int
of_difference _ _ = None

-- `< > <= >=` take two numbers, or two pointers of one type (C99 6.5.8p2)
abbrev pub of_order : ValueType → ValueType → Option ValueType
of_order (Integer t) (Integer u) = Some int
of_order (Pointer t) (Pointer u) = if_same t u int
of_order _ _ = None

-- Two values that are pointers of one type, or a pointer and the null constant in either order, are of the pointer's
-- type; whether each is the null constant stands beside its type (C99 6.5.9p2 and 6.5.15p6).
abbrev pub of_pointers : ValueType → Bool → ValueType → Bool → Option ValueType
of_pointers (Pointer t) null (Pointer u) other = if_same t u (Pointer t)
of_pointers (Pointer t) null (Integer u) true = Some (Pointer t)
of_pointers (Integer t) true (Pointer u) other = Some (Pointer u)
of_pointers _ _ _ _ = None

-- `== !=` (C99 6.5.9p2)
abbrev pub of_equality : ValueType → Bool → ValueType → Bool → Option ValueType
of_equality (Integer t) null (Integer u) other = Some int
of_equality t null u other = option_map (λ of. int) (of_pointers t null u other)

-- the second and third operand of `?:` (C99 6.5.15p3)
abbrev pub of_choice : ValueType → Bool → ValueType → Bool → Option ValueType
of_choice (Integer t) null (Integer u) other = Some (Integer (common t u))
of_choice Void null Void other = Some Void
of_choice t null u other = of_pointers t null u other

abbrev pub is_scalar : ValueType → Bool
is_scalar Void = false
is_scalar (Integer t) = true
is_scalar (Pointer t) = true

-- A value of the second type, which may be the null constant, is assigned to the first (C99 6.5.16.1p1).
abbrev pub can_assign : ValueType → ValueType → Bool → Bool
can_assign (Integer t) (Integer u) null = true
can_assign (Pointer t) (Pointer u) null = same_integer t u
can_assign (Pointer t) (Integer u) null = null
can_assign _ _ _ = false

-- ---- values that are assigned, tested or counted

-- an initialiser, argument or returned value, with its place (C99 6.5.2.2p7, 6.7.8p11 and 6.8.6.4p3)
abbrev pub assigned : ValueType → Span → Expression → Checked Expression
assigned to at e = if can_assign to (value_type e) (is_null e) then fits e else misfit at (to ∷ value_type e ∷ [])

-- a condition (C99 6.8.4.1p1 and 6.8.5p2)
abbrev pub tested : Span → Expression → Checked Expression
tested at e = if is_scalar (value_type e) then fits e else misfit at (value_type e ∷ [])

-- the value of a switch (C99 6.8.4.2p1)
abbrev pub selected : ValueType → Span → Expression → Checked Expression
selected (Integer t) at e = fits e
selected Void at e = misfit at (Void ∷ [])
selected (Pointer t) at e = misfit at (Pointer t ∷ [])

-- ---- one operand (C99 6.5.3)

-- `+ - ~` give a number of the promoted type (C99 6.5.3.3)
abbrev pub on_number : UnaryOp → Span → ValueType → Expression → Checked Expression
on_number op at (Integer t) e = fits (Unary (promoted t) op e)
on_number op at Void e = misfit at (Void ∷ [])
on_number op at (Pointer t) e = misfit at (Pointer t ∷ [])

abbrev pub dereferenced : Span → ValueType → Expression → Checked Expression
dereferenced at (Pointer t) e = fits (Read (Integer t) (Target t e))
dereferenced at Void e = misfit at (Void ∷ [])
dereferenced at (Integer t) e = misfit at (Integer t ∷ [])

-- `&` is for elements alone
abbrev pub address_of_place : Span → Place → Checked Expression
address_of_place at (Target element e) = fits (Address element (Target element e))
address_of_place at (Element element a i) = fits (Address element (Element element a i))
address_of_place at (LocalPlace v) = fails PointerUse at
address_of_place at (StaticPlace k) = fails PointerUse at

-- the place that an expression names, where it names one (C99 6.3.2.1p1); the name of an array isn't one that can be
-- assigned
abbrev pub place_named : Expression → Option (ValueType × Place)
place_named (Constant of n) = None
place_named (Start element array) = None
place_named (Read of place) = Some (of, place)
place_named (Address element place) = None
place_named (Unary of op e) = None
place_named (Binary of op a b) = None
place_named (And a b) = None
place_named (Or a b) = None
place_named (Conditional of t a b) = None
place_named (Cast to e) = None
place_named (Assign of place e) = None
place_named (Update of op place e) = None
place_named (Step of op place) = None
place_named (Comma a b) = None
place_named (Call of f arguments) = None
place_named (Putchar e) = None
place_named Getchar = None
place_named (Exit e) = None

abbrev pub address_row : Span → Option (ValueType × Place) → Checked Expression
address_row at None = fails PointerUse at
address_row at (Some named) = address_of_place at named.1

abbrev pub unary_row : raw_one.UnaryOp → Span → Expression → Checked Expression
unary_row raw_unary.AddressOf at e = address_row at (place_named e)
unary_row raw_unary.Dereference at e = dereferenced at (value_type e) e
unary_row raw_unary.Plus at e = on_number Plus at (value_type e) e
unary_row raw_unary.Minus at e = on_number Minus at (value_type e) e
unary_row raw_unary.Complement at e = on_number Complement at (value_type e) e
unary_row raw_unary.Not at e =
    if is_scalar (value_type e) then fits (Unary Int Not e) else misfit at (value_type e ∷ [])

-- `++` and `--` (C99 6.5.2.4 and 6.5.3.1)
abbrev pub step_row : StepOp → Span → Option (ValueType × Place) → Checked Expression
step_row op at None = fails NotAssignable at
step_row op at (Some named) = fits (Step named.0 op named.1)

-- a cast to a type, or to a pointer to void (C99 6.5.4)
abbrev pub can_cast : ValueType → ValueType → Bool → Bool
can_cast Void from null = true
can_cast (Integer t) from null = can_assign (Integer t) from null
can_cast (Pointer t) from null = can_assign (Pointer t) from null

abbrev pub cast_row : Span → ValueType → Expression → Checked Expression
cast_row at to e =
    if can_cast to (value_type e) (is_null e) then fits (Cast to e) else misfit at (to ∷ value_type e ∷ [])

-- ---- two operands (C99 6.5.5 to 6.5.14 and 6.5.17)

abbrev pub types_of : Expression → Expression → List ValueType
types_of a b = value_type a ∷ value_type b ∷ []

abbrev pub operated : (ValueType → ValueType → Option ValueType) → BinaryOp → Span → Expression → Expression
    → Checked Expression
operated row op at a b = row_at at (types_of a b) (row (value_type a) (value_type b)) (λ of. Binary of op a b)

abbrev pub compared : BinaryOp → Span → Expression → Expression → Checked Expression
compared op at a b = row_at at (types_of a b) (of_equality (value_type a) (is_null a) (value_type b) (is_null b))
    (λ of. Binary of op a b)

abbrev pub of_conditions : ValueType → ValueType → Option ValueType
of_conditions t u = if is_scalar t then (if is_scalar u then Some int else None) else None

abbrev pub joined : (Expression → Expression → Expression) → Span → Expression → Expression → Checked Expression
joined tree at a b = row_at at (types_of a b) (of_conditions (value_type a) (value_type b)) (λ of. tree a b)

abbrev pub binary_row : raw.BinaryOp → Span → Expression → Expression → Checked Expression
binary_row raw_binary.Multiply = operated of_numbers Multiply
binary_row raw_binary.Divide = operated of_numbers Divide
binary_row raw_binary.Remainder = operated of_numbers Remainder
binary_row raw_binary.Add = operated of_sum Add
binary_row raw_binary.Subtract = operated of_difference Subtract
binary_row raw_binary.ShiftLeft = operated of_shift ShiftLeft
binary_row raw_binary.ShiftRight = operated of_shift ShiftRight
binary_row raw_binary.Less = operated of_order Less
binary_row raw_binary.Greater = operated of_order Greater
binary_row raw_binary.LessEqual = operated of_order LessOrEqual
binary_row raw_binary.GreaterEqual = operated of_order GreaterOrEqual
binary_row raw_binary.Equal = compared Equal
binary_row raw_binary.NotEqual = compared NotEqual
binary_row raw_binary.BitAnd = operated of_numbers BitAnd
binary_row raw_binary.BitXor = operated of_numbers BitXor
binary_row raw_binary.BitOr = operated of_numbers BitOr
binary_row raw_binary.LogicalAnd = joined And
binary_row raw_binary.LogicalOr = joined Or
binary_row raw_binary.Comma = λ at a b. fits (Comma a b)

-- `a[i]` is `*((a)+(i))` (C99 6.5.2.1p2)
abbrev pub element_of : Span → Option ValueType → Expression → Expression → Checked Expression
element_of at (Some (Pointer t)) a i = fits (Read (Integer t) (Element t a i))
element_of at (Some (Integer t)) a i = misfit at (types_of a i)
element_of at (Some Void) a i = misfit at (types_of a i)
element_of at None a i = misfit at (types_of a i)

abbrev pub index_row : Span → Expression → Expression → Checked Expression
index_row at a i = element_of at (of_sum (value_type a) (value_type i)) a i

-- `?:` (C99 6.5.15)
abbrev pub conditional_row : Span → Expression → Expression → Expression → Checked Expression
conditional_row at t a b =
    row_at at (value_type t ∷ types_of a b)
    (if is_scalar (value_type t)
    then of_choice (value_type a) (is_null a) (value_type b) (is_null b) else None)
    (λ of. Conditional of t a b)

-- ---- assignments (C99 6.5.16): to a place of this type

abbrev pub assign_row : Span → ValueType → Place → Expression → Checked Expression
assign_row at of place e =
    if can_assign of (value_type e) (is_null e) then fits (Assign of place e) else misfit at (of ∷ value_type e ∷ [])

-- the result of the operator is assigned
abbrev pub updated : BinaryOp → Span → ValueType → Place → Expression → Option ValueType → Checked Expression
updated op at of place e None = misfit at (of ∷ value_type e ∷ [])
updated op at of place e (Some result) =
    if can_assign of result false then fits (Update of op place e) else misfit at (of ∷ value_type e ∷ [])

abbrev pub update_row : (ValueType → ValueType → Option ValueType) → BinaryOp → Span → ValueType → Place → Expression
    → Checked Expression
update_row row op at of place e = updated op at of place e (row of (value_type e))

abbrev pub to_place_row : AssignOp → Span → ValueType → Place → Expression → Checked Expression
to_place_row raw_assign.Assign = assign_row
to_place_row raw_assign.Multiply = update_row of_numbers Multiply
to_place_row raw_assign.Divide = update_row of_numbers Divide
to_place_row raw_assign.Remainder = update_row of_numbers Remainder
to_place_row raw_assign.Add = update_row of_sum Add
to_place_row raw_assign.Subtract = update_row of_difference Subtract
to_place_row raw_assign.ShiftLeft = update_row of_shift ShiftLeft
to_place_row raw_assign.ShiftRight = update_row of_shift ShiftRight
to_place_row raw_assign.BitAnd = update_row of_numbers BitAnd
to_place_row raw_assign.BitXor = update_row of_numbers BitXor
to_place_row raw_assign.BitOr = update_row of_numbers BitOr

abbrev pub assignment_row : AssignOp → Span → Option (ValueType × Place) → Expression → Checked Expression
assignment_row op at None e = fails NotAssignable at
assignment_row op at (Some named) e = to_place_row op at named.0 named.1 e

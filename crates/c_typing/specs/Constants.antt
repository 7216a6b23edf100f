-- Integer constant expressions (C99 6.6p6) and their values, by what the source means.
use Rattle.std.specs.Prelude.{ℤ, pos, [], Bool, true, false, ◌&&◌, Option, Some, None, if◌then◌else◌}
use Rattle.std.specs.Ordering.{int_eq}
use Rattle.pcc_base.specs.Outcome.{Goes}
use Rattle.c_tree.specs.declared.types.ValueType.{ValueType}
use Rattle.c_tree.specs.declared.types.ValueType.TheVariants.{Void, Integer, Pointer}
use Rattle.c_tree.specs.Program.{Expression, Constant, Start, Read, Address, Unary, Binary, And, Or, Conditional, Cast}
use Rattle.c_tree.specs.Program.{Assign, Update, Step, Comma, Call, Putchar, Getchar, Exit}
use Rattle.c_tree.specs.Store.{Held, HoldsNumber, HoldsPointer, State, Evaluated, Gives, Ends}
use Rattle.c_tree.specs.Evaluation.{Calls, evaluate}

abbrev pub is_integer_type : ValueType → Bool
is_integer_type Void = false
is_integer_type (Integer t) = true
is_integer_type (Pointer t) = false

-- It has constants, operators but the comma and assignments, `?:`, and casts to an integer type.
abbrev pub has_constant_form : Expression → Bool
has_constant_form (Constant of n) = true
has_constant_form (Start element array) = false
has_constant_form (Read of place) = false
has_constant_form (Address element place) = false
has_constant_form (Unary of op e) = has_constant_form e
has_constant_form (Binary of op a b) = has_constant_form a && has_constant_form b
has_constant_form (And a b) = has_constant_form a && has_constant_form b
has_constant_form (Or a b) = has_constant_form a && has_constant_form b
has_constant_form (Conditional of t a b) = has_constant_form t && (has_constant_form a && has_constant_form b)
has_constant_form (Cast to e) = is_integer_type to && has_constant_form e
has_constant_form (Assign of place e) = false
has_constant_form (Update of op place e) = false
has_constant_form (Step of op place) = false
has_constant_form (Comma a b) = false
has_constant_form (Call of f arguments) = false
has_constant_form (Putchar e) = false
has_constant_form Getchar = false
has_constant_form (Exit e) = false

-- a constant expression calls nothing and reads nothing
abbrev pub no_calls : Calls
no_calls f arguments s = Ends Goes s

abbrev pub no_state : State
no_state = record { turns = 0; left = []; taken = 0; written = []; visits = []; objects = []; active = [] }

abbrev pub number_given : Evaluated Held → Option ℤ
number_given (Gives (HoldsNumber n) s) = Some n
number_given (Gives (HoldsPointer array index) s) = None
number_given (Ends end s) = None

-- The value of an integer constant expression. It has none where its evaluation traps.
abbrev pub constant_value : Expression → Option ℤ
constant_value e = if has_constant_form e then number_given (evaluate no_calls e no_state) else None

-- the null constant: an integer constant expression of value 0 (C99 6.3.2.3p3)
abbrev pub is_zero : Option ℤ → Bool
is_zero None = false
is_zero (Some n) = int_eq n (pos 0)

abbrev pub is_null : Expression → Bool
is_null e = is_zero (constant_value e)

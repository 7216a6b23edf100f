-- What the operators give (C99 6.5.3 to 6.5.16). Sums, differences, products and negations wrap at 32 bits. A number
-- without sign is held as the signed number with the same bits, so what tells the two apart is the type that an
-- operator works in: quotients, remainders, orders and shifts to the right ask for it, and all others give the same
-- bits in each.
use Rattle.std.specs.Prelude.{ℕ, ◌^◌, Bool, true, false, ◌&&◌, not, ℤ, pos, ◌+ℤ◌, ◌-ℤ◌, ◌*ℤ◌}
use Rattle.std.specs.Prelude.{neg_ℤ, int_lt, int_div, int_rem, nat_lt, if◌then◌else◌}
use Rattle.std.specs.Int.{w32, int_wrap, int_bit_and, int_bit_or, int_bit_xor, int_bit_not}
use Rattle.std.specs.Ordering.{int_eq}
pub use Rattle.pcc_base.specs.Arithmetic.{no_quotient, no_unsigned_quotient, same_array, shift_count, shifted_right}
pub use Rattle.pcc_base.specs.Arithmetic.{shifted_unsigned, unsigned, unsigned_quotient, unsigned_remainder}
use Rattle.pcc_base.specs.Outcome.{ArrayName, Null}
use Rattle.pcc_base.specs.declared.run.Trap.{Trap}
use Rattle.pcc_base.specs.declared.run.Trap.TheVariants.{Divide, Check}
use Rattle.c_tree.specs.declared.expression.BinaryOp.{BinaryOp}
use Rattle.c_tree.specs.declared.expression.BinaryOp.TheVariants.{Multiply, Divide as Division, Remainder, Add}
use Rattle.c_tree.specs.declared.expression.BinaryOp.TheVariants.{Subtract, ShiftLeft, ShiftRight, Less, Greater}
use Rattle.c_tree.specs.declared.expression.BinaryOp.TheVariants.{LessOrEqual, GreaterOrEqual, Equal, NotEqual, BitAnd}
use Rattle.c_tree.specs.declared.expression.BinaryOp.TheVariants.{BitXor, BitOr}
use Rattle.c_tree.specs.declared.expression.StepOp.{StepOp}
use Rattle.c_tree.specs.declared.expression.StepOp.TheVariants.{PreIncrement, PreDecrement, PostIncrement}
use Rattle.c_tree.specs.declared.expression.StepOp.TheVariants.{PostDecrement}
use Rattle.c_tree.specs.declared.expression.UnaryOp.{UnaryOp}
use Rattle.c_tree.specs.declared.expression.UnaryOp.TheVariants.{Plus, Minus, Complement, Not}
use Rattle.c_tree.specs.declared.types.IntegerType.{IntegerType}
use Rattle.c_tree.specs.declared.types.IntegerType.TheVariants.{Char, Short, Int, UnsignedInt}
use Rattle.c_tree.specs.declared.types.ValueType.{ValueType}
use Rattle.c_tree.specs.declared.types.ValueType.TheVariants.{Integer}
use Rattle.c_tree.specs.Program.{int}
use Rattle.c_tree.specs.Store.{Held, HoldsNumber, HoldsPointer, converted}

-- an operator gives a value, or traps
pub data Computed : Type 0 where
  Computes : (value : Held) → Computed
  Traps : (trap : Trap) → Computed

abbrev pub number : ℤ → Computed
number n = Computes (HoldsNumber n)

abbrev pub truth : Bool → Computed
truth b = number (if b then pos 1 else pos 0)

-- ---- the types that operators work in

-- whether the numbers of a type have a sign
abbrev pub is_signed : IntegerType → Bool
is_signed Char = true
is_signed Short = true
is_signed Int = true
is_signed UnsignedInt = false

-- the narrower types become `int`, which has all their values (C99 6.3.1.1p2)
abbrev pub promoted : IntegerType → IntegerType
promoted Char = Int
promoted Short = Int
promoted Int = Int
promoted UnsignedInt = UnsignedInt

-- the type that two numbers have in common: `unsigned int` where either has it (C99 6.3.1.8p1)
abbrev pub common : IntegerType → IntegerType → IntegerType
common Char u = promoted u
common Short u = promoted u
common Int u = promoted u
common UnsignedInt u = UnsignedInt

-- An operator works on two numbers in their common type; a shift in that of its left operand (C99 6.5.7p3).
abbrev pub numbers_type : BinaryOp → IntegerType → IntegerType → IntegerType
numbers_type ShiftLeft t u = promoted t
numbers_type ShiftRight t u = promoted t
numbers_type _ t u = common t u

-- the type of what it gives: an `int` where it compares (C99 6.5.8p6 and 6.5.9p3)
abbrev pub numbers_result : BinaryOp → IntegerType → IntegerType
numbers_result Less within = Int
numbers_result Greater within = Int
numbers_result LessOrEqual within = Int
numbers_result GreaterOrEqual within = Int
numbers_result Equal within = Int
numbers_result NotEqual within = Int
numbers_result _ within = within

-- of two values; where a pointer is among them, its index counts as an `int`
abbrev pub working_type : BinaryOp → ValueType → ValueType → IntegerType
working_type op (Integer t) (Integer u) = numbers_type op t u
working_type op _ _ = Int

-- the type of what an operator on one number gives (C99 6.5.3.3)
abbrev pub unary_type : UnaryOp → IntegerType → IntegerType
unary_type Plus t = promoted t
unary_type Minus t = promoted t
unary_type Complement t = promoted t
unary_type Not t = Int

-- ---- tests

-- A number counts as true where it isn't 0, and a pointer where it isn't null (C99 6.5.3.3, 6.8.4.1).
abbrev pub is_true : Held → Bool
is_true (HoldsNumber n) = not (int_eq n (pos 0))
is_true (HoldsPointer array index) = not (same_array array Null && int_eq index (pos 0))

-- ---- one operand (C99 6.5.3.3)

abbrev pub unary_number : UnaryOp → ℤ → ℤ
unary_number Plus n = n
unary_number Minus n = int_wrap w32 (neg_ℤ n)
unary_number Complement n = int_bit_not w32 n
unary_number Not n = if int_eq n (pos 0) then pos 1 else pos 0

-- The result is converted to its type.
abbrev pub unary_value : IntegerType → UnaryOp → Held → Held
unary_value of op (HoldsNumber n) = HoldsNumber (converted of (unary_number op n))
unary_value of Not (HoldsPointer array index) = HoldsNumber
    (if is_true (HoldsPointer array index) then pos 0 else pos 1)
unary_value of _ (HoldsPointer array index) = HoldsNumber (pos 0)

-- ---- two numbers (C99 6.5.5 to 6.5.12)

abbrev pub signed_quotient : ℤ → ℤ → Computed
signed_quotient a b = if no_quotient a b then Traps Divide else number (int_div a b)

abbrev pub signed_remainder : ℤ → ℤ → Computed
signed_remainder a b = if no_quotient a b then Traps Divide else number (int_rem a b)

-- without signs only a zero divisor traps
abbrev pub quotient_from_0 : ℤ → ℤ → Computed
quotient_from_0 a b = if no_unsigned_quotient a b then Traps Divide else number (unsigned_quotient a b)

abbrev pub remainder_from_0 : ℤ → ℤ → Computed
remainder_from_0 a b = if no_unsigned_quotient a b then Traps Divide else number (unsigned_remainder a b)

abbrev pub quotient : IntegerType → ℤ → ℤ → Computed
quotient within a b = if is_signed within then signed_quotient a b else quotient_from_0 a b

abbrev pub remainder : IntegerType → ℤ → ℤ → Computed
remainder within a b = if is_signed within then signed_remainder a b else remainder_from_0 a b

-- `>>` is arithmetic where there are signs, and fills with zero bits where there are none
abbrev pub shifted : IntegerType → ℤ → ℕ → ℤ
shifted within n count = if is_signed within then shifted_right n count else shifted_unsigned n count

abbrev pub is_less : IntegerType → ℤ → ℤ → Bool
is_less within a b = if is_signed within then int_lt a b else nat_lt (unsigned a) (unsigned b)

-- what an operator gives of two numbers, in the type that it works in
abbrev pub numbers_value : IntegerType → BinaryOp → ℤ → ℤ → Computed
numbers_value within Multiply a b = number (int_wrap w32 (a *ℤ b))
numbers_value within Division a b = quotient within a b
numbers_value within Remainder a b = remainder within a b
numbers_value within Add a b = number (int_wrap w32 (a +ℤ b))
numbers_value within Subtract a b = number (int_wrap w32 (a -ℤ b))
numbers_value within ShiftLeft a b = number (int_wrap w32 (a *ℤ pos (2 ^ shift_count b)))
numbers_value within ShiftRight a b = number (shifted within a (shift_count b))
numbers_value within Less a b = truth (is_less within a b)
numbers_value within Greater a b = truth (is_less within b a)
numbers_value within LessOrEqual a b = truth (not (is_less within b a))
numbers_value within GreaterOrEqual a b = truth (not (is_less within a b))
numbers_value within Equal a b = truth (int_eq a b)
numbers_value within NotEqual a b = truth (not (int_eq a b))
numbers_value within BitAnd a b = number (int_bit_and w32 a b)
numbers_value within BitXor a b = number (int_bit_xor w32 a b)
numbers_value within BitOr a b = number (int_bit_or w32 a b)

-- ---- pointers (C99 6.5.6, 6.5.8 and 6.5.9)

-- the index moves, and wraps at 32 bits
abbrev pub moved : ArrayName → ℤ → ℤ → Computed
moved array index by = Computes (HoldsPointer array (int_wrap w32 (index +ℤ by)))

-- A difference or an ordering of pointers into different arrays traps.
abbrev pub in_one_array : ArrayName → ArrayName → Computed → Computed
in_one_array a b value = if same_array a b then value else Traps Check

abbrev pub same_pointer : ArrayName → ℤ → ArrayName → ℤ → Bool
same_pointer a i b j = same_array a b && int_eq i j

abbrev pub pointers_value : BinaryOp → ArrayName → ℤ → ArrayName → ℤ → Computed
pointers_value Subtract a i b j = in_one_array a b (number (int_wrap w32 (i -ℤ j)))
pointers_value Less a i b j = in_one_array a b (truth (int_lt i j))
pointers_value Greater a i b j = in_one_array a b (truth (int_lt j i))
pointers_value LessOrEqual a i b j = in_one_array a b (truth (not (int_lt j i)))
pointers_value GreaterOrEqual a i b j = in_one_array a b (truth (not (int_lt i j)))
pointers_value Equal a i b j = truth (same_pointer a i b j)
pointers_value NotEqual a i b j = truth (not (same_pointer a i b j))
pointers_value _ a i b j = number (pos 0)

-- a pointer and a number: an index that moves, or a comparison with the null constant
abbrev pub pointer_number_value : BinaryOp → ArrayName → ℤ → ℤ → Computed
pointer_number_value Add a i n = moved a i n
pointer_number_value Subtract a i n = moved a i (neg_ℤ n)
pointer_number_value Equal a i n = truth (same_pointer a i Null (pos 0))
pointer_number_value NotEqual a i n = truth (not (same_pointer a i Null (pos 0)))
pointer_number_value _ a i n = number (pos 0)

-- Of a typed program no other pairs come; for them the value is 0.
abbrev pub binary_value : IntegerType → BinaryOp → Held → Held → Computed
binary_value within op (HoldsNumber a) (HoldsNumber b) = numbers_value within op a b
binary_value within op (HoldsPointer a i) (HoldsPointer b j) = pointers_value op a i b j
binary_value within op (HoldsPointer a i) (HoldsNumber n) = pointer_number_value op a i n
binary_value within op (HoldsNumber n) (HoldsPointer b j) = pointer_number_value op b j n

-- ---- `++` and `--` (C99 6.5.2.4 and 6.5.3.1)

-- the operator that makes the new value
abbrev pub step_op : StepOp → BinaryOp
step_op PreIncrement = Add
step_op PreDecrement = Subtract
step_op PostIncrement = Add
step_op PostDecrement = Subtract

-- they work as the operator does with the `int` 1
abbrev pub step_type : StepOp → ValueType → IntegerType
step_type op of = working_type (step_op op) of int

-- the value of the expression: the new one before, the old one after
abbrev pub step_result : StepOp → Held → Held → Held
step_result PreIncrement old new = new
step_result PreDecrement old new = new
step_result PostIncrement old new = old
step_result PostDecrement old new = old

-- The value of an integer constant expression is an `int` where its constants are.
use Rattle.std.proofs.Common.{arith, rules, ◌≡◌, refl, sym, ap, ◌∙◌, ℕ, zero, suc, pos, negsuc, Bool, true, false}
use Rattle.std.proofs.Common.{w8, w16, w32}
use Rattle.std.specs.Prelude.{ℤ, FitsSigned, ◌<◌, ◌≤◌, ◌/◌, ◌%◌, ◌*◌, ◌^◌, int_div, int_rem, unsigned_abs}
use Rattle.std.specs.Prelude.{None, IfSome, ◌&&◌, if◌then◌else◌, not, int_lt}
use Rattle.std.specs.Ordering.{int_eq}
use Rattle.std.specs.Int.{int_wrap, int_bit_and, int_bit_or, int_bit_xor, int_bit_not}
use Rattle.std.proofs.lemmas.Int.{SFits-int_wrap, ints, rem_below}
use Rattle.std.proofs.lemmas.Bool.Decides.{Decides-int_eq}
use Rattle.std.proofs.lemmas.Bool.{and_parts}
use Rattle.pcc_base.specs.Arithmetic.{with_bits}
use Rattle.pcc_base.specs.Outcome.{ArrayName, Null}
use Rattle.pcc_base.specs.declared.run.Trap.TheVariants as trapped
use Rattle.c_tree.specs.declared.expression.BinaryOp.{BinaryOp}
use Rattle.c_tree.specs.declared.expression.BinaryOp.TheVariants as ops
use Rattle.c_tree.specs.declared.expression.UnaryOp.{UnaryOp}
use Rattle.c_tree.specs.declared.expression.UnaryOp.TheVariants as ones
use Rattle.c_tree.specs.declared.types.IntegerType.{IntegerType}
use Rattle.c_tree.specs.declared.types.IntegerType.TheVariants.{Char, Short, Int, UnsignedInt}
use Rattle.c_tree.specs.declared.types.ValueType.{ValueType}
use Rattle.c_tree.specs.declared.types.ValueType.TheVariants.{Void, Integer, Pointer}
use Rattle.c_tree.specs.Program.{value_type, Expression, Constant, Start, Read, Address, Unary, Binary, And, Or}
use Rattle.c_tree.specs.Program.{Conditional, Cast}
use Rattle.c_tree.specs.Program.{Assign, Update, Step, Comma, Call, Putchar, Getchar, Exit}
use Rattle.c_tree.specs.Store.{Held, HoldsNumber, HoldsPointer, converted, in_type, State, Evaluated, Gives, Ends}
use Rattle.c_tree.specs.Store.{and_then}
use Rattle.c_tree.specs.Operators.{Computed, Computes, Traps, is_true, unary_number, unary_value, no_quotient, number}
use Rattle.c_tree.specs.Operators.{is_signed, is_less, working_type, signed_quotient, signed_remainder, quotient_from_0}
use Rattle.c_tree.specs.Operators.{remainder_from_0, no_unsigned_quotient, shifted_unsigned, unsigned}
use Rattle.c_tree.specs.Operators.{shift_count, shifted_right, numbers_value, same_array}
use Rattle.c_tree.specs.Operators.{same_pointer, pointers_value, pointer_number_value, binary_value}
use Rattle.c_tree.specs.Evaluation.{computed, evaluate}
use Rattle.c_typing.specs.Constants.{has_constant_form, is_integer_type, no_calls, no_state, number_given}
use Rattle.c_typing.specs.Constants.{constant_value}
use Rattle.c_typing.specs.Laws.{IsInt}
use Rattle.c_check_laws.proofs.RowsSound.{not_true}

pub fits_int : (n : ℤ) → FitsSigned w32 n → IsInt n
fits_int n h = (omega (arith, ints, h.sfits), omega (arith, ints, h.sfits))

pub wrap_int : (z : ℤ) → IsInt (int_wrap w32 z)
wrap_int z = fits_int (int_wrap w32 z) (SFits-int_wrap w32 z)

pub narrow_8 : (n : ℤ) → FitsSigned w8 n → IsInt n
narrow_8 n h = (omega (arith, ints, h.sfits), omega (arith, ints, h.sfits))

narrow_16 : (n : ℤ) → FitsSigned w16 n → IsInt n
narrow_16 n h = (omega (arith, ints, h.sfits), omega (arith, ints, h.sfits))

and_fits : (a b : ℤ) → FitsSigned w32 (int_bit_and w32 a b)
and_fits a b = search rules

or_fits : (a b : ℤ) → FitsSigned w32 (int_bit_or w32 a b)
or_fits a b = search rules

xor_fits : (a b : ℤ) → FitsSigned w32 (int_bit_xor w32 a b)
xor_fits a b = search rules

not_fits : (a : ℤ) → FitsSigned w32 (int_bit_not w32 a)
not_fits a = search rules

zero_int : IsInt (pos 0)
zero_int = (omega (arith, ints), omega (arith, ints))

one_int : IsInt (pos 1)
one_int = (omega (arith, ints), omega (arith, ints))

bool_int : (b : Bool) → IsInt (if b then pos 1 else pos 0)
bool_int true = one_int
bool_int false = zero_int

-- ---- quotients

quotient_most : (m n : ℕ) → m / suc n ≤ m
quotient_most m n = omega arith

quotient_half : (m n : ℕ) → m / suc (suc n) * 2 ≤ m
quotient_half m n = omega arith

if_false : (a b : Bool) → (if a then true else b) ≡ false → (a ≡ false) × (b ≡ false)
if_false true b h = grind arith
if_false false b h = (refl, h)

no_zero : (a b : ℤ) → no_quotient a b ≡ false → b ≡ pos 0 → ⊥
no_zero a b h e =
    let p = if_false (int_eq b (pos 0)) (int_eq a (negsuc 0x7fffffff) && int_eq b (negsuc 0)) h in
    not_true (sym p.0 ∙ (Decides-int_eq b (pos 0)).1 e)

both_false : (a b : Bool) → (a && b) ≡ false → b ≡ true → a ≡ false
both_false true b h k = not_true (sym h ∙ k)
both_false false b h k = refl

not_least : (m : ℕ) → no_quotient (negsuc m) (negsuc 0) ≡ false → m ≡ 0x7fffffff → ⊥
not_least m h e =
    let p = if_false (int_eq (negsuc 0) (pos 0)) (int_eq (negsuc m) (negsuc 0x7fffffff)
    && int_eq (negsuc 0) (negsuc 0)) h in
    let q = both_false (int_eq (negsuc m) (negsuc 0x7fffffff)) (int_eq (negsuc 0) (negsuc 0)) p.1
    ((Decides-int_eq (negsuc 0) (negsuc 0)).1 refl) in
    not_true (sym q ∙ (Decides-int_eq (negsuc m) (negsuc 0x7fffffff)).1 (ap negsuc e))

least_off : (m : ℕ) → (m ≡ 0x7fffffff → ⊥) → suc m ≤ 0x80000000 → suc m / 1 < 0x80000000
least_off m h l = grind arith

div_int : (a b : ℤ) → IsInt a → no_quotient a b ≡ false → IsInt (int_div a b)
div_int (pos m) (pos zero) h e = absurd (no_zero (pos m) (pos zero) e refl)
div_int (pos m) (pos (suc n)) h e =
    let q = quotient_most m n in (omega (arith, ints, h, q), omega (arith, ints, h, q))
div_int (pos m) (negsuc n) h e =
    let q = quotient_most m n in (omega (arith, ints, h, q), omega (arith, ints, h, q))
div_int (negsuc m) (pos zero) h e = absurd (no_zero (negsuc m) (pos zero) e refl)
div_int (negsuc m) (pos (suc n)) h e =
    let q = quotient_most (suc m) n in (omega (arith, ints, h, q), omega (arith, ints, h, q))
div_int (negsuc m) (negsuc zero) h e =
    let l = least_off m (not_least m e) (omega (arith, ints, h)) in
    (omega (arith, ints, h, l), omega (arith, ints, h, l))
div_int (negsuc m) (negsuc (suc n)) h e =
    let q = quotient_half (suc m) n in (omega (arith, ints, h, q), omega (arith, ints, h, q))

some_size : (b : ℤ) → (b ≡ pos 0 → ⊥) → 0 < unsigned_abs b
some_size (pos zero) h = absurd (h refl)
some_size (pos (suc n)) h = omega arith
some_size (negsuc n) h = omega arith

rem_int : (a b : ℤ) → IsInt b → no_quotient a b ≡ false → IsInt (int_rem a b)
rem_int a b h e =
    let r = rem_below a b (some_size b (no_zero a b e)) in (omega (arith, ints, h, r), omega (arith, ints, h, r))

any_quotient : (m d : ℕ) → m / d ≤ m
any_quotient m zero = omega arith
any_quotient m (suc n) = quotient_most m n

shift_int : (a : ℤ) (k : ℕ) → IsInt a → IsInt (shifted_right a k)
shift_int (pos n) k h =
    let q = any_quotient n (2 ^ k) in shifted n (n / 2 ^ k) h q
  where
    shifted : (n q : ℕ) → IsInt (pos n) → q ≤ n → IsInt (pos q)
    shifted n q h l = (omega (arith, ints, h, l), omega (arith, ints, h, l))
shift_int (negsuc n) k h =
    let q = any_quotient n (2 ^ k) in shifted n (n / 2 ^ k) h q
  where
    shifted : (n q : ℕ) → IsInt (negsuc n) → q ≤ n → IsInt (negsuc q)
    shifted n q h l = (omega (arith, ints, h, l), omega (arith, ints, h, l))

-- ---- numbers without sign

bits_fit : (n : ℕ) → n < 2 ^ 32 → FitsSigned w32 (with_bits n)
bits_fit n h = search rules

bits_int : (n : ℕ) → n < 2 ^ 32 → IsInt (with_bits n)
bits_int n h = fits_int (with_bits n) (bits_fit n h)

unsigned_bits : (a : ℤ) → IsInt a → unsigned a < 2 ^ 32
unsigned_bits (pos m) h = omega (arith, ints, h)
unsigned_bits (negsuc m) h = omega (arith, ints, h)

any_remainder : (m d : ℕ) → m % d ≤ m
any_remainder m zero = omega arith
any_remainder m (suc n) = omega arith

no_more_bits : (m n : ℕ) → m ≤ n → n < 2 ^ 32 → m < 2 ^ 32
no_more_bits m n h k = omega (arith, h, k)

quotient_bits : (a : ℤ) (d : ℕ) → IsInt a → unsigned a / d < 2 ^ 32
quotient_bits a d h = no_more_bits (unsigned a / d) (unsigned a) (any_quotient (unsigned a) d) (unsigned_bits a h)

remainder_bits : (a : ℤ) (d : ℕ) → IsInt a → unsigned a % d < 2 ^ 32
remainder_bits a d h = no_more_bits (unsigned a % d) (unsigned a) (any_remainder (unsigned a) d) (unsigned_bits a h)

-- ---- operators

-- a number is an `int`
abbrev Number : Held → Type 0
Number (HoldsNumber n) = IsInt n
Number (HoldsPointer array index) = Unit {0}

abbrev Gets : Computed → Type 0
Gets (Computes v) = Number v
Gets (Traps trap) = Unit {0}

quotient_by : (a b : ℤ) (t : Bool) → no_quotient a b ≡ t → IsInt a
    → Gets (if t then Traps trapped.Divide else Computes (HoldsNumber (int_div a b)))
quotient_by a b true e h = tt
quotient_by a b false e h = div_int a b h e

remainder_by : (a b : ℤ) (t : Bool) → no_quotient a b ≡ t → IsInt b
    → Gets (if t then Traps trapped.Divide else Computes (HoldsNumber (int_rem a b)))
remainder_by a b true e h = tt
remainder_by a b false e h = rem_int a b h e

gets_bits : (t : Bool) (n : ℕ) → n < 2 ^ 32 → Gets (if t then Traps trapped.Divide else number (with_bits n))
gets_bits true n h = tt
gets_bits false n h = bits_int n h

quotient_within : (a b : ℤ) (signed : Bool) → IsInt a
    → Gets (if signed then signed_quotient a b else quotient_from_0 a b)
quotient_within a b true h = quotient_by a b (no_quotient a b) refl h
quotient_within a b false h =
    gets_bits (no_unsigned_quotient a b) (unsigned a / unsigned b) (quotient_bits a (unsigned b) h)

remainder_within : (a b : ℤ) (signed : Bool) → IsInt a → IsInt b
    → Gets (if signed then signed_remainder a b else remainder_from_0 a b)
remainder_within a b true h k = remainder_by a b (no_quotient a b) refl k
remainder_within a b false h k =
    gets_bits (no_unsigned_quotient a b) (unsigned a % unsigned b) (remainder_bits a (unsigned b) h)

shift_within : (a : ℤ) (k : ℕ) (signed : Bool) → IsInt a
    → IsInt (if signed then shifted_right a k else shifted_unsigned a k)
shift_within a k true h = shift_int a k h
shift_within a k false h = bits_int (unsigned a / 2 ^ k) (quotient_bits a (2 ^ k) h)

numbers_get : (within : IntegerType) (op : BinaryOp) (a b : ℤ) → IsInt a → IsInt b → Gets (numbers_value within op a b)
numbers_get within ops.Multiply a b h k = wrap_int _
numbers_get within ops.Divide a b h k = quotient_within a b (is_signed within) h
numbers_get within ops.Remainder a b h k = remainder_within a b (is_signed within) h k
numbers_get within ops.Add a b h k = wrap_int _
numbers_get within ops.Subtract a b h k = wrap_int _
numbers_get within ops.ShiftLeft a b h k = wrap_int _
numbers_get within ops.ShiftRight a b h k = shift_within a (shift_count b) (is_signed within) h
numbers_get within ops.Less a b h k = bool_int (is_less within a b)
numbers_get within ops.Greater a b h k = bool_int (is_less within b a)
numbers_get within ops.LessOrEqual a b h k = bool_int (not (is_less within b a))
numbers_get within ops.GreaterOrEqual a b h k = bool_int (not (is_less within a b))
numbers_get within ops.Equal a b h k = bool_int (int_eq a b)
numbers_get within ops.NotEqual a b h k = bool_int (not (int_eq a b))
numbers_get within ops.BitAnd a b h k = fits_int (int_bit_and w32 a b) (and_fits a b)
numbers_get within ops.BitXor a b h k = fits_int (int_bit_xor w32 a b) (xor_fits a b)
numbers_get within ops.BitOr a b h k = fits_int (int_bit_or w32 a b) (or_fits a b)

in_array : (t : Bool) (c : Computed) → Gets c → Gets (if t then c else Traps trapped.Check)
in_array true c h = h
in_array false c h = tt

pointers_get : (op : BinaryOp) (a : ArrayName) (i : ℤ) (b : ArrayName) (j : ℤ) → Gets (pointers_value op a i b j)
pointers_get ops.Multiply a i b j = zero_int
pointers_get ops.Divide a i b j = zero_int
pointers_get ops.Remainder a i b j = zero_int
pointers_get ops.Add a i b j = zero_int
pointers_get ops.Subtract a i b j = in_array (same_array a b) _ (wrap_int _)
pointers_get ops.ShiftLeft a i b j = zero_int
pointers_get ops.ShiftRight a i b j = zero_int
pointers_get ops.Less a i b j = in_array (same_array a b) _ (bool_int (int_lt i j))
pointers_get ops.Greater a i b j = in_array (same_array a b) _ (bool_int (int_lt j i))
pointers_get ops.LessOrEqual a i b j = in_array (same_array a b) _ (bool_int (not (int_lt j i)))
pointers_get ops.GreaterOrEqual a i b j = in_array (same_array a b) _ (bool_int (not (int_lt i j)))
pointers_get ops.Equal a i b j = bool_int (same_pointer a i b j)
pointers_get ops.NotEqual a i b j = bool_int (not (same_pointer a i b j))
pointers_get ops.BitAnd a i b j = zero_int
pointers_get ops.BitXor a i b j = zero_int
pointers_get ops.BitOr a i b j = zero_int

mixed_get : (op : BinaryOp) (a : ArrayName) (i n : ℤ) → Gets (pointer_number_value op a i n)
mixed_get ops.Multiply a i n = zero_int
mixed_get ops.Divide a i n = zero_int
mixed_get ops.Remainder a i n = zero_int
mixed_get ops.Add a i n = tt
mixed_get ops.Subtract a i n = tt
mixed_get ops.ShiftLeft a i n = zero_int
mixed_get ops.ShiftRight a i n = zero_int
mixed_get ops.Less a i n = zero_int
mixed_get ops.Greater a i n = zero_int
mixed_get ops.LessOrEqual a i n = zero_int
mixed_get ops.GreaterOrEqual a i n = zero_int
mixed_get ops.Equal a i n = bool_int (same_pointer a i Null (pos 0))
mixed_get ops.NotEqual a i n = bool_int (not (same_pointer a i Null (pos 0)))
mixed_get ops.BitAnd a i n = zero_int
mixed_get ops.BitXor a i n = zero_int
mixed_get ops.BitOr a i n = zero_int

binary_get : (within : IntegerType) (op : BinaryOp) (x y : Held) → Number x → Number y
    → Gets (binary_value within op x y)
binary_get within op (HoldsNumber a) (HoldsNumber b) h k = numbers_get within op a b h k
binary_get within op (HoldsPointer a i) (HoldsPointer b j) h k = pointers_get op a i b j
binary_get within op (HoldsPointer a i) (HoldsNumber n) h k = mixed_get op a i n
binary_get within op (HoldsNumber n) (HoldsPointer b j) h k = mixed_get op b j n

pub converted_int : (t : IntegerType) (n : ℤ) → IsInt n → IsInt (converted t n)
converted_int Char n h = narrow_8 (int_wrap w8 n) (SFits-int_wrap w8 n)
converted_int Short n h = narrow_16 (int_wrap w16 n) (SFits-int_wrap w16 n)
converted_int Int n h = h
converted_int UnsignedInt n h = h

unary_int : (op : UnaryOp) (n : ℤ) → IsInt n → IsInt (unary_number op n)
unary_int ones.Plus n h = h
unary_int ones.Minus n h = wrap_int _
unary_int ones.Complement n h = fits_int (int_bit_not w32 n) (not_fits n)
unary_int ones.Not n h = bool_int (int_eq n (pos 0))

not_int : (b : Bool) → IsInt (if b then pos 0 else pos 1)
not_int true = zero_int
not_int false = one_int

unary_get : (of : IntegerType) (op : UnaryOp) (v : Held) → Number v → Number (unary_value of op v)
unary_get of op (HoldsNumber n) h = converted_int of (unary_number op n) (unary_int op n h)
unary_get of ones.Plus (HoldsPointer array index) h = zero_int
unary_get of ones.Minus (HoldsPointer array index) h = zero_int
unary_get of ones.Complement (HoldsPointer array index) h = zero_int
unary_get of ones.Not (HoldsPointer array index) h = not_int (is_true (HoldsPointer array index))

in_type_get : (to : ValueType) (v : Held) → Number v → Number (in_type to v)
in_type_get Void v h = zero_int
in_type_get (Integer t) (HoldsNumber n) h = converted_int t n h
in_type_get (Integer t) (HoldsPointer array index) h = zero_int
in_type_get (Pointer t) (HoldsNumber n) h = tt
in_type_get (Pointer t) (HoldsPointer array index) h = tt

-- ---- expressions

abbrev Given : Evaluated Held → Type 0
Given (Gives v s) = Number v
Given (Ends end s) = Unit {0}

given_then : (c : Evaluated Held) (go : Held → State → Evaluated Held) → Given c
    → ((v : Held) (s : State) → Number v → Given (go v s)) → Given (and_then c go)
given_then (Gives v s) go h k = k v s h
given_then (Ends end s) go h k = tt

given_computed : (c : Computed) (s : State) → Gets c → Given (computed c s)
given_computed (Computes v) s h = h
given_computed (Traps trap) s h = tt

given_if : (t : Bool) (c d : Evaluated Held) → Given c → Given d → Given (if t then c else d)
given_if true c d h k = h
given_if false c d h k = k

-- the constants of a constant expression are of `int`
abbrev pub InRange : Expression → Type 0
InRange (Constant of n) = IsInt n
InRange (Start element array) = Unit {0}
InRange (Read of place) = Unit {0}
InRange (Address element place) = Unit {0}
InRange (Unary of op e) = InRange e
InRange (Binary of op a b) = InRange a × InRange b
InRange (And a b) = InRange a × InRange b
InRange (Or a b) = InRange a × InRange b
InRange (Conditional of t a b) = InRange t × (InRange a × InRange b)
InRange (Cast to e) = InRange e
InRange (Assign of place e) = Unit {0}
InRange (Update of op place e) = Unit {0}
InRange (Step of op place) = Unit {0}
InRange (Comma a b) = Unit {0}
InRange (Call of k es) = Unit {0}
InRange (Putchar e) = Unit {0}
InRange Getchar = Unit {0}
InRange (Exit e) = Unit {0}

value_int : (e : Expression) → has_constant_form e ≡ true → InRange e → (s : State) → Given (evaluate no_calls e s)
value_int (Constant of n) c r s = converted_int of n r
value_int (Start element array) c r s = not_true c
value_int (Read of place) c r s = not_true c
value_int (Address element place) c r s = not_true c
value_int (Unary of op e) c r s =
    given_then (evaluate no_calls e s) (λ v t. Gives (unary_value of op v) t) (value_int e c r s)
    (λ v t h. unary_get of op v h)
value_int (Binary of op a b) c r s =
    let within = working_type op (value_type a) (value_type b) in
    let p = and_parts (has_constant_form a) (has_constant_form b) c in
    given_then (evaluate no_calls a s) _ (value_int a p.0 r.0 s) (λ x t h.
    given_then (evaluate no_calls b t) _ (value_int b p.1 r.1 t) (λ y u k.
    given_computed (binary_value within op x y) u (binary_get within op x y h k)))
value_int (And a b) c r s =
    let p = and_parts (has_constant_form a) (has_constant_form b) c in
    given_then (evaluate no_calls a s) _ (value_int a p.0 r.0 s) (λ x t h.
    given_if (is_true x) _ _
    (given_then (evaluate no_calls b t) _ (value_int b p.1 r.1 t) (λ y u k. bool_int (is_true y))) zero_int)
value_int (Or a b) c r s =
    let p = and_parts (has_constant_form a) (has_constant_form b) c in
    given_then (evaluate no_calls a s) _ (value_int a p.0 r.0 s) (λ x t h.
    given_if (is_true x) _ _ one_int
    (given_then (evaluate no_calls b t) _ (value_int b p.1 r.1 t) (λ y u k. bool_int (is_true y))))
value_int (Conditional of q a b) c r s =
    let p = and_parts (has_constant_form q) (has_constant_form a && has_constant_form b) c in
    let o = and_parts (has_constant_form a) (has_constant_form b) p.1 in
    given_then (evaluate no_calls q s) _ (value_int q p.0 r.0 s) (λ x t h.
    given_then (if is_true x then evaluate no_calls a t else evaluate no_calls b t) _
    (given_if (is_true x) (evaluate no_calls a t) (evaluate no_calls b t) (value_int a o.0 r.1.0 t)
    (value_int b o.1 r.1.1 t)) (λ y u k. in_type_get of y k))
value_int (Cast to e) c r s =
    let p = and_parts (is_integer_type to) (has_constant_form e) c in
    given_then (evaluate no_calls e s) (λ v t. Gives (in_type to v) t) (value_int e p.1 r s)
    (λ v t h. in_type_get to v h)
value_int (Assign of place e) c r s = not_true c
value_int (Update of op place e) c r s = not_true c
value_int (Step of op place) c r s = not_true c
value_int (Comma a b) c r s = not_true c
value_int (Call of k es) c r s = not_true c
value_int (Putchar e) c r s = not_true c
value_int Getchar c r s = not_true c
value_int (Exit e) c r s = not_true c

given_number : (c : Evaluated Held) → Given c → IfSome (number_given c) IsInt
given_number (Gives (HoldsNumber n) s) h = h
given_number (Gives (HoldsPointer array index) s) h = tt
given_number (Ends end s) h = tt

by_form : (e : Expression) (b : Bool) → has_constant_form e ≡ b → InRange e
    → IfSome (if b then number_given (evaluate no_calls e no_state) else None) IsInt
by_form e true c r = given_number (evaluate no_calls e no_state) (value_int e c r no_state)
by_form e false c r = tt

-- the value of a constant expression is an `int`
pub constant_int : (e : Expression) → InRange e → IfSome (constant_value e) IsInt
constant_int e r = by_form e (has_constant_form e) refl r

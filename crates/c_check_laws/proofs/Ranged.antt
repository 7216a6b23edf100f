-- The constants of a typed constant expression are of `int`, where the numbers of its tokens are.
use Rattle.std.proofs.Common.{arith, ℕ, pos, Bool, true, false}
use Rattle.std.proofs.Common.{w8, w16, List, [], ◌∷◌, ◌++◌, map}
use Rattle.std.specs.Prelude.{ℤ, FitsSigned, Option, Some, None, IfSome, option_map, if◌then◌else◌}
use Rattle.std.specs.List.{AllByRecursion}
use Rattle.std.specs.Int.{int_wrap}
use Rattle.std.proofs.lemmas.Int.{SFits-int_wrap, ints}
use Rattle.pcc_base.specs.declared.span.Span.{Span}
use Rattle.pcc_base.specs.declared.fault.FaultKind.TheVariants as kinds
use Rattle.pcc_base.specs.Objects.{FitsBytes}
use Rattle.pcc_base.proofs.Lists.{all-left, all-right}
use Rattle.c_lex.specs.declared.token.Token.{Token}
use Rattle.c_syntax.specs.declared.operator.BinaryOp as raw
use Rattle.c_syntax.specs.declared.operator.BinaryOp.TheVariants as raw_binary
use Rattle.c_syntax.specs.declared.operator.UnaryOp as raw_one
use Rattle.c_syntax.specs.declared.operator.UnaryOp.TheVariants as raw_unary
use Rattle.c_syntax.specs.declared.operator.AssignOp.{AssignOp}
use Rattle.c_syntax.specs.declared.operator.AssignOp.TheVariants as raw_assign
use Rattle.c_syntax.specs.declared.expression.Identifier.{Identifier as Ident}
use Rattle.c_syntax.specs.declared.expression.TextPiece.{TextPiece}
use Rattle.c_syntax.specs.Expressions as trees
use Rattle.c_syntax.specs.Expressions.{Expr}
use Rattle.c_syntax.specs.ExpressionTokens.{expr_tokens, specifiers_tokens, pointer_tokens}
use Rattle.c_tree.specs.declared.expression.BinaryOp.{BinaryOp}
use Rattle.c_tree.specs.declared.expression.StepOp.{StepOp}
use Rattle.c_tree.specs.declared.expression.UnaryOp.{UnaryOp}
use Rattle.c_tree.specs.declared.types.IntegerType.{IntegerType}
use Rattle.c_tree.specs.declared.types.IntegerType.TheVariants.{Char, Short, Int, UnsignedInt}
use Rattle.c_tree.specs.declared.types.ValueType.{ValueType}
use Rattle.c_tree.specs.declared.types.ValueType.TheVariants.{Void, Integer, Pointer}
use Rattle.c_tree.specs.Program as tree
use Rattle.c_tree.specs.Program.{value_type, Expression, Place, LocalPlace, StaticPlace, Target, Element, Arguments}
use Rattle.c_tree.specs.Program.{NoMore, Argument}
use Rattle.c_tree.specs.Sizes.{bytes_of}
use Rattle.c_tree.specs.Store.{converted}
use Rattle.c_typing.specs.Constants.{constant_value, is_null}
use Rattle.c_typing.specs.Laws.{IsInt, HasIntIfAny}
use Rattle.c_typing.specs.Library.{Entity, Library, Shared, OfFile, At}
use Rattle.c_typing.specs.Library as library
use Rattle.c_typing.specs.Checked.{Contents, Elsewhere, Zeros, Values, fits, if_fits, pair}
use Rattle.c_typing.specs.Checked.{or_fails}
use Rattle.c_typing.specs.Names.{Meaning, Local, LocalArray, Object, ObjectArray, Function, Scope, meaning_of}
use Rattle.c_typing.specs.Rows.{misfit, row_at, of_numbers, of_shift, of_sum, of_difference, of_order, of_equality}
use Rattle.c_typing.specs.Rows.{of_conditions}
use Rattle.c_typing.specs.Rows.{of_choice, is_scalar, can_assign, on_number, dereferenced, address_of_place}
use Rattle.c_typing.specs.Rows.{place_named}
use Rattle.c_typing.specs.Rows.{address_row, unary_row, step_row, can_cast, cast_row, types_of, binary_row, element_of}
use Rattle.c_typing.specs.Rows.{index_row, conditional_row, updated, to_place_row, assignment_row}
use Rattle.c_typing.specs.Expressions.{type_name, text_bytes, text_values, named, Given, arguments_for, count_faults}
use Rattle.c_typing.specs.Expressions.{call_of, called, given, postfix_op, prefix_op, typed_expression}
use Rattle.c_typing.specs.Initialisers.{constant_for}
use Rattle.c_typing.proofs.CountUp.{IfFits, holds_if, holds_both, holds_pair, holds_also, Always, always}
use Rattle.c_check_laws.proofs.Ranges.{InRange, constant_int}

-- the numbers of these tokens are of `int`
abbrev pub HasInts : List Token → Type 0
HasInts T = AllByRecursion (λ (t : Token). HasIntIfAny t.kind) T

pub ints_left : (T U : List Token) → HasInts (T ++ U) → HasInts T
ints_left T U h = all-left (λ (t : Token). HasIntIfAny t.kind) T U h

pub ints_right : (T U : List Token) → HasInts (T ++ U) → HasInts U
ints_right T U h = all-right (λ (t : Token). HasIntIfAny t.kind) T U h

-- ---- rows

ranged_row : (at : Span) (ts : List ValueType) (o : Option ValueType) (make : ValueType → Expression)
    → ((of : ValueType) → InRange (make of)) → IfFits InRange (row_at at ts o make)
ranged_row at ts None make h = tt
ranged_row at ts (Some of) make h = h of

ranged_choice : (at : Span) (b : Bool) (ts : List ValueType) (e : Expression) → InRange e
    → IfFits InRange (if b then fits e else misfit at ts)
ranged_choice at true ts e h = h
ranged_choice at false ts e h = tt

number_ranged : (op : UnaryOp) (at : Span) (t : ValueType) (e : Expression) → InRange e
    → IfFits InRange (on_number op at t e)
number_ranged op at Void e h = tt
number_ranged op at (Integer t) e h = h
number_ranged op at (Pointer t) e h = tt

target_ranged : (at : Span) (t : ValueType) (e : Expression) → IfFits InRange (dereferenced at t e)
target_ranged at Void e = tt
target_ranged at (Integer t) e = tt
target_ranged at (Pointer t) e = tt

place_ranged : (at : Span) (p : Place) → IfFits InRange (address_of_place at p)
place_ranged at (LocalPlace v) = tt
place_ranged at (StaticPlace k) = tt
place_ranged at (Target element e) = tt
place_ranged at (Element element a i) = tt

address_ranged : (at : Span) (o : Option (ValueType × Place)) → IfFits InRange (address_row at o)
address_ranged at None = tt
address_ranged at (Some q) = place_ranged at q.1

unary_ranged : (op : raw_one.UnaryOp) (at : Span) (e : Expression) → InRange e → IfFits InRange (unary_row op at e)
unary_ranged raw_unary.AddressOf at e h = address_ranged at (place_named e)
unary_ranged raw_unary.Dereference at e h = target_ranged at (value_type e) e
unary_ranged raw_unary.Plus at e h = number_ranged _ at (value_type e) e h
unary_ranged raw_unary.Minus at e h = number_ranged _ at (value_type e) e h
unary_ranged raw_unary.Complement at e h = number_ranged _ at (value_type e) e h
unary_ranged raw_unary.Not at e h = ranged_choice at (is_scalar (value_type e)) (value_type e ∷ []) _ h

step_ranged : (op : StepOp) (at : Span) (o : Option (ValueType × Place)) → IfFits InRange (step_row op at o)
step_ranged op at None = tt
step_ranged op at (Some q) = tt

cast_ranged : (at : Span) (to : ValueType) (e : Expression) → InRange e → IfFits InRange (cast_row at to e)
cast_ranged at to e h =
    ranged_choice at (can_cast to (value_type e) (is_null e)) (to ∷ value_type e ∷ []) (tree.Cast to e) h

binary_ranged : (op : raw.BinaryOp) (at : Span) (a b : Expression) → InRange a → InRange b
    → IfFits InRange (binary_row op at a b)
binary_ranged raw_binary.Multiply at a b h k =
    ranged_row at (types_of a b) (of_numbers (value_type a) (value_type b)) _ (λ of. (h, k))
binary_ranged raw_binary.Divide at a b h k =
    ranged_row at (types_of a b) (of_numbers (value_type a) (value_type b)) _ (λ of. (h, k))
binary_ranged raw_binary.Remainder at a b h k =
    ranged_row at (types_of a b) (of_numbers (value_type a) (value_type b)) _ (λ of. (h, k))
binary_ranged raw_binary.Add at a b h k =
    ranged_row at (types_of a b) (of_sum (value_type a) (value_type b)) _ (λ of. (h, k))
binary_ranged raw_binary.Subtract at a b h k =
    ranged_row at (types_of a b) (of_difference (value_type a) (value_type b)) _ (λ of. (h, k))
binary_ranged raw_binary.ShiftLeft at a b h k =
    ranged_row at (types_of a b) (of_shift (value_type a) (value_type b)) _ (λ of. (h, k))
binary_ranged raw_binary.ShiftRight at a b h k =
    ranged_row at (types_of a b) (of_shift (value_type a) (value_type b)) _ (λ of. (h, k))
binary_ranged raw_binary.Less at a b h k =
    ranged_row at (types_of a b) (of_order (value_type a) (value_type b)) _ (λ of. (h, k))
binary_ranged raw_binary.Greater at a b h k =
    ranged_row at (types_of a b) (of_order (value_type a) (value_type b)) _ (λ of. (h, k))
binary_ranged raw_binary.LessEqual at a b h k =
    ranged_row at (types_of a b) (of_order (value_type a) (value_type b)) _ (λ of. (h, k))
binary_ranged raw_binary.GreaterEqual at a b h k =
    ranged_row at (types_of a b) (of_order (value_type a) (value_type b)) _ (λ of. (h, k))
binary_ranged raw_binary.Equal at a b h k =
    ranged_row at (types_of a b) (of_equality (value_type a) (is_null a) (value_type b) (is_null b)) _ (λ of. (h, k))
binary_ranged raw_binary.NotEqual at a b h k =
    ranged_row at (types_of a b) (of_equality (value_type a) (is_null a) (value_type b) (is_null b)) _ (λ of. (h, k))
binary_ranged raw_binary.BitAnd at a b h k =
    ranged_row at (types_of a b) (of_numbers (value_type a) (value_type b)) _ (λ of. (h, k))
binary_ranged raw_binary.BitXor at a b h k =
    ranged_row at (types_of a b) (of_numbers (value_type a) (value_type b)) _ (λ of. (h, k))
binary_ranged raw_binary.BitOr at a b h k =
    ranged_row at (types_of a b) (of_numbers (value_type a) (value_type b)) _ (λ of. (h, k))
binary_ranged raw_binary.LogicalAnd at a b h k =
    ranged_row at (types_of a b) (of_conditions (value_type a) (value_type b)) _ (λ of. (h, k))
binary_ranged raw_binary.LogicalOr at a b h k =
    ranged_row at (types_of a b) (of_conditions (value_type a) (value_type b)) _ (λ of. (h, k))
binary_ranged raw_binary.Comma at a b h k = tt

element_ranged : (at : Span) (o : Option ValueType) (a i : Expression) → IfFits InRange (element_of at o a i)
element_ranged at None a i = tt
element_ranged at (Some Void) a i = tt
element_ranged at (Some (Integer t)) a i = tt
element_ranged at (Some (Pointer t)) a i = tt

updated_ranged : (op : BinaryOp) (at : Span) (of : ValueType) (p : Place) (e : Expression) (o : Option ValueType)
    → IfFits InRange (updated op at of p e o)
updated_ranged op at of p e None = tt
updated_ranged op at of p e (Some r) =
    ranged_choice at (can_assign of r false) (of ∷ value_type e ∷ []) (tree.Update of op p e) tt

to_place_ranged : (op : AssignOp) (at : Span) (of : ValueType) (p : Place) (e : Expression)
    → IfFits InRange (to_place_row op at of p e)
to_place_ranged raw_assign.Assign at of p e =
    ranged_choice at (can_assign of (value_type e) (is_null e)) (of ∷ value_type e ∷ []) (tree.Assign of p e) tt
to_place_ranged raw_assign.Multiply at of p e = updated_ranged _ at of p e (of_numbers of (value_type e))
to_place_ranged raw_assign.Divide at of p e = updated_ranged _ at of p e (of_numbers of (value_type e))
to_place_ranged raw_assign.Remainder at of p e = updated_ranged _ at of p e (of_numbers of (value_type e))
to_place_ranged raw_assign.Add at of p e = updated_ranged _ at of p e (of_sum of (value_type e))
to_place_ranged raw_assign.Subtract at of p e = updated_ranged _ at of p e (of_difference of (value_type e))
to_place_ranged raw_assign.ShiftLeft at of p e = updated_ranged _ at of p e (of_shift of (value_type e))
to_place_ranged raw_assign.ShiftRight at of p e = updated_ranged _ at of p e (of_shift of (value_type e))
to_place_ranged raw_assign.BitAnd at of p e = updated_ranged _ at of p e (of_numbers of (value_type e))
to_place_ranged raw_assign.BitXor at of p e = updated_ranged _ at of p e (of_numbers of (value_type e))
to_place_ranged raw_assign.BitOr at of p e = updated_ranged _ at of p e (of_numbers of (value_type e))

assignment_ranged : (op : AssignOp) (at : Span) (o : Option (ValueType × Place)) (e : Expression)
    → IfFits InRange (assignment_row op at o e)
assignment_ranged op at None e = tt
assignment_ranged op at (Some q) e = to_place_ranged op at q.0 q.1 e

call_ranged : (s : Scope) (at : Span) (e : Entity) (of : ValueType) (es : Arguments)
    → IfFits InRange (call_of s at e of es)
call_ranged s at (Library library.Putchar) of NoMore = tt
call_ranged s at (Library library.Putchar) of (Argument e es) = tt
call_ranged s at (Library library.Getchar) of es = tt
call_ranged s at (Library library.Exit) of NoMore = tt
call_ranged s at (Library library.Exit) of (Argument e es) = tt
call_ranged s at (Shared name) of es = tt
call_ranged s at (OfFile file name) of es = tt
call_ranged s at (At place) of es = tt

called_ranged : (s : Scope) (x : Ident) (gs : List Given) (o : Option Meaning) → IfFits InRange (called s x gs o)
called_ranged s x gs None = tt
called_ranged s x gs (Some (Local v of)) = tt
called_ranged s x gs (Some (LocalArray k element)) = tt
called_ranged s x gs (Some (Object e of)) = tt
called_ranged s x gs (Some (ObjectArray e element)) = tt
called_ranged s x gs (Some (Function e g)) =
    holds_also InRange (count_faults x.at g.parameters gs)
    (if_fits (arguments_for g.parameters gs) (call_of s x.at e g.result))
    (holds_if Always InRange (arguments_for g.parameters gs) (call_of s x.at e g.result)
    (always (arguments_for g.parameters gs)) (λ es u. call_ranged s x.at e g.result es))

named_ranged : (s : Scope) (x : Ident) (o : Option Meaning) → IfFits InRange (named s x o)
named_ranged s x None = tt
named_ranged s x (Some (Local v of)) = tt
named_ranged s x (Some (LocalArray k element)) = tt
named_ranged s x (Some (Object e of)) = tt
named_ranged s x (Some (ObjectArray e element)) = tt
named_ranged s x (Some (Function e g)) = tt

-- ---- expressions

pub ranged : (s : Scope) (e : Expr) → HasInts (expr_tokens e) → IfFits InRange (typed_expression s e)
ranged s (trees.Identifier x) h = named_ranged s x (meaning_of s.names x.name)
ranged s (trees.Number value at) h = h.0
ranged s (trees.Text pieces) h = tt
ranged s (trees.Parenthesised o e c) h = ranged s e (ints_left (expr_tokens e) _ h.1)
ranged s (trees.Call x o arguments commas c) h =
    called_ranged s x (given s arguments) (meaning_of s.names x.name)
ranged s (trees.Index b o i c) h =
    holds_both Always Always InRange (typed_expression s b) (typed_expression s i) (index_row o)
    (always (typed_expression s b)) (always (typed_expression s i))
    (λ x y u v. element_ranged o (of_sum (value_type x) (value_type y)) x y)
ranged s (trees.Postfix b op at) h =
    holds_if Always InRange (typed_expression s b) (λ e. step_row (postfix_op op) at (place_named e))
    (always (typed_expression s b)) (λ x u. step_ranged (postfix_op op) at (place_named x))
ranged s (trees.Prefix op at b) h =
    holds_if Always InRange (typed_expression s b) (λ e. step_row (prefix_op op) at (place_named e))
    (always (typed_expression s b)) (λ x u. step_ranged (prefix_op op) at (place_named x))
ranged s (trees.Unary op at e) h =
    holds_if InRange InRange (typed_expression s e) (unary_row op at) (ranged s e h.1) (λ x r. unary_ranged op at x r)
ranged s (trees.Cast o specifiers pointer c e) h =
    let T = expr_tokens e in
    let k = ints_right (pointer_tokens pointer) (_ ∷ T)
    (ints_right (specifiers_tokens specifiers) (pointer_tokens pointer ++ _ ∷ T) h.1) in
    holds_both Always InRange InRange (type_name o specifiers pointer) (typed_expression s e) (cast_row o)
    (always (type_name o specifiers pointer)) (ranged s e k.1) (λ t x u r. cast_ranged o t x r)
ranged s (trees.Binary op l at r) h =
    holds_both InRange InRange InRange (typed_expression s l) (typed_expression s r) (binary_row op at)
    (ranged s l (ints_left (expr_tokens l) _ h)) (ranged s r (ints_right (expr_tokens l) (_ ∷ expr_tokens r) h).1)
    (λ x y u v. binary_ranged op at x y u v)
ranged s (trees.Conditional t q a k b) h =
    let A = expr_tokens a in
    let B = expr_tokens b in
    let r = (ints_right (expr_tokens t) (_ ∷ (A ++ _ ∷ B)) h).1 in
    holds_both InRange (λ p. InRange p.0 × InRange p.1) InRange (typed_expression s t)
    (pair (typed_expression s a) (typed_expression s b)) (λ x p. conditional_row q x p.0 p.1)
    (ranged s t (ints_left (expr_tokens t) _ h))
    (holds_pair InRange InRange (typed_expression s a) (typed_expression s b) (ranged s a (ints_left A (_ ∷ B) r))
    (ranged s b (ints_right A (_ ∷ B) r).1))
    (λ x p u v. ranged_row q (value_type x ∷ types_of p.0 p.1)
    (if is_scalar (value_type x)
    then of_choice (value_type p.0) (is_null p.0) (value_type p.1) (is_null p.1) else None)
    (λ of. tree.Conditional of x p.0 p.1) (λ of. (u, v)))
ranged s (trees.Assignment op l at r) h =
    holds_both Always Always InRange (typed_expression s l) (typed_expression s r)
    (λ x e. assignment_row op at (place_named x) e) (always (typed_expression s l)) (always (typed_expression s r))
    (λ x y u v. assignment_ranged op at (place_named x) y)

-- ---- values of static objects

byte_fits : (n : ℤ) → FitsSigned w8 n → FitsBytes 1 n
byte_fits n h = (omega (arith, ints, h.sfits), omega (arith, ints, h.sfits))

short_fits : (n : ℤ) → FitsSigned w16 n → FitsBytes 2 n
short_fits n h = (omega (arith, ints, h.sfits), omega (arith, ints, h.sfits))

int_fits : (n : ℤ) → IsInt n → FitsBytes 4 n
int_fits n h = (omega (arith, ints, h), omega (arith, ints, h))

-- a value that is converted fits the element
converted_fits : (t : IntegerType) (n : ℤ) → IsInt n → FitsBytes (bytes_of t) (converted t n)
converted_fits Char n h = byte_fits (int_wrap w8 n) (SFits-int_wrap w8 n)
converted_fits Short n h = short_fits (int_wrap w16 n) (SFits-int_wrap w16 n)
converted_fits Int n h = int_fits n h
converted_fits UnsignedInt n h = int_fits n h

pub zero_fits : (t : IntegerType) → FitsBytes (bytes_of t) (pos 0)
zero_fits Char = (omega (arith, ints), omega (arith, ints))
zero_fits Short = (omega (arith, ints), omega (arith, ints))
zero_fits Int = (omega (arith, ints), omega (arith, ints))
zero_fits UnsignedInt = (omega (arith, ints), omega (arith, ints))

option_fits : (t : IntegerType) (o : Option ℤ) (at : Span) → IfSome o IsInt
    → IfFits (FitsBytes (bytes_of t)) (or_fails (option_map (converted t) o) kinds.Initialiser at)
option_fits t None at h = tt
option_fits t (Some n) at h = converted_fits t n h

pub constant_fits : (t : IntegerType) (at : Span) (e : Expression) → InRange e
    → IfFits (FitsBytes (bytes_of t)) (constant_for t at e)
constant_fits t at e h = option_fits t (constant_value e) at (constant_int e h)

-- the values fit the elements of the type
abbrev pub Fitting : IntegerType → Contents → Type 0
Fitting t Elsewhere = Unit {0}
Fitting t Zeros = Unit {0}
Fitting t (Values vs) = AllByRecursion (FitsBytes (bytes_of t)) vs

bytes_fit : (bs : List ℕ)
    → AllByRecursion (FitsBytes 1) (map (λ byte. converted Char (pos byte)) bs ++ pos 0 ∷ [])
bytes_fit [] = (zero_fits Char, tt)
bytes_fit (b ∷ bs) = (byte_fits (int_wrap w8 (pos b)) (SFits-int_wrap w8 (pos b)), bytes_fit bs)

-- a string literal's values are those of `char`
pub text_fits : (pieces : List TextPiece) → Fitting Char (Values (text_values pieces))
text_fits pieces = bytes_fit (text_bytes pieces)

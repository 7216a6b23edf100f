-- Each part of a typed expression has a token of its own, and its constants are signed numbers of 32 bits.
use Rattle.std.proofs.Common.{arith, ◌≡◌, ℕ, suc, ◌+◌, ◌≤◌, pos, negsuc, Bool, true, false}
use Rattle.std.proofs.Common.{w32, List, [], ◌∷◌, ◌++◌, length, length-append}
use Rattle.std.specs.Prelude.{ℤ, FitsSigned, Option, Some, None, if◌then◌else◌}
use Rattle.std.proofs.lemmas.Int.{ints}
use Rattle.pcc_base.specs.declared.span.Span.{Span}
use Rattle.c_lex.specs.declared.token.Token.{Token}
use Rattle.c_syntax.specs.declared.operator.BinaryOp as raw
use Rattle.c_syntax.specs.declared.operator.BinaryOp.TheVariants as raw_binary
use Rattle.c_syntax.specs.declared.operator.UnaryOp as raw_one
use Rattle.c_syntax.specs.declared.operator.UnaryOp.TheVariants as raw_unary
use Rattle.c_syntax.specs.declared.operator.AssignOp.{AssignOp}
use Rattle.c_syntax.specs.declared.operator.AssignOp.TheVariants as raw_assign
use Rattle.c_syntax.specs.declared.expression.Identifier.{Identifier as Ident}
use Rattle.c_syntax.specs.declared.expression.TextPiece.{TextPiece}
use Rattle.c_syntax.specs.Expressions as trees
use Rattle.c_syntax.specs.Expressions.{Expr, Exprs, NoExpr, OneExpr}
use Rattle.c_syntax.specs.ExpressionTokens.{expr_tokens, exprs_tokens, more_tokens, specifiers_tokens, pointer_tokens}
use Rattle.c_syntax.specs.ExpressionTokens.{text_tokens, IsExpr, IsText, AreValues, Separate, Follow}
use Rattle.c_tree.specs.declared.expression.BinaryOp.{BinaryOp}
use Rattle.c_tree.specs.declared.expression.StepOp.{StepOp}
use Rattle.c_tree.specs.declared.expression.UnaryOp.{UnaryOp}
use Rattle.c_tree.specs.declared.types.ValueType.{ValueType}
use Rattle.c_tree.specs.declared.types.ValueType.TheVariants.{Void, Integer, Pointer}
use Rattle.c_tree.specs.Program as tree
use Rattle.c_tree.specs.Program.{value_type, Expression, Place, LocalPlace, StaticPlace, Target, Element, Arguments}
use Rattle.c_tree.specs.Program.{NoMore, Argument}
use Rattle.c_tree.specs.Sizes.{expression_size, place_size, arguments_size}
use Rattle.c_typing.specs.Constants.{is_null}
use Rattle.c_typing.specs.Laws.{IsInt}
use Rattle.c_typing.specs.Library.{Entity, Library, Shared, OfFile, At}
use Rattle.c_typing.specs.Library as library
use Rattle.c_typing.specs.Checked.{Checked, Fits, Fails, fits, if_fits, pair, both}
use Rattle.c_typing.specs.Names.{Meaning, Local, LocalArray, Object, ObjectArray, Function, Scope, meaning_of}
use Rattle.c_typing.specs.Rows.{misfit, row_at, of_numbers, of_shift, of_sum, of_difference, of_order, of_equality}
use Rattle.c_typing.specs.Rows.{of_conditions}
use Rattle.c_typing.specs.Rows.{of_choice, is_scalar, can_assign, on_number, dereferenced, address_of_place}
use Rattle.c_typing.specs.Rows.{place_named, assigned}
use Rattle.c_typing.specs.Rows.{address_row, unary_row, step_row, can_cast, cast_row, types_of, binary_row, element_of}
use Rattle.c_typing.specs.Rows.{index_row, conditional_row, updated, to_place_row, assignment_row}
use Rattle.c_typing.specs.Expressions.{type_name, named, Given, arguments_for, count_faults}
use Rattle.c_typing.specs.Expressions.{call_of, called, given, postfix_op, prefix_op, typed_expression}
use Rattle.c_typing.proofs.CountUp.{IfFits, holds_if, holds_both, holds_pair, holds_also, Always, always}
use Rattle.c_check_laws.proofs.Ranged.{HasInts, ints_left, ints_right}
use Rattle.lower_lines.specs.Words.{HasWords, PlaceHasWords, HaveWords}

-- at most so large, with constants of 32 bits
abbrev pub Fine : ℕ → Expression → Type 0
Fine n e = (expression_size e ≤ n) × HasWords e

abbrev pub PlaceFine : ℕ → Place → Type 0
PlaceFine n p = (place_size p ≤ n) × PlaceHasWords p

abbrev pub NamedFine : ℕ → Option (ValueType × Place) → Type 0
NamedFine n None = Unit {0}
NamedFine n (Some q) = PlaceFine n q.1

abbrev pub ArgumentsFine : ℕ → Arguments → Type 0
ArgumentsFine n es = (arguments_size es ≤ n) × HaveWords es

-- each of these has its part of so many tokens
abbrev pub GivenFine : ℕ → List Given → Type 0
GivenFine n [] = Unit {0}
GivenFine n (g ∷ gs) = (m : ℕ) × (k : ℕ) × (m + k ≤ n) × IfFits (Fine m) g.value × GivenFine k gs

-- two rows of tokens
pub cut : (T U : List Token) → HasInts (T ++ U)
    → HasInts T × HasInts U × (length (T ++ U) ≡ length T + length U)
cut T U h = (ints_left T U h, ints_right T U h, length-append T U)

pub int_fits : (n : ℤ) → IsInt n → FitsSigned w32 n
int_fits (pos n) h = record { sfits = omega (arith, ints, h) }
int_fits (negsuc n) h = record { sfits = omega (arith, ints, h) }

pub weaker : (m n : ℕ) (c : Checked Expression) → m ≤ n → IfFits (Fine m) c → IfFits (Fine n) c
weaker m n c l h =
    holds_map (Fine m) (Fine n) c h (λ e f. let s = f.0 in (omega (arith, s, l), f.1))
  where
    holds_map : (P Q : Expression → Type 0) (c : Checked Expression) → IfFits P c → ((e : Expression) → P e → Q e)
        → IfFits Q c
    holds_map P Q (Fits e ns) h on = on e h
    holds_map P Q (Fails f fs) h on = tt

-- ---- rows

row_fine : (k : ℕ) (at : Span) (ts : List ValueType) (o : Option ValueType) (make : ValueType → Expression)
    → ((of : ValueType) → Fine k (make of)) → IfFits (Fine k) (row_at at ts o make)
row_fine k at ts None make h = tt
row_fine k at ts (Some of) make h = h of

pub choice_fine : (k : ℕ) (at : Span) (b : Bool) (ts : List ValueType) (e : Expression) → Fine k e
    → IfFits (Fine k) (if b then fits e else misfit at ts)
choice_fine k at true ts e h = h
choice_fine k at false ts e h = tt

pub assigned_fine : (k : ℕ) (to : ValueType) (at : Span) (e : Expression) → Fine k e
    → IfFits (Fine k) (assigned to at e)
assigned_fine k to at e h = choice_fine k at (can_assign to (value_type e) (is_null e)) (to ∷ value_type e ∷ []) e h

number_fine : (k : ℕ) (op : UnaryOp) (at : Span) (t : ValueType) (e : Expression) → Fine k e
    → IfFits (Fine (suc k)) (on_number op at t e)
number_fine k op at Void e h = tt
number_fine k op at (Integer t) e h = let s = h.0 in (omega (arith, s), h.1)
number_fine k op at (Pointer t) e h = tt

target_fine : (k : ℕ) (at : Span) (t : ValueType) (e : Expression) → Fine k e
    → IfFits (Fine (suc k)) (dereferenced at t e)
target_fine k at Void e h = tt
target_fine k at (Integer t) e h = tt
target_fine k at (Pointer t) e h = let s = h.0 in (omega (arith, s), h.1)

place_fine : (k : ℕ) (at : Span) (p : Place) → PlaceFine k p → IfFits (Fine (suc k)) (address_of_place at p)
place_fine k at (LocalPlace v) h = tt
place_fine k at (StaticPlace o) h = tt
place_fine k at (Target element e) h = let s = h.0 in (omega (arith, s), h.1)
place_fine k at (Element element a i) h = let s = h.0 in (omega (arith, s), h.1)

address_fine : (k : ℕ) (at : Span) (o : Option (ValueType × Place)) → NamedFine k o
    → IfFits (Fine (suc k)) (address_row at o)
address_fine k at None h = tt
address_fine k at (Some q) h = place_fine k at q.1 h

-- the place that an expression names is no larger
named_place : (k : ℕ) (e : Expression) → Fine k e → NamedFine k (place_named e)
named_place k (tree.Constant of n) h = tt
named_place k (tree.Start element array) h = tt
named_place k (tree.Read of place) h = h
named_place k (tree.Address element place) h = tt
named_place k (tree.Unary of op e) h = tt
named_place k (tree.Binary of op a b) h = tt
named_place k (tree.And a b) h = tt
named_place k (tree.Or a b) h = tt
named_place k (tree.Conditional of t a b) h = tt
named_place k (tree.Cast to e) h = tt
named_place k (tree.Assign of place e) h = tt
named_place k (tree.Update of op place e) h = tt
named_place k (tree.Step of op place) h = tt
named_place k (tree.Comma a b) h = tt
named_place k (tree.Call of f es) h = tt
named_place k (tree.Putchar e) h = tt
named_place k tree.Getchar h = tt
named_place k (tree.Exit e) h = tt

not_fine : (k : ℕ) (at : Span) (e : Expression) → Fine k e → IfFits (Fine (suc k)) (unary_row raw_unary.Not at e)
not_fine k at e h =
    choice_fine (suc k) at (is_scalar (value_type e)) (value_type e ∷ []) _
    (let s = h.0 in (omega (arith, s), h.1))

unary_fine : (k : ℕ) (op : raw_one.UnaryOp) (at : Span) (e : Expression) → Fine k e
    → IfFits (Fine (suc k)) (unary_row op at e)
unary_fine k raw_unary.AddressOf at e h = address_fine k at (place_named e) (named_place k e h)
unary_fine k raw_unary.Dereference at e h = target_fine k at (value_type e) e h
unary_fine k raw_unary.Plus at e h = number_fine k _ at (value_type e) e h
unary_fine k raw_unary.Minus at e h = number_fine k _ at (value_type e) e h
unary_fine k raw_unary.Complement at e h = number_fine k _ at (value_type e) e h
unary_fine k raw_unary.Not at e h = not_fine k at e h

step_fine : (k : ℕ) (op : StepOp) (at : Span) (o : Option (ValueType × Place)) → NamedFine k o
    → IfFits (Fine (suc k)) (step_row op at o)
step_fine k op at None h = tt
step_fine k op at (Some q) h = let s = h.0 in (omega (arith, s), h.1)

cast_fine : (k : ℕ) (at : Span) (to : ValueType) (e : Expression) → Fine k e → IfFits (Fine (suc k)) (cast_row at to e)
cast_fine k at to e h =
    choice_fine (suc k) at (can_cast to (value_type e) (is_null e)) (to ∷ value_type e ∷ []) (tree.Cast to e)
    (let s = h.0 in (omega (arith, s), h.1))

-- both operands and the operator
two_fine : (m n k : ℕ) (a b : Expression) → suc (m + n) ≤ k → Fine m a → Fine n b
    → (suc (expression_size a + expression_size b) ≤ k) × (HasWords a × HasWords b)
two_fine m n k a b l h g = let s = h.0 in let t = g.0 in (omega (arith, l, s, t), (h.1, g.1))

binary_fine : (k : ℕ) (op : raw.BinaryOp) (at : Span) (a b : Expression)
    → (suc (expression_size a + expression_size b) ≤ k) × (HasWords a × HasWords b)
    → IfFits (Fine k) (binary_row op at a b)
binary_fine k raw_binary.Multiply at a b h =
    row_fine k at (types_of a b) (of_numbers (value_type a) (value_type b)) _ (λ of. h)
binary_fine k raw_binary.Divide at a b h =
    row_fine k at (types_of a b) (of_numbers (value_type a) (value_type b)) _ (λ of. h)
binary_fine k raw_binary.Remainder at a b h =
    row_fine k at (types_of a b) (of_numbers (value_type a) (value_type b)) _ (λ of. h)
binary_fine k raw_binary.Add at a b h =
    row_fine k at (types_of a b) (of_sum (value_type a) (value_type b)) _ (λ of. h)
binary_fine k raw_binary.Subtract at a b h =
    row_fine k at (types_of a b) (of_difference (value_type a) (value_type b)) _ (λ of. h)
binary_fine k raw_binary.ShiftLeft at a b h =
    row_fine k at (types_of a b) (of_shift (value_type a) (value_type b)) _ (λ of. h)
binary_fine k raw_binary.ShiftRight at a b h =
    row_fine k at (types_of a b) (of_shift (value_type a) (value_type b)) _ (λ of. h)
binary_fine k raw_binary.Less at a b h =
    row_fine k at (types_of a b) (of_order (value_type a) (value_type b)) _ (λ of. h)
binary_fine k raw_binary.Greater at a b h =
    row_fine k at (types_of a b) (of_order (value_type a) (value_type b)) _ (λ of. h)
binary_fine k raw_binary.LessEqual at a b h =
    row_fine k at (types_of a b) (of_order (value_type a) (value_type b)) _ (λ of. h)
binary_fine k raw_binary.GreaterEqual at a b h =
    row_fine k at (types_of a b) (of_order (value_type a) (value_type b)) _ (λ of. h)
binary_fine k raw_binary.Equal at a b h =
    row_fine k at (types_of a b) (of_equality (value_type a) (is_null a) (value_type b) (is_null b)) _ (λ of. h)
binary_fine k raw_binary.NotEqual at a b h =
    row_fine k at (types_of a b) (of_equality (value_type a) (is_null a) (value_type b) (is_null b)) _ (λ of. h)
binary_fine k raw_binary.BitAnd at a b h =
    row_fine k at (types_of a b) (of_numbers (value_type a) (value_type b)) _ (λ of. h)
binary_fine k raw_binary.BitXor at a b h =
    row_fine k at (types_of a b) (of_numbers (value_type a) (value_type b)) _ (λ of. h)
binary_fine k raw_binary.BitOr at a b h =
    row_fine k at (types_of a b) (of_numbers (value_type a) (value_type b)) _ (λ of. h)
binary_fine k raw_binary.LogicalAnd at a b h =
    row_fine k at (types_of a b) (of_conditions (value_type a) (value_type b)) _ (λ of. h)
binary_fine k raw_binary.LogicalOr at a b h =
    row_fine k at (types_of a b) (of_conditions (value_type a) (value_type b)) _ (λ of. h)
binary_fine k raw_binary.Comma at a b h = h

element_fine : (k : ℕ) (at : Span) (o : Option ValueType) (a i : Expression)
    → (suc (expression_size a + expression_size i) ≤ k) × (HasWords a × HasWords i)
    → IfFits (Fine k) (element_of at o a i)
element_fine k at None a i h = tt
element_fine k at (Some Void) a i h = tt
element_fine k at (Some (Integer t)) a i h = tt
element_fine k at (Some (Pointer t)) a i h = h

-- a place, a value and the operator
abbrev ToPlace : ℕ → Place → Expression → Type 0
ToPlace k p e = (suc (place_size p + expression_size e) ≤ k) × (PlaceHasWords p × HasWords e)

updated_fine : (k : ℕ) (op : BinaryOp) (at : Span) (of : ValueType) (p : Place) (e : Expression)
    (o : Option ValueType) → ToPlace k p e → IfFits (Fine k) (updated op at of p e o)
updated_fine k op at of p e None h = tt
updated_fine k op at of p e (Some r) h =
    choice_fine k at (can_assign of r false) (of ∷ value_type e ∷ []) (tree.Update of op p e) h

to_place_fine : (k : ℕ) (op : AssignOp) (at : Span) (of : ValueType) (p : Place) (e : Expression) → ToPlace k p e
    → IfFits (Fine k) (to_place_row op at of p e)
to_place_fine k raw_assign.Assign at of p e h =
    choice_fine k at (can_assign of (value_type e) (is_null e)) (of ∷ value_type e ∷ []) (tree.Assign of p e) h
to_place_fine k raw_assign.Multiply at of p e h = updated_fine k _ at of p e (of_numbers of (value_type e)) h
to_place_fine k raw_assign.Divide at of p e h = updated_fine k _ at of p e (of_numbers of (value_type e)) h
to_place_fine k raw_assign.Remainder at of p e h = updated_fine k _ at of p e (of_numbers of (value_type e)) h
to_place_fine k raw_assign.Add at of p e h = updated_fine k _ at of p e (of_sum of (value_type e)) h
to_place_fine k raw_assign.Subtract at of p e h = updated_fine k _ at of p e (of_difference of (value_type e)) h
to_place_fine k raw_assign.ShiftLeft at of p e h = updated_fine k _ at of p e (of_shift of (value_type e)) h
to_place_fine k raw_assign.ShiftRight at of p e h = updated_fine k _ at of p e (of_shift of (value_type e)) h
to_place_fine k raw_assign.BitAnd at of p e h = updated_fine k _ at of p e (of_numbers of (value_type e)) h
to_place_fine k raw_assign.BitXor at of p e h = updated_fine k _ at of p e (of_numbers of (value_type e)) h
to_place_fine k raw_assign.BitOr at of p e h = updated_fine k _ at of p e (of_numbers of (value_type e)) h

assignment_fine : (m n k : ℕ) (op : AssignOp) (at : Span) (o : Option (ValueType × Place)) (e : Expression)
    → suc (m + n) ≤ k → NamedFine m o → Fine n e → IfFits (Fine k) (assignment_row op at o e)
assignment_fine m n k op at None e l h g = tt
assignment_fine m n k op at (Some q) e l h g =
    to_place_fine k op at q.0 q.1 e (let s = h.0 in let t = g.0 in (omega (arith, l, s, t), (h.1, g.1)))

-- ---- calls

argument_on : (m k n : ℕ) (e : Expression) (es : Arguments) → m + k ≤ n → Fine m e → ArgumentsFine k es
    → ArgumentsFine n (Argument e es)
argument_on m k n e es l h g = let s = h.0 in let t = g.0 in (omega (arith, l, s, t), (h.1, g.1))

arguments_fine : (n : ℕ) (ts : List ValueType) (gs : List Given) → GivenFine n gs
    → IfFits (ArgumentsFine n) (arguments_for ts gs)
arguments_fine n [] [] h = (omega arith, tt)
arguments_fine n (t ∷ ts) [] h = (omega arith, tt)
arguments_fine n [] (g ∷ gs) (m, k, l, f, others) =
    holds_both (Fine m) (ArgumentsFine k) (ArgumentsFine n) g.value (arguments_for [] gs)
    (λ e es. fits (Argument e es)) f (arguments_fine k [] gs others) (λ e es x y. argument_on m k n e es l x y)
arguments_fine n (t ∷ ts) (g ∷ gs) (m, k, l, f, others) =
    holds_both (Fine m) (ArgumentsFine k) (ArgumentsFine n) (if_fits g.value (assigned t g.at)) (arguments_for ts gs)
    (λ e es. fits (Argument e es))
    (holds_if (Fine m) (Fine m) g.value (assigned t g.at) f (λ e x. assigned_fine m t g.at e x))
    (arguments_fine k ts gs others) (λ e es x y. argument_on m k n e es l x y)

call_fine : (n : ℕ) (s : Scope) (at : Span) (e : Entity) (of : ValueType) (es : Arguments) → ArgumentsFine n es
    → IfFits (Fine (suc n)) (call_of s at e of es)
call_fine n s at (Library library.Putchar) of NoMore h = tt
call_fine n s at (Library library.Putchar) of (Argument e es) h = let l = h.0 in (omega (arith, l), h.1.0)
call_fine n s at (Library library.Getchar) of es h = (omega arith, tt)
call_fine n s at (Library library.Exit) of NoMore h = tt
call_fine n s at (Library library.Exit) of (Argument e es) h = let l = h.0 in (omega (arith, l), h.1.0)
call_fine n s at (Shared name) of es h = let l = h.0 in (omega (arith, l), h.1)
call_fine n s at (OfFile file name) of es h = let l = h.0 in (omega (arith, l), h.1)
call_fine n s at (At place) of es h = let l = h.0 in (omega (arith, l), h.1)

called_fine : (n : ℕ) (s : Scope) (x : Ident) (gs : List Given) (o : Option Meaning) → GivenFine n gs
    → IfFits (Fine (suc n)) (called s x gs o)
called_fine n s x gs None h = tt
called_fine n s x gs (Some (Local v of)) h = tt
called_fine n s x gs (Some (LocalArray k element)) h = tt
called_fine n s x gs (Some (Object e of)) h = tt
called_fine n s x gs (Some (ObjectArray e element)) h = tt
called_fine n s x gs (Some (Function e g)) h =
    holds_also (Fine (suc n)) (count_faults x.at g.parameters gs)
    (if_fits (arguments_for g.parameters gs) (call_of s x.at e g.result))
    (holds_if (ArgumentsFine n) (Fine (suc n)) (arguments_for g.parameters gs) (call_of s x.at e g.result)
    (arguments_fine n g.parameters gs h) (λ es u. call_fine n s x.at e g.result es u))

named_fine : (n : ℕ) (s : Scope) (x : Ident) (o : Option Meaning) → 1 ≤ n → IfFits (Fine n) (named s x o)
named_fine n s x None l = tt
named_fine n s x (Some (Local v of)) l = (l, tt)
named_fine n s x (Some (LocalArray k element)) l = (l, tt)
named_fine n s x (Some (Object e of)) l = (l, tt)
named_fine n s x (Some (ObjectArray e element)) l = (l, tt)
named_fine n s x (Some (Function e g)) l = tt

some_text : (pieces : List TextPiece) → IsText pieces → 1 ≤ length (text_tokens pieces)
some_text [] h = absurd h
some_text (p ∷ ps) h = omega arith

-- ---- expressions

mutual
  pub expression_fine : (s : Scope) (e : Expr) → IsExpr e → HasInts (expr_tokens e)
      → IfFits (Fine (length (expr_tokens e))) (typed_expression s e)
  expression_fine s (trees.Identifier x) is h = named_fine 1 s x (meaning_of s.names x.name) (omega arith)
  expression_fine s (trees.Number value at) is h = (omega arith, int_fits value h.0)
  expression_fine s (trees.Text pieces) is h = (some_text pieces is, tt)
  expression_fine s (trees.Parenthesised o e c) is h =
      let T = expr_tokens e in
      let p = cut T (_ ∷ []) h.1 in
      let l = p.2 in
      weaker (length T) _ (typed_expression s e) (omega (arith, l)) (expression_fine s e is p.0)
  expression_fine s (trees.Call x o arguments commas c) is h =
      let T = exprs_tokens arguments commas in
      let p = cut T (_ ∷ []) h.1.1 in
      let l = p.2 in
      weaker (suc (length T)) _ (called s x (given s arguments) (meaning_of s.names x.name)) (omega (arith, l))
      (called_fine (length T) s x (given s arguments) (meaning_of s.names x.name)
      (given_fine s arguments commas is.0 is.1 p.0))
  expression_fine s (trees.Index b o i c) is h =
      let B = expr_tokens b in
      let I = expr_tokens i in
      let p = cut B (_ ∷ (I ++ _ ∷ [])) h in
      let q = cut I (_ ∷ []) p.1.1 in
      let l = p.2 in
      let k = q.2 in
      holds_both (Fine (length B)) (Fine (length I)) (Fine (length (expr_tokens (trees.Index b o i c))))
      (typed_expression s b) (typed_expression s i) (index_row o) (expression_fine s b is.0 p.0)
      (expression_fine s i is.2 q.0) (λ x y u v.
      element_fine _ o (of_sum (value_type x) (value_type y)) x y
      (two_fine (length B) (length I) _ x y (omega (arith, l, k)) u v))
  expression_fine s (trees.Postfix b op at) is h =
      let B = expr_tokens b in
      let p = cut B (_ ∷ []) h in
      let l = p.2 in
      let c = if_fits (typed_expression s b) (λ e. step_row (postfix_op op) at (place_named e)) in
      weaker (suc (length B)) _ c (omega (arith, l))
      (holds_if (Fine (length B)) (Fine (suc (length B))) (typed_expression s b)
      (λ e. step_row (postfix_op op) at (place_named e)) (expression_fine s b is.0 p.0) (λ x u.
      step_fine (length B) (postfix_op op) at (place_named x) (named_place (length B) x u)))
  expression_fine s (trees.Prefix op at b) is h =
      let B = expr_tokens b in
      holds_if (Fine (length B)) (Fine (suc (length B))) (typed_expression s b)
      (λ e. step_row (prefix_op op) at (place_named e)) (expression_fine s b is.0 h.1) (λ x u.
      step_fine (length B) (prefix_op op) at (place_named x) (named_place (length B) x u))
  expression_fine s (trees.Unary op at e) is h =
      let T = expr_tokens e in
      holds_if (Fine (length T)) (Fine (suc (length T))) (typed_expression s e) (unary_row op at)
      (expression_fine s e is.0 h.1) (λ x r. unary_fine (length T) op at x r)
  expression_fine s (trees.Cast o specifiers pointer c e) is h =
      let T = expr_tokens e in
      let P = pointer_tokens pointer in
      let S = specifiers_tokens specifiers in
      let p = cut S (P ++ _ ∷ T) h.1 in
      let q = cut P (_ ∷ T) p.1 in
      let l = p.2 in
      let k = q.2 in
      let d = both (type_name o specifiers pointer) (typed_expression s e) (cast_row o) in
      weaker (suc (length T)) _ d (omega (arith, l, k))
      (holds_both Always (Fine (length T)) (Fine (suc (length T))) (type_name o specifiers pointer)
      (typed_expression s e) (cast_row o) (always (type_name o specifiers pointer))
      (expression_fine s e is.1 q.1.1) (λ t x u r. cast_fine (length T) o t x r))
  expression_fine s (trees.Binary op l at r) is h =
      let A = expr_tokens l in
      let B = expr_tokens r in
      let p = cut A (_ ∷ B) h in
      let n = p.2 in
      holds_both (Fine (length A)) (Fine (length B)) (Fine (length (expr_tokens (trees.Binary op l at r))))
      (typed_expression s l) (typed_expression s r) (binary_row op at) (expression_fine s l is.0 p.0)
      (expression_fine s r is.2 p.1.1)
      (λ x y u v. binary_fine _ op at x y (two_fine (length A) (length B) _ x y (omega (arith, n)) u v))
  expression_fine s (trees.Conditional t q a k b) is h =
      let C = expr_tokens t in
      let A = expr_tokens a in
      let B = expr_tokens b in
      let p = cut C (_ ∷ (A ++ _ ∷ B)) h in
      let r = cut A (_ ∷ B) p.1.1 in
      let l = p.2 in
      let m = r.2 in
      let n = length (expr_tokens (trees.Conditional t q a k b)) in
      holds_both (Fine (length C)) (λ p. Fine (length A) p.0 × Fine (length B) p.1) (Fine n) (typed_expression s t)
      (pair (typed_expression s a) (typed_expression s b)) (λ x p. conditional_row q x p.0 p.1)
      (expression_fine s t is.0 p.0)
      (holds_pair (Fine (length A)) (Fine (length B)) (typed_expression s a) (typed_expression s b)
      (expression_fine s a is.2 r.0) (expression_fine s b is.3 r.1.1))
      (λ x p u v. row_fine n q (value_type x ∷ types_of p.0 p.1)
      (if is_scalar (value_type x)
      then of_choice (value_type p.0) (is_null p.0) (value_type p.1) (is_null p.1) else None)
      (λ of. tree.Conditional of x p.0 p.1) (λ of.
      let i = u.0 in let j = v.0.0 in let g = v.1.0 in
      (omega (arith, l, m, i, j, g), (u.1, v.0.1, v.1.1))))
  expression_fine s (trees.Assignment op l at r) is h =
      let A = expr_tokens l in
      let B = expr_tokens r in
      let p = cut A (_ ∷ B) h in
      let n = p.2 in
      let all = length (expr_tokens (trees.Assignment op l at r)) in
      holds_both (Fine (length A)) (Fine (length B)) (Fine all) (typed_expression s l) (typed_expression s r)
      (λ x e. assignment_row op at (place_named x) e) (expression_fine s l is.0 p.0)
      (expression_fine s r is.2 p.1.1)
      (λ x y u v. assignment_fine (length A) (length B) all op at (place_named x) y (omega (arith, n))
      (named_place (length A) x u) v)

  -- several, with commas between them
  pub given_fine : (s : Scope) (es : Exprs) (commas : List Span) → AreValues es → Separate es commas
      → HasInts (exprs_tokens es commas) → GivenFine (length (exprs_tokens es commas)) (given s es)
  given_fine s NoExpr commas are apart h = tt
  given_fine s (OneExpr e es) commas are apart h =
      let T = expr_tokens e in
      let U = more_tokens es commas in
      let p = cut T U h in
      let l = p.2 in
      (length T, length U, omega (arith, l), expression_fine s e are.0 p.0, more_fine s es commas are.2 apart p.1)

  more_fine : (s : Scope) (es : Exprs) (commas : List Span) → AreValues es → Follow es commas
      → HasInts (more_tokens es commas) → GivenFine (length (more_tokens es commas)) (given s es)
  more_fine s NoExpr commas are apart h = tt
  more_fine s (OneExpr e es) [] are apart h = absurd apart
  more_fine s (OneExpr e es) (at ∷ commas) are apart h =
      let T = expr_tokens e in
      let U = more_tokens es commas in
      let p = cut T U h.1 in
      let l = p.2 in
      (length T, length U, omega (arith, l), expression_fine s e are.0 p.0, more_fine s es commas are.2 apart p.1)

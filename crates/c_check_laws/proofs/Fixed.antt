-- An integer constant expression has the same tree wherever it stands, and nothing is noted of it.
use Rattle.std.proofs.Common.{arith, ◌≡◌, refl, ap, ◌∙◌, Bool, true, false, List, [], ◌∷◌, ◌++◌}
use Rattle.std.specs.Prelude.{Option, Some, None, ◌&&◌, if◌then◌else◌}
use Rattle.std.proofs.lemmas.Bool.{and_parts}
use Rattle.pcc_base.specs.declared.span.Span.{Span}
use Rattle.pcc_base.specs.declared.fault.Fault.{Fault}
use Rattle.pcc_base.specs.declared.fault.FaultKind.{FaultKind}
use Rattle.pcc_base.specs.declared.fault.FaultKind.TheVariants.{TypeRule, PointerUse}
use Rattle.c_syntax.specs.declared.operator.BinaryOp as raw
use Rattle.c_syntax.specs.declared.operator.BinaryOp.TheVariants as raw_binary
use Rattle.c_syntax.specs.declared.operator.UnaryOp as raw_one
use Rattle.c_syntax.specs.declared.operator.UnaryOp.TheVariants as raw_unary
use Rattle.c_syntax.specs.declared.operator.AssignOp.{AssignOp}
use Rattle.c_syntax.specs.declared.operator.AssignOp.TheVariants as raw_assign
use Rattle.c_syntax.specs.declared.expression.Identifier.{Identifier as Ident}
use Rattle.c_syntax.specs.Expressions as trees
use Rattle.c_syntax.specs.Expressions.{Star, Expr}
use Rattle.c_tree.specs.declared.expression.BinaryOp.{BinaryOp}
use Rattle.c_tree.specs.declared.expression.StepOp.{StepOp}
use Rattle.c_tree.specs.declared.expression.UnaryOp.{UnaryOp}
use Rattle.c_tree.specs.declared.expression.UnaryOp.TheVariants as ones
use Rattle.c_tree.specs.declared.types.ValueType.{ValueType}
use Rattle.c_tree.specs.declared.types.ValueType.TheVariants.{Void, Integer, Pointer}
use Rattle.c_tree.specs.declared.types.IntegerType.TheVariants.{Int}
use Rattle.c_tree.specs.Program as tree
use Rattle.c_tree.specs.Program.{value_type, Expression, Place, LocalPlace, StaticPlace, Target, Element, Arguments}
use Rattle.c_tree.specs.Program.{NoMore, Argument}
use Rattle.c_typing.specs.Constants.{has_constant_form, is_integer_type, is_null}
use Rattle.c_typing.specs.Library.{Entity, Library, Shared, OfFile, At}
use Rattle.c_typing.specs.Library as library
use Rattle.c_typing.specs.Types.{InCast, Specified, specified, pointed}
use Rattle.c_typing.specs.Checked.{Checked, Note, Fits, Fails, fits, noted, also, if_fits, pair, both, or_fails}
use Rattle.c_typing.specs.Names.{Meaning, Local, LocalArray, Object, ObjectArray, Function, Scope, meaning_of}
use Rattle.c_typing.specs.Rows.{misfit, row_at, of_numbers, of_shift, of_sum, of_difference, of_order, of_equality}
use Rattle.c_typing.specs.Rows.{of_choice}
use Rattle.c_typing.specs.Rows.{is_scalar, can_assign, on_number, dereferenced, address_of_place, place_named}
use Rattle.c_typing.specs.Rows.{address_row}
use Rattle.c_typing.specs.Rows.{unary_row, step_row, can_cast, cast_row, types_of, operated, compared, of_conditions}
use Rattle.c_typing.specs.Rows.{binary_row, element_of, index_row, conditional_row, updated}
use Rattle.c_typing.specs.Rows.{to_place_row, assignment_row}
use Rattle.c_typing.specs.Expressions.{first_word, type_name, named, Given, arguments_for, count_faults}
use Rattle.c_typing.specs.Expressions.{call_of, called, given, postfix_op, prefix_op}
use Rattle.c_typing.specs.Expressions.{typed_expression}
use Rattle.c_check_laws.proofs.RowsSound.{not_true}

-- where the tree is a constant expression, K holds and nothing is noted
abbrev Keeps : Type 0 → Checked Expression → Type 0
Keeps K (Fits y ms) = has_constant_form y ≡ true → K × (ms ≡ [])
Keeps K (Fails f fs) = Unit {0}

keeps_fits : (K : Type 0) (e : Expression) → (has_constant_form e ≡ true → K) → Keeps K (fits e)
keeps_fits K e h = λ c. (h c, refl)

keeps_row : (K : Type 0) (at : Span) (ts : List ValueType) (o : Option ValueType) (make : ValueType → Expression)
    → ((of : ValueType) → has_constant_form (make of) ≡ true → K) → Keeps K (row_at at ts o make)
keeps_row K at ts None make h = tt
keeps_row K at ts (Some of) make h = λ c. (h of c, refl)

keeps_choice : (K : Type 0) (at : Span) (b : Bool) (ts : List ValueType) (e : Expression)
    → (has_constant_form e ≡ true → K) → Keeps K (if b then fits e else misfit at ts)
keeps_choice K at true ts e h = λ c. (h c, refl)
keeps_choice K at false ts e h = tt

-- ---- rows

number_keeps : (op : UnaryOp) (at : Span) (t : ValueType) (e : Expression)
    → Keeps (has_constant_form e ≡ true) (on_number op at t e)
number_keeps op at Void e = tt
number_keeps op at (Integer t) e = λ c. (c, refl)
number_keeps op at (Pointer t) e = tt

target_keeps : (K : Type 0) (at : Span) (t : ValueType) (e : Expression) → Keeps K (dereferenced at t e)
target_keeps K at Void e = tt
target_keeps K at (Integer t) e = tt
target_keeps K at (Pointer t) e = λ c. not_true c

place_keeps : (K : Type 0) (at : Span) (p : Place) → Keeps K (address_of_place at p)
place_keeps K at (LocalPlace v) = tt
place_keeps K at (StaticPlace k) = tt
place_keeps K at (Target element e) = λ c. not_true c
place_keeps K at (Element element a i) = λ c. not_true c

address_keeps : (K : Type 0) (at : Span) (o : Option (ValueType × Place)) → Keeps K (address_row at o)
address_keeps K at None = tt
address_keeps K at (Some q) = place_keeps K at q.1

unary_keeps : (op : raw_one.UnaryOp) (at : Span) (e : Expression)
    → Keeps (has_constant_form e ≡ true) (unary_row op at e)
unary_keeps raw_unary.AddressOf at e = address_keeps (has_constant_form e ≡ true) at (place_named e)
unary_keeps raw_unary.Dereference at e = target_keeps (has_constant_form e ≡ true) at (value_type e) e
unary_keeps raw_unary.Plus at e = number_keeps ones.Plus at (value_type e) e
unary_keeps raw_unary.Minus at e = number_keeps ones.Minus at (value_type e) e
unary_keeps raw_unary.Complement at e = number_keeps ones.Complement at (value_type e) e
unary_keeps raw_unary.Not at e =
    keeps_choice (has_constant_form e ≡ true) at (is_scalar (value_type e)) (value_type e ∷ []) (tree.Unary Int
    ones.Not e)
    (λ c. c)

step_keeps : (K : Type 0) (op : StepOp) (at : Span) (o : Option (ValueType × Place)) → Keeps K (step_row op at o)
step_keeps K op at None = tt
step_keeps K op at (Some q) = λ c. not_true c

abbrev Two : Expression → Expression → Type 0
Two a b = (has_constant_form a ≡ true) × (has_constant_form b ≡ true)

operated_keeps : (row : ValueType → ValueType → Option ValueType) (op : BinaryOp) (at : Span) (a b : Expression)
    → Keeps (Two a b) (operated row op at a b)
operated_keeps row op at a b =
    keeps_row (Two a b) at (types_of a b) (row (value_type a) (value_type b)) (λ of. tree.Binary of op a b)
    (λ of c. and_parts (has_constant_form a) (has_constant_form b) c)

compared_keeps : (op : BinaryOp) (at : Span) (a b : Expression) → Keeps (Two a b) (compared op at a b)
compared_keeps op at a b =
    keeps_row (Two a b) at (types_of a b) (of_equality (value_type a) (is_null a) (value_type b) (is_null b))
    (λ of. tree.Binary of op a b) (λ of c. and_parts (has_constant_form a) (has_constant_form b) c)

binary_keeps : (op : raw.BinaryOp) (at : Span) (a b : Expression) → Keeps (Two a b) (binary_row op at a b)
binary_keeps raw_binary.Multiply = operated_keeps of_numbers _
binary_keeps raw_binary.Divide = operated_keeps of_numbers _
binary_keeps raw_binary.Remainder = operated_keeps of_numbers _
binary_keeps raw_binary.Add = operated_keeps of_sum _
binary_keeps raw_binary.Subtract = operated_keeps of_difference _
binary_keeps raw_binary.ShiftLeft = operated_keeps of_shift _
binary_keeps raw_binary.ShiftRight = operated_keeps of_shift _
binary_keeps raw_binary.Less = operated_keeps of_order _
binary_keeps raw_binary.Greater = operated_keeps of_order _
binary_keeps raw_binary.LessEqual = operated_keeps of_order _
binary_keeps raw_binary.GreaterEqual = operated_keeps of_order _
binary_keeps raw_binary.Equal = compared_keeps _
binary_keeps raw_binary.NotEqual = compared_keeps _
binary_keeps raw_binary.BitAnd = operated_keeps of_numbers _
binary_keeps raw_binary.BitXor = operated_keeps of_numbers _
binary_keeps raw_binary.BitOr = operated_keeps of_numbers _
binary_keeps raw_binary.LogicalAnd = λ at a b.
    keeps_row (Two a b) at (types_of a b) (of_conditions (value_type a) (value_type b)) (λ of. tree.And a b)
    (λ of c. and_parts (has_constant_form a) (has_constant_form b) c)
binary_keeps raw_binary.LogicalOr = λ at a b.
    keeps_row (Two a b) at (types_of a b) (of_conditions (value_type a) (value_type b)) (λ of. tree.Or a b)
    (λ of c. and_parts (has_constant_form a) (has_constant_form b) c)
binary_keeps raw_binary.Comma = λ at a b c. not_true c

index_by : (K : Type 0) (at : Span) (o : Option ValueType) (a i : Expression) → Keeps K (element_of at o a i)
index_by K at None a i = tt
index_by K at (Some Void) a i = tt
index_by K at (Some (Integer t)) a i = tt
index_by K at (Some (Pointer t)) a i = λ c. not_true c

conditional_keeps : (at : Span) (t a b : Expression)
    → Keeps ((has_constant_form t ≡ true) × Two a b) (conditional_row at t a b)
conditional_keeps at t a b =
    keeps_row ((has_constant_form t ≡ true) × Two a b) at (value_type t ∷ types_of a b)
    (if is_scalar (value_type t) then of_choice (value_type a) (is_null a) (value_type b) (is_null b) else None)
    (λ of. tree.Conditional of t a b) (λ of c.
    let p = and_parts (has_constant_form t) (has_constant_form a && has_constant_form b) c in
    (p.0, and_parts (has_constant_form a) (has_constant_form b) p.1))

cast_keeps : (at : Span) (to : ValueType) (e : Expression) → Keeps (has_constant_form e ≡ true) (cast_row at to e)
cast_keeps at to e =
    keeps_choice (has_constant_form e ≡ true) at (can_cast to (value_type e) (is_null e)) (to ∷ value_type e ∷ [])
    (tree.Cast to e) (λ c. (and_parts (is_integer_type to) (has_constant_form e) c).1)

updated_keeps : (K : Type 0) (op : BinaryOp) (at : Span) (of : ValueType) (p : Place) (e : Expression)
    (o : Option ValueType) → Keeps K (updated op at of p e o)
updated_keeps K op at of p e None = tt
updated_keeps K op at of p e (Some r) =
    keeps_choice K at (can_assign of r false) (of ∷ value_type e ∷ []) (tree.Update of op p e) (λ c. not_true c)

to_place_keeps : (K : Type 0) (op : AssignOp) (at : Span) (of : ValueType) (p : Place) (e : Expression)
    → Keeps K (to_place_row op at of p e)
to_place_keeps K raw_assign.Assign at of p e =
    keeps_choice K at (can_assign of (value_type e) (is_null e)) (of ∷ value_type e ∷ []) (tree.Assign of p e)
    (λ c. not_true c)
to_place_keeps K raw_assign.Multiply at of p e = updated_keeps K _ at of p e (of_numbers of (value_type e))
to_place_keeps K raw_assign.Divide at of p e = updated_keeps K _ at of p e (of_numbers of (value_type e))
to_place_keeps K raw_assign.Remainder at of p e = updated_keeps K _ at of p e (of_numbers of (value_type e))
to_place_keeps K raw_assign.Add at of p e = updated_keeps K _ at of p e (of_sum of (value_type e))
to_place_keeps K raw_assign.Subtract at of p e = updated_keeps K _ at of p e (of_difference of (value_type e))
to_place_keeps K raw_assign.ShiftLeft at of p e = updated_keeps K _ at of p e (of_shift of (value_type e))
to_place_keeps K raw_assign.ShiftRight at of p e = updated_keeps K _ at of p e (of_shift of (value_type e))
to_place_keeps K raw_assign.BitAnd at of p e = updated_keeps K _ at of p e (of_numbers of (value_type e))
to_place_keeps K raw_assign.BitXor at of p e = updated_keeps K _ at of p e (of_numbers of (value_type e))
to_place_keeps K raw_assign.BitOr at of p e = updated_keeps K _ at of p e (of_numbers of (value_type e))

assignment_keeps : (K : Type 0) (op : AssignOp) (at : Span) (o : Option (ValueType × Place)) (e : Expression)
    → Keeps K (assignment_row op at o e)
assignment_keeps K op at None e = tt
assignment_keeps K op at (Some q) e = to_place_keeps K op at q.0 q.1 e

-- ---- what is never a constant expression

abbrev Never : Checked Expression → Type 0
Never (Fits y ms) = has_constant_form y ≡ true → ⊥
Never (Fails f fs) = Unit {0}

never_noted : (ns : List Note) (c : Checked Expression) → Never c → Never (noted ns c)
never_noted ns (Fits a ms) h = h
never_noted ns (Fails f fs) h = tt

never_if : {A : Type 0} (c : Checked A) (f : A → Checked Expression) → ((a : A) → Never (f a)) → Never (if_fits c f)
never_if (Fits a ns) f h = never_noted ns (f a) (h a)
never_if (Fails x xs) f h = tt

never_also : (fs : List Fault) (c : Checked Expression) → Never c → Never (also fs c)
never_also [] c h = h
never_also (f ∷ fs) c h = tt

call_never : (s : Scope) (at : Span) (e : Entity) (of : ValueType) (es : Arguments) → Never (call_of s at e of es)
call_never s at (Library library.Putchar) of NoMore = tt
call_never s at (Library library.Putchar) of (Argument e es) = λ c. not_true c
call_never s at (Library library.Getchar) of es = λ c. not_true c
call_never s at (Library library.Exit) of NoMore = tt
call_never s at (Library library.Exit) of (Argument e es) = λ c. not_true c
call_never s at (Shared name) of es = λ c. not_true c
call_never s at (OfFile file name) of es = λ c. not_true c
call_never s at (At place) of es = λ c. not_true c

called_never : (s : Scope) (x : Ident) (gs : List Given) (o : Option Meaning) → Never (called s x gs o)
called_never s x gs None = tt
called_never s x gs (Some (Local v of)) = tt
called_never s x gs (Some (LocalArray k element)) = tt
called_never s x gs (Some (Object e of)) = tt
called_never s x gs (Some (ObjectArray e element)) = tt
called_never s x gs (Some (Function e g)) =
    never_also (count_faults x.at g.parameters gs)
    (if_fits (arguments_for g.parameters gs) (call_of s x.at e g.result))
    (never_if (arguments_for g.parameters gs) (call_of s x.at e g.result) (λ es. call_never s x.at e g.result es))

named_never : (s : Scope) (x : Ident) (o : Option Meaning) → Never (named s x o)
named_never s x None = tt
named_never s x (Some (Local v of)) = λ c. not_true c
named_never s x (Some (LocalArray k element)) = λ c. not_true c
named_never s x (Some (Object e of)) = λ c. not_true c
named_never s x (Some (ObjectArray e element)) = λ c. not_true c
named_never s x (Some (Function e g)) = tt

-- ---- two scopes

-- where the first fits with a constant expression, the second one does, and notes nothing
abbrev pub Fixed : Checked Expression → Checked Expression → Type 0
Fixed (Fits x ns) d = has_constant_form x ≡ true → d ≡ Fits x []
Fixed (Fails f fs) d = Unit {0}

never_fixed : (c d : Checked Expression) → Never c → Fixed c d
never_fixed (Fits x ns) d h = λ c. absurd (h c)
never_fixed (Fails f fs) d h = tt

fixed_row : {A : Type 0} (ns : List Note) (a : A) (K : Type 0) (d : Checked A) (row : A → Checked Expression)
    (r : Checked Expression) → row a ≡ r → Keeps K r → (K → d ≡ Fits a []) → Fixed (noted ns r) (if_fits d row)
fixed_row ns a K d row (Fits y ms) e h k = λ c.
    let p = h c in
    ap (λ z. if_fits z row) (k p.0) ∙ ap (noted []) e ∙ ap (Fits y) p.1
fixed_row ns a K d row (Fails f fs) e h k = tt

fixed_if : (c d : Checked Expression) (row : Expression → Checked Expression) → Fixed c d
    → ((x : Expression) → Keeps (has_constant_form x ≡ true) (row x)) → Fixed (if_fits c row) (if_fits d row)
fixed_if (Fits x ns) d row h k = fixed_row ns x (has_constant_form x ≡ true) d row (row x) refl (k x) h
fixed_if (Fails f fs) d row h k = tt

pair_fits : {A B : Type 0} (c : Checked A) (d : Checked B) (a : A) (b : B) → c ≡ Fits a [] → d ≡ Fits b []
    → pair c d ≡ Fits (a, b) []
pair_fits c d a b h k = ap (λ x. pair x d) h ∙ ap (λ y. pair (Fits a []) y) k

fixed_both : (c d x y : Checked Expression) (row : Expression → Expression → Checked Expression) → Fixed c d
    → Fixed x y → ((a b : Expression) → Keeps (Two a b) (row a b)) → Fixed (both c x row) (both d y row)
fixed_both (Fits a ns) d (Fits b ms) y row h k on =
    fixed_row (ns ++ ms) (a, b) (Two a b) (pair d y) (λ p. row p.0 p.1) (row a b) refl (on a b)
    (λ t. pair_fits d y a b (h t.0) (k t.1))
fixed_both (Fits a ns) d (Fails f fs) y row h k on = tt
fixed_both (Fails f fs) d x y row h k on = tt

fixed_three : (c d x y u v : Checked Expression) (row : Expression → Expression → Expression → Checked Expression)
    → Fixed c d → Fixed x y → Fixed u v
    → ((t a b : Expression) → Keeps ((has_constant_form t ≡ true) × Two a b) (row t a b))
    → Fixed (both c (pair x u) (λ t p. row t p.0 p.1)) (both d (pair y v) (λ t p. row t p.0 p.1))
fixed_three (Fits t ns) d (Fits a ms) y (Fits b ks) v row h k l on =
    fixed_row (ns ++ (ms ++ ks)) (t, (a, b)) ((has_constant_form t ≡ true) × Two a b) (pair d (pair y v))
    (λ p. row p.0 p.1.0 p.1.1) (row t a b) refl (on t a b)
    (λ q. pair_fits d (pair y v) t (a, b) (h q.0) (pair_fits y v a b (k q.1.0) (l q.1.1)))
fixed_three (Fits t ns) d (Fits a ms) y (Fails f fs) v row h k l on = tt
fixed_three (Fits t ns) d (Fails f fs) y u v row h k l on = tt
fixed_three (Fails f fs) d x y u v row h k l on = tt

-- a cast, whose type is the same
fixed_type : (c d : Checked Expression) (t : Checked ValueType) (row : ValueType → Expression → Checked Expression)
    → Fixed c d → ((ns : List Note) (u : ValueType) → t ≡ Fits u ns → t ≡ Fits u [])
    → ((u : ValueType) (x : Expression) → Keeps (has_constant_form x ≡ true) (row u x))
    → Fixed (both t c row) (both t d row)
fixed_type (Fits x ms) d (Fits u ns) row h plain on =
    fixed_row (ns ++ ms) (u, x) (has_constant_form x ≡ true) (pair (Fits u ns) d) (λ p. row p.0 p.1) (row u x) refl
    (on u x) (λ q. pair_fits (Fits u ns) d u x (plain ns u refl) (h q))
fixed_type (Fails f fs) d (Fits u ns) row h plain on = tt
fixed_type c d (Fails f fs) row h plain on = tt

abbrev strip : {A : Type 0} → Checked A → Checked A
strip (Fits x ms) = Fits x []
strip (Fails f fs) = Fails f fs

or_plain : {A : Type 0} (o : Option A) (kind : FaultKind) (at : Span) (ns : List Note) (a : A) → or_fails o kind at ≡
    Fits a ns
    → or_fails o kind at ≡ Fits a []
or_plain None kind at ns a e = grind arith
or_plain (Some b) kind at ns a e = ap strip e

type_plain_by : (o : Option Specified) (at : Span) (place : Span) (pointer : Option Star) (ns : List Note) (u :
    ValueType)
    → if_fits (or_fails o TypeRule at) (λ said. or_fails (pointed said.base pointer) PointerUse place) ≡ Fits u ns
    → if_fits (or_fails o TypeRule at) (λ said. or_fails (pointed said.base pointer) PointerUse place) ≡ Fits u []
type_plain_by None at place pointer ns u e = grind arith
type_plain_by (Some said) at place pointer ns u e = by_pointed (pointed said.base pointer) e
  where
    by_pointed : (q : Option ValueType) → noted [] (or_fails q PointerUse place) ≡ Fits u ns
        → noted [] (or_fails q PointerUse place) ≡ Fits u []
    by_pointed None e = grind arith
    by_pointed (Some v) e = or_plain (Some v) PointerUse place ns u e

pub fixed : (s t : Scope) (e : Expr) → Fixed (typed_expression s e) (typed_expression t e)
fixed s t (trees.Identifier x) =
    never_fixed (named s x (meaning_of s.names x.name)) (typed_expression t (trees.Identifier x))
    (named_never s x (meaning_of s.names x.name))
fixed s t (trees.Number value at) = λ c. refl
fixed s t (trees.Text pieces) = λ c. not_true c
fixed s t (trees.Parenthesised o e c) = fixed s t e
fixed s t (trees.Call x o arguments commas c) =
    never_fixed (called s x (given s arguments) (meaning_of s.names x.name))
    (typed_expression t (trees.Call x o arguments commas c))
    (called_never s x (given s arguments) (meaning_of s.names x.name))
fixed s t (trees.Index b o i c) =
    fixed_both (typed_expression s b) (typed_expression t b) (typed_expression s i) (typed_expression t i) (index_row o)
    (fixed s t b) (fixed s t i) (λ x y. index_by (Two x y) o (of_sum (value_type x) (value_type y)) x y)
fixed s t (trees.Postfix b op at) =
    fixed_if (typed_expression s b) (typed_expression t b) (λ e. step_row (postfix_op op) at (place_named e))
    (fixed s t b) (λ x. step_keeps (has_constant_form x ≡ true) (postfix_op op) at (place_named x))
fixed s t (trees.Prefix op at b) =
    fixed_if (typed_expression s b) (typed_expression t b) (λ e. step_row (prefix_op op) at (place_named e))
    (fixed s t b) (λ x. step_keeps (has_constant_form x ≡ true) (prefix_op op) at (place_named x))
fixed s t (trees.Unary op at e) =
    fixed_if (typed_expression s e) (typed_expression t e) (unary_row op at) (fixed s t e) (λ x. unary_keeps op at x)
fixed s t (trees.Cast o specifiers pointer c e) =
    fixed_type (typed_expression s e) (typed_expression t e) (type_name o specifiers pointer) (cast_row o)
    (fixed s t e)
    (λ ns u q. type_plain_by (specified InCast specifiers) (first_word specifiers) o pointer ns u q)
    (λ u x. cast_keeps o u x)
fixed s t (trees.Binary op l at r) =
    fixed_both (typed_expression s l) (typed_expression t l) (typed_expression s r) (typed_expression t r)
    (binary_row op at) (fixed s t l) (fixed s t r) (λ x y. binary_keeps op at x y)
fixed s t (trees.Conditional q at a k b) =
    fixed_three (typed_expression s q) (typed_expression t q) (typed_expression s a) (typed_expression t a)
    (typed_expression s b) (typed_expression t b) (conditional_row at) (fixed s t q) (fixed s t a) (fixed s t b)
    (λ x y z. conditional_keeps at x y z)
fixed s t (trees.Assignment op l at r) =
    fixed_both (typed_expression s l) (typed_expression t l) (typed_expression s r) (typed_expression t r)
    (λ x e. assignment_row op at (place_named x) e) (fixed s t l) (fixed s t r)
    (λ x y. assignment_keeps (Two x y) op at (place_named x) y)

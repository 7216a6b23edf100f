-- Rows agree on trees that differ in the numbers of objects and functions alone.
use Rattle.std.proofs.Common.{arith, ◌≡◌, refl, sym, ap, subst, ◌∙◌, Bool, true, false, List, [], ◌∷◌}
use Rattle.std.specs.Prelude.{Option, Some, None, option_map, unwrap_or, if◌then◌else◌}
use Rattle.std.specs.List.{list_any}
use Rattle.pcc_base.specs.declared.span.Span.{Span}
use Rattle.pcc_base.specs.declared.fault.Fault.{Fault}
use Rattle.pcc_base.specs.declared.fault.FaultKind.TheVariants.{TypeRule, PointerUse}
use Rattle.c_syntax.specs.declared.operator.BinaryOp as raw
use Rattle.c_syntax.specs.declared.operator.BinaryOp.TheVariants as raw_binary
use Rattle.c_syntax.specs.declared.operator.UnaryOp as raw_one
use Rattle.c_syntax.specs.declared.operator.UnaryOp.TheVariants as raw_unary
use Rattle.c_syntax.specs.declared.operator.AssignOp.{AssignOp}
use Rattle.c_syntax.specs.declared.operator.AssignOp.TheVariants as raw_assign
use Rattle.c_tree.specs.declared.expression.BinaryOp.{BinaryOp}
use Rattle.c_tree.specs.declared.expression.BinaryOp.TheVariants as ops
use Rattle.c_tree.specs.declared.expression.StepOp.{StepOp}
use Rattle.c_tree.specs.declared.expression.UnaryOp.{UnaryOp}
use Rattle.c_tree.specs.declared.expression.UnaryOp.TheVariants as ones
use Rattle.c_tree.specs.declared.types.IntegerType.TheVariants.{Int}
use Rattle.c_tree.specs.declared.types.ValueType.{ValueType}
use Rattle.c_tree.specs.declared.types.ValueType.TheVariants.{Void, Integer, Pointer}
use Rattle.c_tree.specs.Operators.{promoted}
use Rattle.c_tree.specs.Program.{value_type, Expression, Read, Unary, Binary, And, Or}
use Rattle.c_tree.specs.Program.{Conditional, Cast, Assign, Update, Comma, Place, LocalPlace, StaticPlace}
use Rattle.c_tree.specs.Program.{Target, Element}
use Rattle.c_typing.specs.Checked.{Checked, Fits, Fails, fits, faults_in, notes_in}
use Rattle.c_typing.specs.Constants.{constant_value, is_zero, is_null}
use Rattle.c_typing.specs.Faults.{fault}
use Rattle.c_typing.specs.Rows.{misfit, row_at, of_numbers, of_shift, of_sum, of_difference, of_order, of_equality}
use Rattle.c_typing.specs.Rows.{of_choice, is_scalar, can_assign, assigned, tested, selected, on_number, dereferenced}
use Rattle.c_typing.specs.Rows.{address_of_place, place_named, address_row, unary_row, step_row, can_cast, cast_row}
use Rattle.c_typing.specs.Rows.{types_of, operated, compared, of_conditions, joined, binary_row, element_of, index_row}
use Rattle.c_typing.specs.Rows.{conditional_row, assign_row, updated, update_row, to_place_row, assignment_row}
use Rattle.c_typing.specs.Types.{is_pointer}
use Rattle.c_typing.proofs.Bare.{bare, bare_place, bare_named, value_type-bare, constant-bare, place-bare}
use Rattle.c_typing.proofs.Agree.{Agree}

-- the same tree but for numbers
abbrev pub Twins : Expression → Expression → Type 0
Twins x y = bare x ≡ bare y

pub twin_type : (x y : Expression) → Twins x y → value_type x ≡ value_type y
twin_type x y h = sym (value_type-bare x) ∙ ap value_type h ∙ value_type-bare y

pub twin_constant : (x y : Expression) → Twins x y → constant_value x ≡ constant_value y
twin_constant x y h = sym (constant-bare x) ∙ ap constant_value h ∙ constant-bare y

twin_null : (x y : Expression) → Twins x y → is_null x ≡ is_null y
twin_null x y h = ap is_zero (twin_constant x y h)

-- what is read of two operands
twin_types : (a b c d : Expression) → Twins a c → Twins b d → types_of a b ≡ types_of c d
twin_types a b c d h k =
    ap (λ t. t ∷ value_type b ∷ []) (twin_type a c h) ∙ ap (λ t. value_type c ∷ t ∷ []) (twin_type b d k)

by_types : {X : Type 0} (f : ValueType → ValueType → X) (a b c d : Expression) → Twins a c → Twins b d
    → f (value_type a) (value_type b) ≡ f (value_type c) (value_type d)
by_types f a b c d h k = ap (λ t. f t (value_type b)) (twin_type a c h) ∙ ap (f (value_type c)) (twin_type b d k)

by_all : {X : Type 0} (f : ValueType → Bool → ValueType → Bool → X) (a b c d : Expression) → Twins a c → Twins b d
    → f (value_type a) (is_null a) (value_type b) (is_null b) ≡ f (value_type c) (is_null c) (value_type d) (is_null d)
by_all f a b c d h k =
    by_types (λ t u. f t (is_null a) u (is_null b)) a b c d h k
    ∙ ap (λ n. f (value_type c) n (value_type d) (is_null b)) (twin_null a c h)
    ∙ ap (λ n. f (value_type c) (is_null c) (value_type d) n) (twin_null b d k)

by_one : {X : Type 0} (f : ValueType → Bool → X) (x y : Expression) → Twins x y
    → f (value_type x) (is_null x) ≡ f (value_type y) (is_null y)
by_one f x y h = ap (λ t. f t (is_null x)) (twin_type x y h) ∙ ap (f (value_type y)) (twin_null x y h)

-- ---- choices of a row

misfit_agree : {A B : Type 0} (R : A → B → Type 0) (at : Span) (ts us : List ValueType) → ts ≡ us
    → Agree R (misfit {A = A} at ts) (misfit {A = B} at us)
misfit_agree R at ts us e = (ap (λ vs. fault (if list_any is_pointer vs then PointerUse else TypeRule) at) e, refl)

choice_same : (at : Span) (b : Bool) (ts us : List ValueType) (x y : Expression) → ts ≡ us → Twins x y
    → Agree Twins (if b then fits x else misfit at ts) (if b then fits y else misfit at us)
choice_same at true ts us x y e h = (h, refl)
choice_same at false ts us x y e h = misfit_agree Twins at ts us e

-- a row that fits where a test holds
choice_agree : (at : Span) (b c : Bool) (ts us : List ValueType) (x y : Expression) → b ≡ c → ts ≡ us → Twins x y
    → Agree Twins (if b then fits x else misfit at ts) (if c then fits y else misfit at us)
choice_agree at b c ts us x y d e h =
    subst (λ a. Agree Twins (if b then fits x else misfit at ts) (if a then fits y else misfit at us)) d
    (choice_same at b ts us x y e h)

row_same : (at : Span) (ts us : List ValueType) (o : Option ValueType) (f g : ValueType → Expression) → ts ≡ us
    → ((of : ValueType) → Twins (f of) (g of)) → Agree Twins (row_at at ts o f) (row_at at us o g)
row_same at ts us None f g e h = misfit_agree Twins at ts us e
row_same at ts us (Some of) f g e h = (h of, refl)

-- a row that gives the type of a result
row_agree : (at : Span) (ts us : List ValueType) (o p : Option ValueType) (f g : ValueType → Expression) → o ≡ p
    → ts ≡ us → ((of : ValueType) → Twins (f of) (g of)) → Agree Twins (row_at at ts o f) (row_at at us p g)
row_agree at ts us o p f g d e h =
    subst (λ q. Agree Twins (row_at at ts o f) (row_at at us q g)) d (row_same at ts us o f g e h)

-- ---- values that are assigned, tested or counted

pub assigned_agree : (to : ValueType) (at : Span) (x y : Expression) → Twins x y
    → Agree Twins (assigned to at x) (assigned to at y)
assigned_agree to at x y h =
    choice_agree at (can_assign to (value_type x) (is_null x)) (can_assign to (value_type y) (is_null y))
    (to ∷ value_type x ∷ []) (to ∷ value_type y ∷ []) x y (by_one (can_assign to) x y h)
    (ap (λ t. to ∷ t ∷ []) (twin_type x y h)) h

pub tested_agree : (at : Span) (x y : Expression) → Twins x y → Agree Twins (tested at x) (tested at y)
tested_agree at x y h =
    choice_agree at (is_scalar (value_type x)) (is_scalar (value_type y)) (value_type x ∷ []) (value_type y ∷ []) x y
    (ap is_scalar (twin_type x y h)) (ap (λ t. t ∷ []) (twin_type x y h)) h

selected_same : (t : ValueType) (at : Span) (x y : Expression) → Twins x y
    → Agree Twins (selected t at x) (selected t at y)
selected_same Void at x y h = (refl, refl)
selected_same (Integer t) at x y h = (h, refl)
selected_same (Pointer t) at x y h = (refl, refl)

pub selected_agree : (at : Span) (x y : Expression) → Twins x y
    → Agree Twins (selected (value_type x) at x) (selected (value_type y) at y)
selected_agree at x y h =
    subst (λ t. Agree Twins (selected (value_type x) at x) (selected t at y)) (twin_type x y h)
    (selected_same (value_type x) at x y h)

-- ---- one operand

number_same : (op : UnaryOp) (at : Span) (t : ValueType) (x y : Expression) → Twins x y
    → Agree Twins (on_number op at t x) (on_number op at t y)
number_same op at Void x y h = (refl, refl)
number_same op at (Integer t) x y h = (ap (Unary (promoted t) op) h, refl)
number_same op at (Pointer t) x y h = (refl, refl)

number_agree : (op : UnaryOp) (at : Span) (x y : Expression) → Twins x y
    → Agree Twins (on_number op at (value_type x) x) (on_number op at (value_type y) y)
number_agree op at x y h =
    subst (λ t. Agree Twins (on_number op at (value_type x) x) (on_number op at t y)) (twin_type x y h)
    (number_same op at (value_type x) x y h)

target_same : (at : Span) (t : ValueType) (x y : Expression) → Twins x y
    → Agree Twins (dereferenced at t x) (dereferenced at t y)
target_same at Void x y h = (refl, refl)
target_same at (Integer t) x y h = (refl, refl)
target_same at (Pointer t) x y h = (ap (λ z. Read (Integer t) (Target t z)) h, refl)

target_agree : (at : Span) (x y : Expression) → Twins x y
    → Agree Twins (dereferenced at (value_type x) x) (dereferenced at (value_type y) y)
target_agree at x y h =
    subst (λ t. Agree Twins (dereferenced at (value_type x) x) (dereferenced at t y)) (twin_type x y h)
    (target_same at (value_type x) x y h)

-- ---- places

twin_place : (x y : Expression) → Twins x y
    → option_map bare_named (place_named x) ≡ option_map bare_named (place_named y)
twin_place x y h = sym (place-bare x) ∙ ap place_named h ∙ place-bare y

abbrev bared : Checked Expression → Checked Expression
bared (Fits e notes) = Fits (bare e) notes
bared (Fails f fs) = Fails f fs

abbrev value_or : Expression → Checked Expression → Expression
value_or d (Fits e notes) = e
value_or d (Fails f fs) = d

abbrev first_or : Fault → Checked Expression → Fault
first_or d (Fits e notes) = d
first_or d (Fails f fs) = f

abbrev others_in : Checked Expression → List Fault
others_in (Fits e notes) = []
others_in (Fails f fs) = fs

agree_by_bare : (c d : Checked Expression) → bared c ≡ bared d → Agree Twins c d
agree_by_bare (Fits a ns) (Fits b ms) e = (ap (value_or (bare a)) e, ap notes_in e)
agree_by_bare (Fits a ns) (Fails g gs) e = let z : [] ≡ g ∷ gs = ap faults_in e in grind arith
agree_by_bare (Fails f fs) (Fits b ms) e = let z : f ∷ fs ≡ [] = ap faults_in e in grind arith
agree_by_bare (Fails f fs) (Fails g gs) e = (ap (first_or f) e, ap others_in e)

address-bare : (at : Span) (place : Place)
    → bared (address_of_place at place) ≡ address_of_place at (bare_place place)
address-bare at (LocalPlace v) = refl
address-bare at (StaticPlace k) = refl
address-bare at (Target element e) = refl
address-bare at (Element element a i) = refl

address_row-bare : (at : Span) (o : Option (ValueType × Place))
    → bared (address_row at o) ≡ address_row at (option_map bare_named o)
address_row-bare at None = refl
address_row-bare at (Some named) = address-bare at named.1

address_agree : (at : Span) (x y : Expression) → Twins x y
    → Agree Twins (address_row at (place_named x)) (address_row at (place_named y))
address_agree at x y h =
    agree_by_bare (address_row at (place_named x)) (address_row at (place_named y))
    (address_row-bare at (place_named x) ∙ ap (address_row at) (twin_place x y h)
    ∙ sym (address_row-bare at (place_named y)))

step_row-bare : (op : StepOp) (at : Span) (o : Option (ValueType × Place))
    → bared (step_row op at o) ≡ step_row op at (option_map bare_named o)
step_row-bare op at None = refl
step_row-bare op at (Some named) = refl

pub step_agree : (op : StepOp) (at : Span) (x y : Expression) → Twins x y
    → Agree Twins (step_row op at (place_named x)) (step_row op at (place_named y))
step_agree op at x y h =
    agree_by_bare (step_row op at (place_named x)) (step_row op at (place_named y))
    (step_row-bare op at (place_named x) ∙ ap (step_row op at) (twin_place x y h)
    ∙ sym (step_row-bare op at (place_named y)))

not_agree : (at : Span) (x y : Expression) → Twins x y
    → Agree Twins (unary_row raw_unary.Not at x) (unary_row raw_unary.Not at y)
not_agree at x y h =
    choice_agree at (is_scalar (value_type x)) (is_scalar (value_type y)) (value_type x ∷ []) (value_type y ∷ [])
    (Unary Int ones.Not x) (Unary Int ones.Not y) (ap is_scalar (twin_type x y h)) (ap (λ t. t ∷ []) (twin_type x y h))
    (ap (Unary Int ones.Not) h)

pub unary_agree : (op : raw_one.UnaryOp) (at : Span) (x y : Expression) → Twins x y
    → Agree Twins (unary_row op at x) (unary_row op at y)
unary_agree raw_unary.AddressOf at x y h = address_agree at x y h
unary_agree raw_unary.Dereference at x y h = target_agree at x y h
unary_agree raw_unary.Plus at x y h = number_agree ones.Plus at x y h
unary_agree raw_unary.Minus at x y h = number_agree ones.Minus at x y h
unary_agree raw_unary.Complement at x y h = number_agree ones.Complement at x y h
unary_agree raw_unary.Not at x y h = not_agree at x y h

pub cast_agree : (at : Span) (to : ValueType) (x y : Expression) → Twins x y
    → Agree Twins (cast_row at to x) (cast_row at to y)
cast_agree at to x y h =
    choice_agree at (can_cast to (value_type x) (is_null x)) (can_cast to (value_type y) (is_null y))
    (to ∷ value_type x ∷ []) (to ∷ value_type y ∷ []) (Cast to x) (Cast to y) (by_one (can_cast to) x y h)
    (ap (λ t. to ∷ t ∷ []) (twin_type x y h)) (ap (Cast to) h)

-- ---- two operands

twin_pair : (f : Expression → Expression → Expression) (a b c d : Expression) → a ≡ c → b ≡ d → f a b ≡ f c d
twin_pair f a b c d h k = ap (λ x. f x b) h ∙ ap (f c) k

operated_agree : (row : ValueType → ValueType → Option ValueType) (op : BinaryOp) (at : Span) (a b c d : Expression)
    → Twins a c → Twins b d → Agree Twins (operated row op at a b) (operated row op at c d)
operated_agree row op at a b c d h k =
    row_agree at (types_of a b) (types_of c d) (row (value_type a) (value_type b)) (row (value_type c) (value_type d))
    (λ of. Binary of op a b) (λ of. Binary of op c d) (by_types row a b c d h k) (twin_types a b c d h k)
    (λ of. twin_pair (Binary of op) (bare a) (bare b) (bare c) (bare d) h k)

compared_agree : (op : BinaryOp) (at : Span) (a b c d : Expression) → Twins a c → Twins b d
    → Agree Twins (compared op at a b) (compared op at c d)
compared_agree op at a b c d h k =
    row_agree at (types_of a b) (types_of c d) (of_equality (value_type a) (is_null a) (value_type b) (is_null b))
    (of_equality (value_type c) (is_null c) (value_type d) (is_null d)) (λ of. Binary of op a b)
    (λ of. Binary of op c d) (by_all of_equality a b c d h k) (twin_types a b c d h k)
    (λ of. twin_pair (Binary of op) (bare a) (bare b) (bare c) (bare d) h k)

and_agree : (at : Span) (a b c d : Expression) → Twins a c → Twins b d
    → Agree Twins (joined And at a b) (joined And at c d)
and_agree at a b c d h k =
    row_agree at (types_of a b) (types_of c d) (of_conditions (value_type a) (value_type b))
    (of_conditions (value_type c) (value_type d)) (λ of. And a b) (λ of. And c d) (by_types of_conditions a b c d h k)
    (twin_types a b c d h k) (λ of. twin_pair And (bare a) (bare b) (bare c) (bare d) h k)

or_agree : (at : Span) (a b c d : Expression) → Twins a c → Twins b d
    → Agree Twins (joined Or at a b) (joined Or at c d)
or_agree at a b c d h k =
    row_agree at (types_of a b) (types_of c d) (of_conditions (value_type a) (value_type b))
    (of_conditions (value_type c) (value_type d)) (λ of. Or a b) (λ of. Or c d) (by_types of_conditions a b c d h k)
    (twin_types a b c d h k) (λ of. twin_pair Or (bare a) (bare b) (bare c) (bare d) h k)

pub binary_agree : (op : raw.BinaryOp) (at : Span) (a b c d : Expression) → Twins a c → Twins b d
    → Agree Twins (binary_row op at a b) (binary_row op at c d)
binary_agree raw_binary.Multiply = operated_agree of_numbers ops.Multiply
binary_agree raw_binary.Divide = operated_agree of_numbers ops.Divide
binary_agree raw_binary.Remainder = operated_agree of_numbers ops.Remainder
binary_agree raw_binary.Add = operated_agree of_sum ops.Add
binary_agree raw_binary.Subtract = operated_agree of_difference ops.Subtract
binary_agree raw_binary.ShiftLeft = operated_agree of_shift ops.ShiftLeft
binary_agree raw_binary.ShiftRight = operated_agree of_shift ops.ShiftRight
binary_agree raw_binary.Less = operated_agree of_order ops.Less
binary_agree raw_binary.Greater = operated_agree of_order ops.Greater
binary_agree raw_binary.LessEqual = operated_agree of_order ops.LessOrEqual
binary_agree raw_binary.GreaterEqual = operated_agree of_order ops.GreaterOrEqual
binary_agree raw_binary.Equal = compared_agree ops.Equal
binary_agree raw_binary.NotEqual = compared_agree ops.NotEqual
binary_agree raw_binary.BitAnd = operated_agree of_numbers ops.BitAnd
binary_agree raw_binary.BitXor = operated_agree of_numbers ops.BitXor
binary_agree raw_binary.BitOr = operated_agree of_numbers ops.BitOr
binary_agree raw_binary.LogicalAnd = and_agree
binary_agree raw_binary.LogicalOr = or_agree
binary_agree raw_binary.Comma = λ at a b c d h k. (twin_pair Comma (bare a) (bare b) (bare c) (bare d) h k, refl)

element_same : (at : Span) (o : Option ValueType) (a b c d : Expression) → Twins a c → Twins b d
    → Agree Twins (element_of at o a b) (element_of at o c d)
element_same at None a b c d h k = misfit_agree Twins at (types_of a b) (types_of c d) (twin_types a b c d h k)
element_same at (Some Void) a b c d h k = misfit_agree Twins at (types_of a b) (types_of c d) (twin_types a b c d h k)
element_same at (Some (Integer t)) a b c d h k =
    misfit_agree Twins at (types_of a b) (types_of c d) (twin_types a b c d h k)
element_same at (Some (Pointer t)) a b c d h k =
    (twin_pair (λ x y. Read (Integer t) (Element t x y)) (bare a) (bare b) (bare c) (bare d) h k, refl)

pub index_agree : (at : Span) (a b c d : Expression) → Twins a c → Twins b d
    → Agree Twins (index_row at a b) (index_row at c d)
index_agree at a b c d h k =
    subst (λ o. Agree Twins (index_row at a b) (element_of at o c d)) (by_types of_sum a b c d h k)
    (element_same at (of_sum (value_type a) (value_type b)) a b c d h k)

abbrev choice_of : Bool → Option ValueType → Option ValueType
choice_of b o = if b then o else None

pub conditional_agree : (at : Span) (t a b u c d : Expression) → Twins t u → Twins a c → Twins b d
    → Agree Twins (conditional_row at t a b) (conditional_row at u c d)
conditional_agree at t a b u c d g h k =
    row_agree at (value_type t ∷ types_of a b) (value_type u ∷ types_of c d)
    (choice_of (is_scalar (value_type t)) (of_choice (value_type a) (is_null a) (value_type b) (is_null b)))
    (choice_of (is_scalar (value_type u)) (of_choice (value_type c) (is_null c) (value_type d) (is_null d)))
    (λ of. Conditional of t a b) (λ of. Conditional of u c d)
    (ap (λ x. choice_of (is_scalar x) (of_choice (value_type a) (is_null a) (value_type b) (is_null b)))
    (twin_type t u g) ∙ ap (choice_of (is_scalar (value_type u))) (by_all of_choice a b c d h k))
    (ap (λ x. x ∷ types_of a b) (twin_type t u g) ∙ ap (λ ts. value_type u ∷ ts) (twin_types a b c d h k))
    (λ of. ap (λ x. Conditional of x (bare a) (bare b)) g
    ∙ twin_pair (Conditional of (bare u)) (bare a) (bare b) (bare c) (bare d) h k)

-- ---- assignments

twin_assign : (of : ValueType) (p q : Place) (x y : Expression) → bare_place p ≡ bare_place q → Twins x y
    → Twins (Assign of p x) (Assign of q y)
twin_assign of p q x y e h = ap (λ z. Assign of z (bare x)) e ∙ ap (Assign of (bare_place q)) h

assign_agree : (at : Span) (of : ValueType) (p q : Place) (x y : Expression) → bare_place p ≡ bare_place q → Twins x y
    → Agree Twins (assign_row at of p x) (assign_row at of q y)
assign_agree at of p q x y e h =
    choice_agree at (can_assign of (value_type x) (is_null x)) (can_assign of (value_type y) (is_null y))
    (of ∷ value_type x ∷ []) (of ∷ value_type y ∷ []) (Assign of p x) (Assign of q y) (by_one (can_assign of) x y h)
    (ap (λ t. of ∷ t ∷ []) (twin_type x y h)) (twin_assign of p q x y e h)

updated_same : (op : BinaryOp) (at : Span) (of : ValueType) (p q : Place) (x y : Expression) (o : Option ValueType)
    → bare_place p ≡ bare_place q → Twins x y → Agree Twins (updated op at of p x o) (updated op at of q y o)
updated_same op at of p q x y None e h =
    misfit_agree Twins at (of ∷ value_type x ∷ []) (of ∷ value_type y ∷ [])
    (ap (λ t. of ∷ t ∷ []) (twin_type x y h))
updated_same op at of p q x y (Some result) e h =
    choice_same at (can_assign of result false) (of ∷ value_type x ∷ []) (of ∷ value_type y ∷ []) (Update of op p x)
    (Update of op q y) (ap (λ t. of ∷ t ∷ []) (twin_type x y h))
    (ap (λ z. Update of op z (bare x)) e ∙ ap (Update of op (bare_place q)) h)

update_agree : (row : ValueType → ValueType → Option ValueType) (op : BinaryOp) (at : Span) (of : ValueType)
    (p q : Place) (x y : Expression) → bare_place p ≡ bare_place q → Twins x y
    → Agree Twins (update_row row op at of p x) (update_row row op at of q y)
update_agree row op at of p q x y e h =
    subst (λ o. Agree Twins (update_row row op at of p x) (updated op at of q y o)) (ap (row of) (twin_type x y h))
    (updated_same op at of p q x y (row of (value_type x)) e h)

to_place_agree : (op : AssignOp) (at : Span) (of : ValueType) (p q : Place) (x y : Expression)
    → bare_place p ≡ bare_place q → Twins x y → Agree Twins (to_place_row op at of p x) (to_place_row op at of q y)
to_place_agree raw_assign.Assign = assign_agree
to_place_agree raw_assign.Multiply = update_agree of_numbers ops.Multiply
to_place_agree raw_assign.Divide = update_agree of_numbers ops.Divide
to_place_agree raw_assign.Remainder = update_agree of_numbers ops.Remainder
to_place_agree raw_assign.Add = update_agree of_sum ops.Add
to_place_agree raw_assign.Subtract = update_agree of_difference ops.Subtract
to_place_agree raw_assign.ShiftLeft = update_agree of_shift ops.ShiftLeft
to_place_agree raw_assign.ShiftRight = update_agree of_shift ops.ShiftRight
to_place_agree raw_assign.BitAnd = update_agree of_numbers ops.BitAnd
to_place_agree raw_assign.BitXor = update_agree of_numbers ops.BitXor
to_place_agree raw_assign.BitOr = update_agree of_numbers ops.BitOr

named_agree : (op : AssignOp) (at : Span) (o p : Option (ValueType × Place)) (x y : Expression)
    → option_map bare_named o ≡ option_map bare_named p → Twins x y
    → Agree Twins (assignment_row op at o x) (assignment_row op at p y)
named_agree op at None None x y e h = (refl, refl)
named_agree op at None (Some b) x y e h = grind arith
named_agree op at (Some a) None x y e h = grind arith
named_agree op at (Some a) (Some b) x y e h =
    subst (λ t. Agree Twins (to_place_row op at a.0 a.1 x) (to_place_row op at t b.1 y))
    (ap (λ o. (unwrap_or o (bare_named a)).0) e)
    (to_place_agree op at a.0 a.1 b.1 x y (ap (λ o. (unwrap_or o (bare_named a)).1) e) h)

pub assignment_agree : (op : AssignOp) (at : Span) (a b c d : Expression) → Twins a c → Twins b d
    → Agree Twins (assignment_row op at (place_named a) b) (assignment_row op at (place_named c) d)
assignment_agree op at a b c d h k = named_agree op at (place_named a) (place_named c) b d (twin_place a c h) k

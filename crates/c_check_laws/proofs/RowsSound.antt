-- The rows of typing give well typed trees.
use Rattle.std.proofs.Common.{arith, ◌≡◌, refl, sym, ap, Bool, true, false, List, [], ◌∷◌}
use Rattle.std.specs.Prelude.{Option, Some, None, IfSome, if◌then◌else◌, option_map}
use Rattle.std.specs.Prelude.{◌||◌}
use Rattle.pcc_base.specs.declared.span.Span.{Span}
use Rattle.c_syntax.specs.declared.operator.BinaryOp as raw
use Rattle.c_syntax.specs.declared.operator.BinaryOp.TheVariants as raw_binary
use Rattle.c_syntax.specs.declared.operator.UnaryOp as raw_one
use Rattle.c_syntax.specs.declared.operator.UnaryOp.TheVariants as raw_unary
use Rattle.c_syntax.specs.declared.operator.AssignOp.{AssignOp}
use Rattle.c_syntax.specs.declared.operator.AssignOp.TheVariants as raw_assign
use Rattle.c_tree.specs.declared.expression.BinaryOp.{BinaryOp}
use Rattle.c_tree.specs.declared.expression.BinaryOp.TheVariants as ops
use Rattle.c_tree.specs.declared.expression.StepOp.{StepOp}
use Rattle.c_tree.specs.declared.expression.UnaryOp.{UnaryOp}
use Rattle.c_tree.specs.declared.expression.UnaryOp.TheVariants as ones
use Rattle.c_tree.specs.declared.types.IntegerType.{IntegerType}
use Rattle.c_tree.specs.declared.types.IntegerType.TheVariants.{Char, Short, Int, UnsignedInt}
use Rattle.c_tree.specs.declared.types.ValueType.{ValueType}
use Rattle.c_tree.specs.declared.types.ValueType.TheVariants.{Void, Integer, Pointer}
use Rattle.c_tree.specs.Operators.{common, promoted, numbers_type, numbers_result, unary_type}
use Rattle.c_tree.specs.Program as tree
use Rattle.c_tree.specs.Program.{int, value_type, Expression, Constant, Start, Read, Address, Unary, Binary, And, Or}
use Rattle.c_tree.specs.Program.{Conditional, Cast, Assign, Update, Step, Comma, Call, Putchar, Getchar, Exit, Place}
use Rattle.c_tree.specs.Program.{LocalPlace, StaticPlace, Target, Element}
use Rattle.c_tree.specs.WellTyped.{IsInteger, IsScalar, CanAssign, CanCast, UnaryGives, PointerNumberGives}
use Rattle.c_tree.specs.WellTyped.{NumberPointerGives, TakesPointers, BinaryGives, ConditionalGives, IsAssignmentOp}
use Rattle.c_tree.specs.WellTyped.{CanUpdate, IsTyped, IsPlace, IsAssigned, IsCondition}
use Rattle.c_typing.specs.Types.{same_integer}
use Rattle.c_typing.specs.Checked.{fits}
use Rattle.c_typing.specs.Constants.{is_null}
use Rattle.c_typing.specs.Rows.{misfit, row_at, of_numbers, of_shift, if_same, of_sum, of_difference, of_order}
use Rattle.c_typing.specs.Rows.{of_equality, of_choice, is_scalar, can_assign, assigned, tested, selected, on_number}
use Rattle.c_typing.specs.Rows.{dereferenced, address_of_place, place_named, address_row, unary_row, step_row, can_cast}
use Rattle.c_typing.specs.Rows.{cast_row, types_of, operated, compared, of_conditions, joined, binary_row, element_of}
use Rattle.c_typing.specs.Rows.{index_row, conditional_row, assign_row, updated, update_row, to_place_row}
use Rattle.c_typing.specs.Rows.{assignment_row}
use Rattle.c_check_laws.proofs.Setting.{Setting, Sound, sound_fits}

-- ---- types

pub same_integer_is : (t u : IntegerType) → same_integer t u ≡ true → u ≡ t
same_integer_is Char Char h = refl
same_integer_is Char Short h = grind arith
same_integer_is Char Int h = grind arith
same_integer_is Char UnsignedInt h = grind arith
same_integer_is Short Char h = grind arith
same_integer_is Short Short h = refl
same_integer_is Short Int h = grind arith
same_integer_is Short UnsignedInt h = grind arith
same_integer_is Int Char h = grind arith
same_integer_is Int Short h = grind arith
same_integer_is Int Int h = refl
same_integer_is Int UnsignedInt h = grind arith
same_integer_is UnsignedInt Char h = grind arith
same_integer_is UnsignedInt Short h = grind arith
same_integer_is UnsignedInt Int h = grind arith
same_integer_is UnsignedInt UnsignedInt h = refl

pub not_true : {P : Type 0} → false ≡ true → P
not_true {P} e = grind arith

pub either_false : (a b : Bool) → (a || b) ≡ false → (a ≡ false) × (b ≡ false)
either_false true b h = grind arith
either_false false b h = (refl, h)

if_some_if : (b : Bool) (of : ValueType) (P : ValueType → Type 0) → (b ≡ true → P of)
    → IfSome (if b then Some of else None) P
if_some_if true of P h = h refl
if_some_if false of P h = tt

if_same_gives : (t u : IntegerType) (of : ValueType) (P : ValueType → Type 0) → (u ≡ t → P of)
    → IfSome (if_same t u of) P
if_same_gives t u of P h = if_some_if (same_integer t u) of P (λ e. h (same_integer_is t u e))

pub if_some_on : {A : Type 0} (P Q : A → Type 0) (o : Option A) → IfSome o P → ((a : A) → P a → Q a) → IfSome o Q
if_some_on P Q None h f = tt
if_some_on P Q (Some a) h f = f a h

if_some_map : {A B : Type 0} (f : A → B) (P : A → Type 0) (Q : B → Type 0) (o : Option A) → IfSome o P
    → ((a : A) → P a → Q (f a)) → IfSome (option_map f o) Q
if_some_map f P Q None h g = tt
if_some_map f P Q (Some a) h g = g a h

-- what holds of two numbers and of their common type holds of what the row gives
on_numbers : (P : ValueType → ValueType → ValueType → Type 0)
    → ((t u : IntegerType) → P (Integer t) (Integer u) (Integer (common t u)))
    → (t u : ValueType) → IfSome (of_numbers t u) (P t u)
on_numbers P h Void Void = tt
on_numbers P h Void (Integer u) = tt
on_numbers P h Void (Pointer u) = tt
on_numbers P h (Integer t) Void = tt
on_numbers P h (Integer t) (Integer u) = h t u
on_numbers P h (Integer t) (Pointer u) = tt
on_numbers P h (Pointer t) Void = tt
on_numbers P h (Pointer t) (Integer u) = tt
on_numbers P h (Pointer t) (Pointer u) = tt

on_shift : (P : ValueType → ValueType → ValueType → Type 0)
    → ((t u : IntegerType) → P (Integer t) (Integer u) (Integer (promoted t)))
    → (t u : ValueType) → IfSome (of_shift t u) (P t u)
on_shift P h Void Void = tt
on_shift P h Void (Integer u) = tt
on_shift P h Void (Pointer u) = tt
on_shift P h (Integer t) Void = tt
on_shift P h (Integer t) (Integer u) = h t u
on_shift P h (Integer t) (Pointer u) = tt
on_shift P h (Pointer t) Void = tt
on_shift P h (Pointer t) (Integer u) = tt
on_shift P h (Pointer t) (Pointer u) = tt

-- an operator that works in the common type of two numbers, and gives a number of it
abbrev InCommon : BinaryOp → Type 0
InCommon op = (t u : IntegerType) → common t u ≡ numbers_result op (numbers_type op t u)

numbers_give : (op : BinaryOp) → InCommon op → (t u : ValueType) → IfSome (of_numbers t u) (BinaryGives op t u)
numbers_give op is = on_numbers (BinaryGives op) (λ t u. ap Integer (is t u))

-- an operator that works in the promoted type of its left operand, and gives a number of it
abbrev InPromoted : BinaryOp → Type 0
InPromoted op = (t u : IntegerType) → promoted t ≡ numbers_result op (numbers_type op t u)

shift_gives : (op : BinaryOp) → InPromoted op → (t u : ValueType) → IfSome (of_shift t u) (BinaryGives op t u)
shift_gives op is = on_shift (BinaryGives op) (λ t u. ap Integer (is t u))

pub sum_gives : (t u : ValueType) → IfSome (of_sum t u) (BinaryGives ops.Add t u)
sum_gives Void Void = tt
sum_gives Void (Integer u) = tt
sum_gives Void (Pointer u) = tt
sum_gives (Integer t) Void = tt
sum_gives (Integer t) (Integer u) = refl
sum_gives (Integer t) (Pointer u) = refl
sum_gives (Pointer t) Void = tt
sum_gives (Pointer t) (Integer u) = refl
sum_gives (Pointer t) (Pointer u) = tt

difference_gives : (t u : ValueType) → IfSome (of_difference t u) (BinaryGives ops.Subtract t u)
difference_gives Void Void = tt
difference_gives Void (Integer u) = tt
difference_gives Void (Pointer u) = tt
difference_gives (Integer t) Void = tt
difference_gives (Integer t) (Integer u) = refl
difference_gives (Integer t) (Pointer u) = tt
difference_gives (Pointer t) Void = tt
difference_gives (Pointer t) (Integer u) = refl
difference_gives (Pointer t) (Pointer u) =
    if_same_gives t u int (BinaryGives ops.Subtract (Pointer t) (Pointer u)) (λ e. (e, tt, refl))

-- an operator that compares gives an `int`
abbrev Compares : BinaryOp → Type 0
Compares op = (within : IntegerType) → numbers_result op within ≡ Int

order_gives : (op : BinaryOp) → TakesPointers op → Compares op → (t u : ValueType)
    → IfSome (of_order t u) (BinaryGives op t u)
order_gives op takes is Void Void = tt
order_gives op takes is Void (Integer u) = tt
order_gives op takes is Void (Pointer u) = tt
order_gives op takes is (Integer t) Void = tt
order_gives op takes is (Integer t) (Integer u) = ap Integer (sym (is (numbers_type op t u)))
order_gives op takes is (Integer t) (Pointer u) = tt
order_gives op takes is (Pointer t) Void = tt
order_gives op takes is (Pointer t) (Integer u) = tt
order_gives op takes is (Pointer t) (Pointer u) =
    if_same_gives t u int (BinaryGives op (Pointer t) (Pointer u)) (λ e. (e, takes, refl))

-- an operator that compares a pointer with null
abbrev ComparesNull : BinaryOp → Type 0
ComparesNull op = ((t : IntegerType) → PointerNumberGives op t int) × ((t : IntegerType) → NumberPointerGives op t int)

equality_gives : (op : BinaryOp) → TakesPointers op → Compares op → ComparesNull op → (t : ValueType) (n : Bool)
    (u : ValueType) (m : Bool) → IfSome (of_equality t n u m) (BinaryGives op t u)
equality_gives op takes is null Void n Void m = tt
equality_gives op takes is null Void n (Integer u) m = tt
equality_gives op takes is null Void n (Pointer u) m = tt
equality_gives op takes is null (Integer t) true Void m = tt
equality_gives op takes is null (Integer t) false Void m = tt
equality_gives op takes is null (Integer t) n (Integer u) m =
    ap Integer (sym (is (numbers_type op t u)))
equality_gives op takes is null (Integer t) true (Pointer u) m = null.1 u
equality_gives op takes is null (Integer t) false (Pointer u) m = tt
equality_gives op takes is null (Pointer t) n Void m = tt
equality_gives op takes is null (Pointer t) n (Integer u) true = null.0 t
equality_gives op takes is null (Pointer t) n (Integer u) false = tt
equality_gives op takes is null (Pointer t) n (Pointer u) m =
    if_some_map (λ of. int) (λ of. u ≡ t) (BinaryGives op (Pointer t) (Pointer u)) (if_same t u (Pointer t))
    (if_same_gives t u (Pointer t) (λ of. u ≡ t) (λ e. e)) (λ of e. (e, takes, refl))

choice_gives : (t : ValueType) (n : Bool) (u : ValueType) (m : Bool) → IfSome (of_choice t n u m) (ConditionalGives t u)
choice_gives Void n Void m = refl
choice_gives Void n (Integer u) m = tt
choice_gives Void n (Pointer u) m = tt
choice_gives (Integer t) true Void m = tt
choice_gives (Integer t) false Void m = tt
choice_gives (Integer t) n (Integer u) m = refl
choice_gives (Integer t) true (Pointer u) m = refl
choice_gives (Integer t) false (Pointer u) m = tt
choice_gives (Pointer t) n Void m = tt
choice_gives (Pointer t) n (Integer u) true = refl
choice_gives (Pointer t) n (Integer u) false = tt
choice_gives (Pointer t) n (Pointer u) m =
    if_same_gives t u (Pointer t) (ConditionalGives (Pointer t) (Pointer u)) (λ e. (e, refl))

pub scalar_is : (t : ValueType) → is_scalar t ≡ true → IsScalar t
scalar_is Void h = not_true h
scalar_is (Integer t) h = tt
scalar_is (Pointer t) h = tt

conditions_give : (t u : ValueType) → IfSome (of_conditions t u) (λ of. IsScalar t × IsScalar u)
conditions_give Void u = tt
conditions_give (Integer t) Void = tt
conditions_give (Integer t) (Integer u) = (tt, tt)
conditions_give (Integer t) (Pointer u) = (tt, tt)
conditions_give (Pointer t) Void = tt
conditions_give (Pointer t) (Integer u) = (tt, tt)
conditions_give (Pointer t) (Pointer u) = (tt, tt)

pub assign_is : (t u : ValueType) (n : Bool) → can_assign t u n ≡ true → CanAssign t u
assign_is Void Void n h = not_true h
assign_is Void (Integer u) n h = not_true h
assign_is Void (Pointer u) n h = not_true h
assign_is (Integer t) Void n h = not_true h
assign_is (Integer t) (Integer u) n h = tt
assign_is (Integer t) (Pointer u) n h = not_true h
assign_is (Pointer t) Void n h = not_true h
assign_is (Pointer t) (Integer u) n h = tt
assign_is (Pointer t) (Pointer u) n h = same_integer_is t u h

cast_is : (t u : ValueType) (n : Bool) → can_cast t u n ≡ true → CanCast t u
cast_is Void u n h = tt
cast_is (Integer t) u n h = assign_is (Integer t) u n h
cast_is (Pointer t) u n h = assign_is (Pointer t) u n h

-- what an operator of an assignment needs of the types
abbrev Updates : (ValueType → ValueType → Option ValueType) → BinaryOp → Type 0
Updates row op = (t u : ValueType) → IfSome (row t u) (λ of. can_assign t of false ≡ true → CanUpdate op t u)

numbers_update : (op : BinaryOp) → IsAssignmentOp op → Updates of_numbers op
numbers_update op is = on_numbers (λ t u of. can_assign t of false ≡ true → CanUpdate op t u) (λ t u e. is)

shift_updates : (op : BinaryOp) → IsAssignmentOp op → Updates of_shift op
shift_updates op is = on_shift (λ t u of. can_assign t of false ≡ true → CanUpdate op t u) (λ t u e. is)

sum_updates : Updates of_sum ops.Add
sum_updates Void Void = tt
sum_updates Void (Integer u) = tt
sum_updates Void (Pointer u) = tt
sum_updates (Integer t) Void = tt
sum_updates (Integer t) (Integer u) = λ e. tt
sum_updates (Integer t) (Pointer u) = λ e. not_true e
sum_updates (Pointer t) Void = tt
sum_updates (Pointer t) (Integer u) = λ e. tt
sum_updates (Pointer t) (Pointer u) = tt

difference_updates : Updates of_difference ops.Subtract
difference_updates Void Void = tt
difference_updates Void (Integer u) = tt
difference_updates Void (Pointer u) = tt
difference_updates (Integer t) Void = tt
difference_updates (Integer t) (Integer u) = λ e. tt
difference_updates (Integer t) (Pointer u) = tt
difference_updates (Pointer t) Void = tt
difference_updates (Pointer t) (Integer u) = λ e. tt
difference_updates (Pointer t) (Pointer u) =
    if_same_gives t u int (λ of. can_assign (Pointer t) of false ≡ true → ⊥)
    (λ e z. not_true z)

-- an operator that gives a number of the promoted type
abbrev Promotes : UnaryOp → Type 0
Promotes op = (t : IntegerType) → promoted t ≡ unary_type op t

-- ---- rows, in a function of a program

module _ (w : Setting) (f : tree.Function) where
  abbrev pub Good : Expression → Type 0
  Good e = IsTyped w.program f e

  -- a row that fits where a test holds
  pub sound_choice : (X : Type 0) (P : Expression → Type 0) (at : Span) (b : Bool) (ts : List ValueType) (e :
      Expression)
      → (X → b ≡ true → P e) → Sound w X P (if b then fits e else misfit at ts)
  sound_choice X P at true ts e h = sound_fits w X P e (λ x. h x refl)
  sound_choice X P at false ts e h = tt

  -- a row that gives the type of a result
  sound_row : (X : Type 0) (at : Span) (ts : List ValueType) (o : Option ValueType) (make : ValueType → Expression)
      → IfSome o (λ of. X → Good (make of)) → Sound w X Good (row_at at ts o make)
  sound_row X at ts None make h = tt
  sound_row X at ts (Some of) make h = sound_fits w X Good (make of) h

  pub assigned_sound : (X : Type 0) (to : ValueType) (at : Span) (e : Expression) → (X → Good e)
      → Sound w X (IsAssigned w.program f to) (assigned to at e)
  assigned_sound X to at e h =
      sound_choice X (IsAssigned w.program f to) at (can_assign to (value_type e) (is_null e)) (to ∷ value_type e ∷
      []) e
      (λ x b. (h x, assign_is to (value_type e) (is_null e) b))

  pub tested_sound : (X : Type 0) (at : Span) (e : Expression) → (X → Good e)
      → Sound w X (IsCondition w.program f) (tested at e)
  tested_sound X at e h =
      sound_choice X (IsCondition w.program f) at (is_scalar (value_type e)) (value_type e ∷ []) e
      (λ x b. (h x, scalar_is (value_type e) b))

  abbrev pub IsSelected : Expression → Type 0
  IsSelected e = Good e × IsInteger (value_type e)

  selected_by : (X : Type 0) (t : ValueType) (at : Span) (e : Expression) → (X → IsInteger t → IsSelected e)
      → Sound w X IsSelected (selected t at e)
  selected_by X Void at e h = tt
  selected_by X (Integer t) at e h = sound_fits w X IsSelected e (λ x. h x tt)
  selected_by X (Pointer t) at e h = tt

  pub selected_sound : (X : Type 0) (at : Span) (e : Expression) → (X → Good e)
      → Sound w X IsSelected (selected (value_type e) at e)
  selected_sound X at e h = selected_by X (value_type e) at e (λ x i. (h x, i))

  number_by : (X : Type 0) (op : UnaryOp) → Promotes op → (at : Span) (t : ValueType) (e : Expression)
      → (X → (of : IntegerType) → UnaryGives op t of → Good (Unary of op e)) → Sound w X Good (on_number op at t e)
  number_by X op is at Void e h = tt
  number_by X op is at (Integer t) e h =
      sound_fits w X Good (Unary (promoted t) op e) (λ x. h x (promoted t) (is t))
  number_by X op is at (Pointer t) e h = tt

  number_sound : (X : Type 0) (op : UnaryOp) → Promotes op → (at : Span) (e : Expression) → (X → Good e)
      → Sound w X Good (on_number op at (value_type e) e)
  number_sound X op is at e h = number_by X op is at (value_type e) e (λ x of u. (h x, u))

  target_by : (X : Type 0) (at : Span) (t : ValueType) (e : Expression) → (X → Good e) → value_type e ≡ t
      → Sound w X Good (dereferenced at t e)
  target_by X at Void e h k = tt
  target_by X at (Integer t) e h k = tt
  target_by X at (Pointer t) e h k =
      sound_fits w X Good (Read (Integer t) (Target t e)) (λ x. (h x, k, refl))

  -- where X holds, an expression names such a place
  abbrev pub Names : Type 0 → Option (ValueType × Place) → Type 0
  Names X o = IfSome o (λ q. X → IsPlace w.program f q.1 q.0)

  pub names_where : (X : Type 0) (e : Expression) → (X → Good e) → Names X (place_named e)
  names_where X (Constant of n) h = tt
  names_where X (Start element array) h = tt
  names_where X (Read of place) h = h
  names_where X (Address element place) h = tt
  names_where X (Unary of op e) h = tt
  names_where X (Binary of op a b) h = tt
  names_where X (And a b) h = tt
  names_where X (Or a b) h = tt
  names_where X (Conditional of t a b) h = tt
  names_where X (Cast to e) h = tt
  names_where X (Assign of place e) h = tt
  names_where X (Update of op place e) h = tt
  names_where X (Step of op place) h = tt
  names_where X (Comma a b) h = tt
  names_where X (Call of k arguments) h = tt
  names_where X (Putchar e) h = tt
  names_where X Getchar h = tt
  names_where X (Exit e) h = tt

  address_by : (X : Type 0) (at : Span) (of : ValueType) (place : Place) → (X → IsPlace w.program f place of)
      → Sound w X Good (address_of_place at place)
  address_by X at of (LocalPlace v) h = tt
  address_by X at of (StaticPlace k) h = tt
  address_by X at of (Target element e) h =
      sound_fits w X Good (Address element (Target element e)) (λ x. let p = h x in (tt, (p.0, p.1, refl)))
  address_by X at of (Element element a i) h =
      sound_fits w X Good (Address element (Element element a i)) (λ x. let p = h x in (tt, (p.0, p.1, p.2, refl)))

  address_sound : (X : Type 0) (at : Span) (o : Option (ValueType × Place)) → Names X o
      → Sound w X Good (address_row at o)
  address_sound X at None h = tt
  address_sound X at (Some q) h = address_by X at q.0 q.1 h

  pub step_sound : (X : Type 0) (op : StepOp) (at : Span) (o : Option (ValueType × Place)) → Names X o
      → Sound w X Good (step_row op at o)
  step_sound X op at None h = tt
  step_sound X op at (Some q) h = sound_fits w X Good (Step q.0 op q.1) h

  not_gives : (t : ValueType) → is_scalar t ≡ true → UnaryGives ones.Not t Int
  not_gives Void h = not_true h
  not_gives (Integer t) h = refl
  not_gives (Pointer t) h = (refl, refl)

  pub unary_sound : (X : Type 0) (op : raw_one.UnaryOp) (at : Span) (e : Expression) → (X → Good e)
      → Sound w X Good (unary_row op at e)
  unary_sound X raw_unary.AddressOf at e h = address_sound X at (place_named e) (names_where X e h)
  unary_sound X raw_unary.Dereference at e h = target_by X at (value_type e) e h refl
  unary_sound X raw_unary.Plus at e h = number_sound X ones.Plus (λ t. refl) at e h
  unary_sound X raw_unary.Minus at e h = number_sound X ones.Minus (λ t. refl) at e h
  unary_sound X raw_unary.Complement at e h = number_sound X ones.Complement (λ t. refl) at e h
  unary_sound X raw_unary.Not at e h =
      sound_choice X Good at (is_scalar (value_type e)) (value_type e ∷ []) (Unary Int ones.Not e)
      (λ x b. (h x, not_gives (value_type e) b))

  pub cast_sound : (X : Type 0) (at : Span) (to : ValueType) (e : Expression) → (X → Good e)
      → Sound w X Good (cast_row at to e)
  cast_sound X at to e h =
      sound_choice X Good at (can_cast to (value_type e) (is_null e)) (to ∷ value_type e ∷ []) (Cast to e)
      (λ x b. (h x, cast_is to (value_type e) (is_null e) b))

  -- ---- two operands

  operated_sound : (X : Type 0) (row : ValueType → ValueType → Option ValueType) (op : BinaryOp)
      → ((t u : ValueType) → IfSome (row t u) (BinaryGives op t u)) → (at : Span) (a b : Expression) → (X → Good a)
      → (X → Good b) → Sound w X Good (operated row op at a b)
  operated_sound X row op gives at a b h k =
      sound_row X at (types_of a b) (row (value_type a) (value_type b)) (λ of. Binary of op a b)
      (if_some_on (BinaryGives op (value_type a) (value_type b)) (λ of. X → Good (Binary of op a b))
      (row (value_type a) (value_type b)) (gives (value_type a) (value_type b)) (λ of g x. (h x, k x, g)))

  compared_sound : (X : Type 0) (op : BinaryOp) → TakesPointers op → Compares op → ComparesNull op → (at : Span)
      (a b : Expression) → (X → Good a) → (X → Good b) → Sound w X Good (compared op at a b)
  compared_sound X op takes is null at a b h k =
      let o = of_equality (value_type a) (is_null a) (value_type b) (is_null b) in
      sound_row X at (types_of a b) o (λ of. Binary of op a b)
      (if_some_on (BinaryGives op (value_type a) (value_type b)) (λ of. X → Good (Binary of op a b)) o
      (equality_gives op takes is null (value_type a) (is_null a) (value_type b) (is_null b)) (λ of g x. (h x, k x, g)))

  joined_sound : (X : Type 0) (make : Expression → Expression → Expression) (at : Span) (a b : Expression)
      → (X → IsScalar (value_type a) × IsScalar (value_type b) → Good (make a b)) → Sound w X Good (joined make at a b)
  joined_sound X make at a b h =
      sound_row X at (types_of a b) (of_conditions (value_type a) (value_type b)) (λ of. make a b)
      (if_some_on (λ of. IsScalar (value_type a) × IsScalar (value_type b)) (λ of. X → Good (make a b))
      (of_conditions (value_type a) (value_type b)) (conditions_give (value_type a) (value_type b)) (λ of g x. h x g))

  pub binary_sound : (X : Type 0) (op : raw.BinaryOp) (at : Span) (a b : Expression) → (X → Good a) → (X → Good b)
      → Sound w X Good (binary_row op at a b)
  binary_sound X raw_binary.Multiply =
      operated_sound X of_numbers ops.Multiply (numbers_give ops.Multiply (λ t u. refl))
  binary_sound X raw_binary.Divide = operated_sound X of_numbers ops.Divide (numbers_give ops.Divide (λ t u. refl))
  binary_sound X raw_binary.Remainder =
      operated_sound X of_numbers ops.Remainder (numbers_give ops.Remainder (λ t u. refl))
  binary_sound X raw_binary.Add = operated_sound X of_sum ops.Add sum_gives
  binary_sound X raw_binary.Subtract = operated_sound X of_difference ops.Subtract difference_gives
  binary_sound X raw_binary.ShiftLeft =
      operated_sound X of_shift ops.ShiftLeft (shift_gives ops.ShiftLeft (λ t u. refl))
  binary_sound X raw_binary.ShiftRight =
      operated_sound X of_shift ops.ShiftRight (shift_gives ops.ShiftRight (λ t u. refl))
  binary_sound X raw_binary.Less = operated_sound X of_order ops.Less (order_gives ops.Less tt (λ within. refl))
  binary_sound X raw_binary.Greater =
      operated_sound X of_order ops.Greater (order_gives ops.Greater tt (λ within. refl))
  binary_sound X raw_binary.LessEqual =
      operated_sound X of_order ops.LessOrEqual (order_gives ops.LessOrEqual tt (λ within. refl))
  binary_sound X raw_binary.GreaterEqual =
      operated_sound X of_order ops.GreaterOrEqual (order_gives ops.GreaterOrEqual tt (λ within. refl))
  binary_sound X raw_binary.Equal = compared_sound X ops.Equal tt (λ within. refl) ((λ t. refl), (λ t. refl))
  binary_sound X raw_binary.NotEqual = compared_sound X ops.NotEqual tt (λ within. refl) ((λ t. refl), (λ t. refl))
  binary_sound X raw_binary.BitAnd = operated_sound X of_numbers ops.BitAnd (numbers_give ops.BitAnd (λ t u. refl))
  binary_sound X raw_binary.BitXor = operated_sound X of_numbers ops.BitXor (numbers_give ops.BitXor (λ t u. refl))
  binary_sound X raw_binary.BitOr = operated_sound X of_numbers ops.BitOr (numbers_give ops.BitOr (λ t u. refl))
  binary_sound X raw_binary.LogicalAnd = λ at a b h k. joined_sound X And at a b (λ x g. (h x, g.0, k x, g.1))
  binary_sound X raw_binary.LogicalOr = λ at a b h k. joined_sound X Or at a b (λ x g. (h x, g.0, k x, g.1))
  binary_sound X raw_binary.Comma = λ at a b h k. sound_fits w X Good (Comma a b) (λ x. (h x, k x))

  element_by : (X : Type 0) (at : Span) (o : Option ValueType) (a i : Expression) → (X → Good a) → (X → Good i)
      → IfSome o (BinaryGives ops.Add (value_type a) (value_type i)) → Sound w X Good (element_of at o a i)
  element_by X at None a i h k g = tt
  element_by X at (Some Void) a i h k g = tt
  element_by X at (Some (Integer t)) a i h k g = tt
  element_by X at (Some (Pointer t)) a i h k g =
      sound_fits w X Good (Read (Integer t) (Element t a i)) (λ x. (h x, k x, g, refl))

  pub index_sound : (X : Type 0) (at : Span) (a i : Expression) → (X → Good a) → (X → Good i)
      → Sound w X Good (index_row at a i)
  index_sound X at a i h k =
      element_by X at (of_sum (value_type a) (value_type i)) a i h k (sum_gives (value_type a) (value_type i))

  conditional_by : (t : ValueType) (o : Option ValueType) (P : ValueType → Type 0) → IfSome o P
      → IfSome (if is_scalar t then o else None) (λ of. IsScalar t × P of)
  conditional_by Void o P h = tt
  conditional_by (Integer t) None P h = tt
  conditional_by (Integer t) (Some of) P h = (tt, h)
  conditional_by (Pointer t) None P h = tt
  conditional_by (Pointer t) (Some of) P h = (tt, h)

  pub conditional_sound : (X : Type 0) (at : Span) (t a b : Expression) → (X → Good t) → (X → Good a) → (X → Good b)
      → Sound w X Good (conditional_row at t a b)
  conditional_sound X at t a b g h k =
      let o = of_choice (value_type a) (is_null a) (value_type b) (is_null b) in
      let q = if is_scalar (value_type t) then o else None in
      let P = ConditionalGives (value_type a) (value_type b) in
      sound_row X at (value_type t ∷ types_of a b) q (λ of. Conditional of t a b)
      (if_some_on (λ of. IsScalar (value_type t) × P of) (λ of. X → Good (Conditional of t a b)) q
      (conditional_by (value_type t) o P (choice_gives (value_type a) (is_null a) (value_type b) (is_null b)))
      (λ of c x. (g x, c.0, h x, k x, c.1)))

  -- ---- assignments

  assign_sound : (X : Type 0) (at : Span) (of : ValueType) (place : Place) (e : Expression)
      → (X → IsPlace w.program f place of) → (X → Good e) → Sound w X Good (assign_row at of place e)
  assign_sound X at of place e h k =
      sound_choice X Good at (can_assign of (value_type e) (is_null e)) (of ∷ value_type e ∷ []) (Assign of place e)
      (λ x b. (h x, k x, assign_is of (value_type e) (is_null e) b))

  updated_by : (X : Type 0) (op : BinaryOp) (at : Span) (of : ValueType) (place : Place) (e : Expression)
      (o : Option ValueType) → (X → IsPlace w.program f place of) → (X → Good e)
      → IfSome o (λ r. can_assign of r false ≡ true → CanUpdate op of (value_type e))
      → Sound w X Good (updated op at of place e o)
  updated_by X op at of place e None h k g = tt
  updated_by X op at of place e (Some r) h k g =
      sound_choice X Good at (can_assign of r false) (of ∷ value_type e ∷ []) (Update of op place e)
      (λ x b. (h x, k x, g b))

  update_sound : (X : Type 0) (row : ValueType → ValueType → Option ValueType) (op : BinaryOp) → Updates row op
      → (at : Span) (of : ValueType) (place : Place) (e : Expression) → (X → IsPlace w.program f place of)
      → (X → Good e) → Sound w X Good (update_row row op at of place e)
  update_sound X row op gives at of place e h k =
      updated_by X op at of place e (row of (value_type e)) h k (gives of (value_type e))

  to_place_sound : (X : Type 0) (op : AssignOp) (at : Span) (of : ValueType) (place : Place) (e : Expression)
      → (X → IsPlace w.program f place of) → (X → Good e) → Sound w X Good (to_place_row op at of place e)
  to_place_sound X raw_assign.Assign = assign_sound X
  to_place_sound X raw_assign.Multiply =
      update_sound X of_numbers ops.Multiply (numbers_update ops.Multiply tt)
  to_place_sound X raw_assign.Divide = update_sound X of_numbers ops.Divide (numbers_update ops.Divide tt)
  to_place_sound X raw_assign.Remainder = update_sound X of_numbers ops.Remainder (numbers_update ops.Remainder tt)
  to_place_sound X raw_assign.Add = update_sound X of_sum ops.Add sum_updates
  to_place_sound X raw_assign.Subtract = update_sound X of_difference ops.Subtract difference_updates
  to_place_sound X raw_assign.ShiftLeft = update_sound X of_shift ops.ShiftLeft (shift_updates ops.ShiftLeft tt)
  to_place_sound X raw_assign.ShiftRight = update_sound X of_shift ops.ShiftRight (shift_updates ops.ShiftRight tt)
  to_place_sound X raw_assign.BitAnd = update_sound X of_numbers ops.BitAnd (numbers_update ops.BitAnd tt)
  to_place_sound X raw_assign.BitXor = update_sound X of_numbers ops.BitXor (numbers_update ops.BitXor tt)
  to_place_sound X raw_assign.BitOr = update_sound X of_numbers ops.BitOr (numbers_update ops.BitOr tt)

  pub assignment_sound : (X : Type 0) (op : AssignOp) (at : Span) (o : Option (ValueType × Place)) (e : Expression)
      → Names X o → (X → Good e) → Sound w X Good (assignment_row op at o e)
  assignment_sound X op at None e h k = tt
  assignment_sound X op at (Some q) e h k = to_place_sound X op at q.0 q.1 e h k

-- The parts of a typed expression have its type.
use Rattle.std.proofs.Common.{◌≡◌, ℕ, Option, Some, None, refl, sym, ◌∙◌, subst}
use Rattle.std.specs.Prelude.{IsSomeAnd, slice_get}
use Rattle.std.proofs.lemmas.List.Elements.{recursion_from_All}
use Rattle.pcc_base.proofs.Lists.{all-at}
use Rattle.c_tree.specs.declared.expression.BinaryOp.{BinaryOp}
use Rattle.c_tree.specs.declared.expression.StepOp.{StepOp}
use Rattle.c_tree.specs.declared.expression.StepOp.TheVariants.{PreIncrement, PreDecrement, PostIncrement}
use Rattle.c_tree.specs.declared.expression.StepOp.TheVariants.{PostDecrement}
use Rattle.c_tree.specs.declared.expression.UnaryOp.{UnaryOp}
use Rattle.c_tree.specs.declared.expression.UnaryOp.TheVariants.{Plus, Minus, Complement, Not}
use Rattle.c_tree.specs.declared.types.IntegerType.{IntegerType}
use Rattle.c_tree.specs.declared.types.ValueType.{ValueType}
use Rattle.c_tree.specs.declared.types.ValueType.TheVariants.{Void, Integer, Pointer}
use Rattle.c_tree.specs.Program.{value_type, Expression, Constant, Start, Read, Address, Unary, Binary, And, Or}
use Rattle.c_tree.specs.Program.{Conditional, Cast, Assign, Update, Step, Comma, Call, Putchar, Getchar, Exit, Place}
use Rattle.c_tree.specs.Program.{LocalPlace, StaticPlace, Target, Element, Local, Function, Program}
use Rattle.c_tree.specs.WellTyped.{BinaryGives, CanAssign, CanCast, CanUpdate, ConditionalGives, IsPlace, IsScalar}
use Rattle.c_tree.specs.WellTyped.{IsTyped, IsTypedFunction, UnaryGives}
use Rattle.lower_lines.specs.Expressions.{Addressed, Located, AtLocal, AtObject, AtAddress, address_part, assign_part}
use Rattle.lower_lines.specs.Expressions.{element_of, target_of}
use Rattle.lower_lines.specs.Expressions.{part_of, place_of, read_part, step_part, stepped_name, unary_part}
use Rattle.lower_lines.specs.Expressions.{update_part}
use Rattle.lower_lines.specs.Parts.{Part}
use Rattle.lower_lines.specs.Variables.{Context}
use Rattle.lower_lines.proofs.Constructs.{Turns, assigned-type, local-type}

-- ---- what typing says of types

pub some-and : {T : Type 0} (o : Option T) (P : T → Type 0) → IsSomeAnd o P → (x : T) × (o ≡ Some x) × P x
some-and None P h = absurd h
some-and (Some x) P h = (x, refl, h)

pub unary-scalar : (operator : UnaryOp) (s : ValueType) (of : IntegerType) → UnaryGives operator s of → IsScalar s
unary-scalar operator Void of h = absurd h
unary-scalar operator (Integer t) of h = tt
unary-scalar operator (Pointer t) of h = tt

pub binary-scalars : (operator : BinaryOp) (s t of : ValueType) → BinaryGives operator s t of → IsScalar s × IsScalar t
binary-scalars operator (Integer s) (Integer t) of h = (tt, tt)
binary-scalars operator (Pointer s) (Integer t) of h = (tt, tt)
binary-scalars operator (Integer s) (Pointer t) of h = (tt, tt)
binary-scalars operator (Pointer s) (Pointer t) of h = (tt, tt)
binary-scalars operator Void t of h = absurd h
binary-scalars operator (Integer s) Void of h = absurd h
binary-scalars operator (Pointer s) Void of h = absurd h

pub conditional-turns : (s t of : ValueType) → ConditionalGives s t of → Turns of s × Turns of t
conditional-turns Void Void of h = subst (λ (o : ValueType). Turns o Void × Turns o Void) (sym h) (tt, tt)
conditional-turns (Integer s) (Integer t) of h =
    subst (λ (o : ValueType). Turns o (Integer s) × Turns o (Integer t)) (sym h) (tt, tt)
conditional-turns (Pointer s) (Pointer t) of h =
    subst (λ (o : ValueType). Turns o (Pointer s) × Turns o (Pointer t)) (sym h.1) (tt, tt)
conditional-turns (Pointer s) (Integer t) of h =
    subst (λ (o : ValueType). Turns o (Pointer s) × Turns o (Integer t)) (sym h) (tt, tt)
conditional-turns (Integer s) (Pointer t) of h =
    subst (λ (o : ValueType). Turns o (Integer s) × Turns o (Pointer t)) (sym h) (tt, tt)
conditional-turns Void (Integer t) of h = absurd h
conditional-turns Void (Pointer t) of h = absurd h
conditional-turns (Integer s) Void of h = absurd h
conditional-turns (Pointer s) Void of h = absurd h

pub cast-turns : (to from : ValueType) → CanCast to from → Turns to from
cast-turns Void from h = tt
cast-turns (Pointer t) from h = tt
cast-turns (Integer t) Void h = absurd h
cast-turns (Integer t) (Integer u) h = tt
cast-turns (Integer t) (Pointer u) h = absurd h

pub assign-turns : (to from : ValueType) → CanAssign to from → Turns to from
assign-turns Void from h = tt
assign-turns (Pointer t) from h = tt
assign-turns (Integer t) Void h = absurd h
assign-turns (Integer t) (Integer u) h = tt
assign-turns (Integer t) (Pointer u) h = absurd h

pub update-scalars : (operator : BinaryOp) (of s : ValueType) → CanUpdate operator of s → IsScalar of × IsScalar s
update-scalars operator (Integer t) (Integer u) h = (tt, tt)
update-scalars operator (Pointer t) (Integer u) h = (tt, tt)
update-scalars operator Void s h = absurd h
update-scalars operator (Integer t) Void h = absurd h
update-scalars operator (Pointer t) Void h = absurd h
update-scalars operator (Integer t) (Pointer u) h = absurd h
update-scalars operator (Pointer t) (Pointer u) h = absurd h

-- ---- the type of a part

read-address : (c : Context) (of : ValueType) (t : IntegerType) (a : Addressed)
    → (read_part c of (AtAddress t a)).of ≡ Integer t
read-address c Void t a = refl
read-address c (Integer u) t a = refl
read-address c (Pointer u) t a = refl

assign-address : (c : Context) (of : ValueType) (t : IntegerType) (to : Addressed) (a : Part)
    → (assign_part c of (AtAddress t to) a).of ≡ Integer t
assign-address c Void t to a = refl
assign-address c (Integer u) t to a = refl
assign-address c (Pointer u) t to a = refl

stepped-type : (c : Context) (operator : StepOp) (of : ValueType) (name update : Part)
    → (stepped_name c operator of name update).of ≡ of
stepped-type c PreIncrement of name update = refl
stepped-type c PreDecrement of name update = refl
stepped-type c PostIncrement of name update = refl
stepped-type c PostDecrement of name update = refl

-- a static object that is no array has an integer type
static-integer : (p : Program) (f : Function) (k : ℕ) (of : ValueType) → IsPlace p f (StaticPlace k) of
    → (t : IntegerType) × (Integer t ≡ of)
static-integer p f k of h = let (o, e, is) = some-and (slice_get p.objects k) _ h in (o.element, is.1)

module _ (p : Program) (f : Function) where
  abbrev c : Context
  c = record { program = p; function = f }

  read-type : (of : ValueType) (place : Place) → IsPlace p f place of → (read_part c of (place_of c place)).of ≡ of
  read-type of (LocalPlace v) h = local-type c of v
  read-type of (StaticPlace k) h =
      let (t, e) = static-integer p f k of h in
      subst (λ (o : ValueType). (read_part c o (AtObject k)).of ≡ o) e refl
  read-type of (Target element e) h = read-address c of element (target_of c (part_of c e)) ∙ h.2
  read-type of (Element element a i) h =
      read-address c of element (element_of c element (part_of c a).of (part_of c a) (part_of c i)) ∙ h.3

  assign-type : (of : ValueType) (place : Place) (a : Part) → IsPlace p f place of
      → (assign_part c of (place_of c place) a).of ≡ of
  assign-type of (LocalPlace v) a h = assigned-type c of v a
  assign-type of (StaticPlace k) a h =
      let (t, e) = static-integer p f k of h in
      subst (λ (o : ValueType). (assign_part c o (AtObject k) a).of ≡ o) e refl
  assign-type of (Target element e) a h = assign-address c of element (target_of c (part_of c e)) a ∙ h.2
  assign-type of (Element element x i) a h =
      assign-address c of element (element_of c element (part_of c x).of (part_of c x) (part_of c i)) a ∙ h.3

  update-type : (of : ValueType) (operator : BinaryOp) (place : Place) (a : Part) → IsPlace p f place of
      → (update_part c of operator (place_of c place) a).of ≡ of
  update-type of operator (LocalPlace v) a h = assigned-type c of v _
  update-type of operator (StaticPlace k) a h = assign-type of (StaticPlace k) _ h
  update-type of operator (Target element e) a h = h.2
  update-type of operator (Element element x i) a h = h.3

  step-type : (of : ValueType) (operator : StepOp) (place : Place) → IsPlace p f place of
      → (step_part c of operator (place_of c place)).of ≡ of
  step-type of operator (LocalPlace v) h = stepped-type c operator of _ _
  step-type of operator (StaticPlace k) h = stepped-type c operator of _ _
  step-type of operator (Target element e) h = h.2
  step-type of operator (Element element x i) h = h.3

  unary-of : (of : IntegerType) (operator : UnaryOp) (a : Part) → (unary_part c of operator a).of ≡ Integer of
  unary-of of Plus a = refl
  unary-of of Minus a = refl
  unary-of of Complement a = refl
  unary-of of Not a = refl

  address-type : (element : IntegerType) (l : Located) → (address_part c element l).of ≡ Pointer element
  address-type element (AtLocal v) = local-type c (Pointer element) v
  address-type element (AtObject k) = refl
  address-type element (AtAddress t to) = refl

  pub part-type : (e : Expression) → IsTyped p f e → (part_of c e).of ≡ value_type e
  part-type (Constant of n) h = refl
  part-type (Start element array) h = refl
  part-type (Read of place) h = read-type of place h
  part-type (Address element place) h = address-type element (place_of c place)
  part-type (Unary of operator e) h = unary-of of operator (part_of c e)
  part-type (Binary of operator a b) h = refl
  part-type (And a b) h = refl
  part-type (Or a b) h = refl
  part-type (Conditional of t a b) h = refl
  part-type (Cast to e) h = refl
  part-type (Assign of place e) h = assign-type of place (part_of c e) h.0
  part-type (Update of operator place e) h = update-type of operator place (part_of c e) h.0
  part-type (Step of operator place) h = step-type of operator place h
  part-type (Comma a b) h = part-type b h.1
  part-type (Call of k arguments) h = refl
  part-type (Putchar e) h = refl
  part-type Getchar h = refl
  part-type (Exit e) h = refl

  -- a place has a scalar type
  pub place-scalar : IsTypedFunction p f → (place : Place) (of : ValueType) → IsPlace p f place of → IsScalar of
  place-scalar typed (LocalPlace v) of h =
      let (l, at, e) = some-and (slice_get f.locals v) _ h in
      subst (λ (o : ValueType). IsScalar o) e
      (all-at (λ (l : Local). IsScalar l.of) f.locals v l
      (recursion_from_All (λ (l : Local). IsScalar l.of) f.locals typed.locals) at)
  place-scalar typed (StaticPlace k) of h =
      let (t, e) = static-integer p f k of h in subst (λ (o : ValueType). IsScalar o) e tt
  place-scalar typed (Target element e) of h = subst (λ (o : ValueType). IsScalar o) h.2 tt
  place-scalar typed (Element element a i) of h = subst (λ (o : ValueType). IsScalar o) h.3 tt

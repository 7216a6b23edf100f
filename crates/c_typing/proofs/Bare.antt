-- Trees of expressions without the numbers of objects and functions, and what they have in common with those that have
-- them.
use Rattle.std.proofs.Common.{◌≡◌, refl, sym, ap, ◌∙◌, Bool, true, false}
use Rattle.std.specs.Prelude.{None, option_map, ◌&&◌, if◌then◌else◌}
use Rattle.std.proofs.lemmas.Bool.{and_parts, false≢true}
use Rattle.c_tree.specs.declared.expression.ArrayRef.{ArrayRef}
use Rattle.c_tree.specs.declared.expression.ArrayRef.TheVariants as refs
use Rattle.c_tree.specs.declared.types.ValueType.{ValueType}
use Rattle.c_tree.specs.Program.{value_type, Expression, Constant, Start, Read, Address, Unary, Binary, And, Or}
use Rattle.c_tree.specs.Program.{Conditional, Cast, Assign, Update, Step, Comma, Call, Putchar, Getchar, Exit, Place}
use Rattle.c_tree.specs.Program.{LocalPlace, StaticPlace, Target, Element, Arguments, NoMore, Argument}
use Rattle.c_tree.specs.Evaluation.{evaluate}
use Rattle.c_typing.specs.Constants.{number_given, no_calls, no_state, has_constant_form, constant_value}
use Rattle.c_typing.specs.Constants.{is_integer_type}
use Rattle.c_typing.specs.Rows.{place_named}

abbrev pub bare_array : ArrayRef → ArrayRef
bare_array (refs.Static k) = refs.Static 0
bare_array (refs.Frame k) = refs.Frame k

abbrev mutual
  -- every object and function has number 0
  pub bare : Expression → Expression
  bare (Constant of n) = Constant of n
  bare (Start element array) = Start element (bare_array array)
  bare (Read of place) = Read of (bare_place place)
  bare (Address element place) = Address element (bare_place place)
  bare (Unary of op e) = Unary of op (bare e)
  bare (Binary of op a b) = Binary of op (bare a) (bare b)
  bare (And a b) = And (bare a) (bare b)
  bare (Or a b) = Or (bare a) (bare b)
  bare (Conditional of t a b) = Conditional of (bare t) (bare a) (bare b)
  bare (Cast to e) = Cast to (bare e)
  bare (Assign of place e) = Assign of (bare_place place) (bare e)
  bare (Update of op place e) = Update of op (bare_place place) (bare e)
  bare (Step of op place) = Step of op (bare_place place)
  bare (Comma a b) = Comma (bare a) (bare b)
  bare (Call of f arguments) = Call of 0 (bare_arguments arguments)
  bare (Putchar e) = Putchar (bare e)
  bare Getchar = Getchar
  bare (Exit e) = Exit (bare e)

  pub bare_place : Place → Place
  bare_place (LocalPlace v) = LocalPlace v
  bare_place (StaticPlace k) = StaticPlace 0
  bare_place (Target element e) = Target element (bare e)
  bare_place (Element element a i) = Element element (bare a) (bare i)

  pub bare_arguments : Arguments → Arguments
  bare_arguments NoMore = NoMore
  bare_arguments (Argument e es) = Argument (bare e) (bare_arguments es)

-- the type is the same
pub value_type-bare : (e : Expression) → value_type (bare e) ≡ value_type e
value_type-bare (Constant of n) = refl
value_type-bare (Start element array) = refl
value_type-bare (Read of place) = refl
value_type-bare (Address element place) = refl
value_type-bare (Unary of op e) = refl
value_type-bare (Binary of op a b) = refl
value_type-bare (And a b) = refl
value_type-bare (Or a b) = refl
value_type-bare (Conditional of t a b) = refl
value_type-bare (Cast to e) = refl
value_type-bare (Assign of place e) = refl
value_type-bare (Update of op place e) = refl
value_type-bare (Step of op place) = refl
value_type-bare (Comma a b) = value_type-bare b
value_type-bare (Call of f arguments) = refl
value_type-bare (Putchar e) = refl
value_type-bare Getchar = refl
value_type-bare (Exit e) = refl

-- so is the form
form-bare : (e : Expression) → has_constant_form (bare e) ≡ has_constant_form e
form-bare (Constant of n) = refl
form-bare (Start element array) = refl
form-bare (Read of place) = refl
form-bare (Address element place) = refl
form-bare (Unary of op e) = form-bare e
form-bare (Binary of op a b) = ap (λ t. t && has_constant_form (bare b)) (form-bare a)
    ∙ ap (λ t. has_constant_form a && t) (form-bare b)
form-bare (And a b) = ap (λ t. t && has_constant_form (bare b)) (form-bare a)
    ∙ ap (λ t. has_constant_form a && t) (form-bare b)
form-bare (Or a b) = ap (λ t. t && has_constant_form (bare b)) (form-bare a)
    ∙ ap (λ t. has_constant_form a && t) (form-bare b)
form-bare (Conditional of t a b) = ap (λ x. x && (has_constant_form (bare a) && has_constant_form (bare b)))
    (form-bare t)
    ∙ ap (λ x. has_constant_form t && (x && has_constant_form (bare b))) (form-bare a)
    ∙ ap (λ x. has_constant_form t && (has_constant_form a && x)) (form-bare b)
form-bare (Cast to e) = ap (λ t. is_integer_type to && t) (form-bare e)
form-bare (Assign of place e) = refl
form-bare (Update of op place e) = refl
form-bare (Step of op place) = refl
form-bare (Comma a b) = refl
form-bare (Call of f arguments) = refl
form-bare (Putchar e) = refl
form-bare Getchar = refl
form-bare (Exit e) = refl

-- a constant expression has no numbers
bare-constant : (e : Expression) → has_constant_form e ≡ true → bare e ≡ e
bare-constant (Constant of n) h = refl
bare-constant (Start element array) h = absurd (false≢true h)
bare-constant (Read of place) h = absurd (false≢true h)
bare-constant (Address element place) h = absurd (false≢true h)
bare-constant (Unary of op e) h = ap (Unary of op) (bare-constant e h)
bare-constant (Binary of op a b) h = let p = and_parts (has_constant_form a) (has_constant_form b) h in
    ap (λ x. Binary of op x (bare b)) (bare-constant a p.0) ∙ ap (Binary of op a) (bare-constant b p.1)
bare-constant (And a b) h = let p = and_parts (has_constant_form a) (has_constant_form b) h in
    ap (λ x. And x (bare b)) (bare-constant a p.0) ∙ ap (And a) (bare-constant b p.1)
bare-constant (Or a b) h = let p = and_parts (has_constant_form a) (has_constant_form b) h in
    ap (λ x. Or x (bare b)) (bare-constant a p.0) ∙ ap (Or a) (bare-constant b p.1)
bare-constant (Conditional of t a b) h = let p =
    and_parts (has_constant_form t) (has_constant_form a && has_constant_form b) h in
    let q = and_parts (has_constant_form a) (has_constant_form b) p.1 in
    ap (λ x. Conditional of x (bare a) (bare b)) (bare-constant t p.0)
    ∙ ap (λ x. Conditional of t x (bare b)) (bare-constant a q.0) ∙ ap (Conditional of t a) (bare-constant b q.1)
bare-constant (Cast to e) h = ap (Cast to) (bare-constant e (and_parts (is_integer_type to) (has_constant_form e) h).1)
bare-constant (Assign of place e) h = absurd (false≢true h)
bare-constant (Update of op place e) h = absurd (false≢true h)
bare-constant (Step of op place) h = absurd (false≢true h)
bare-constant (Comma a b) h = absurd (false≢true h)
bare-constant (Call of f arguments) h = absurd (false≢true h)
bare-constant (Putchar e) h = absurd (false≢true h)
bare-constant Getchar h = absurd (false≢true h)
bare-constant (Exit e) h = absurd (false≢true h)

no_form : (e : Expression) → has_constant_form e ≡ false → constant_value e ≡ None
no_form e h = ap (λ b. if b then number_given (evaluate no_calls e no_state) else None) h

constant_by : (e : Expression) (b : Bool) → has_constant_form e ≡ b → constant_value (bare e) ≡ constant_value e
constant_by e true h = ap constant_value (bare-constant e h)
constant_by e false h = no_form (bare e) (form-bare e ∙ h) ∙ sym (no_form e h)

-- the value of a constant expression is the same
pub constant-bare : (e : Expression) → constant_value (bare e) ≡ constant_value e
constant-bare e = constant_by e (has_constant_form e) refl

abbrev pub bare_named : ValueType × Place → ValueType × Place
bare_named named = (named.0, bare_place named.1)

-- the place that an expression names is the same but for numbers
pub place-bare : (e : Expression) → place_named (bare e) ≡ option_map bare_named (place_named e)
place-bare (Constant of n) = refl
place-bare (Start element array) = refl
place-bare (Read of place) = refl
place-bare (Address element place) = refl
place-bare (Unary of op e) = refl
place-bare (Binary of op a b) = refl
place-bare (And a b) = refl
place-bare (Or a b) = refl
place-bare (Conditional of t a b) = refl
place-bare (Cast to e) = refl
place-bare (Assign of place e) = refl
place-bare (Update of op place e) = refl
place-bare (Step of op place) = refl
place-bare (Comma a b) = refl
place-bare (Call of f arguments) = refl
place-bare (Putchar e) = refl
place-bare Getchar = refl
place-bare (Exit e) = refl

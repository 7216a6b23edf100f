-- What the ops of the lines of every typed expression ask for is there.
use Rattle.std.proofs.Common.{◌≡◌, ◌<◌, ℤ, pos, negsuc, List, [], ◌∷◌, Option, refl, sym, ◌∙◌}
use Rattle.std.proofs.Common.{subst, arith, take}
use Rattle.std.specs.Prelude.{FitsSigned, slice_get}
use Rattle.std.specs.Int.{w8, w16, w32, int_wrap}
use Rattle.std.specs.List.{AllByRecursion}
use Rattle.std.proofs.lemmas.Int.{SFits-int_wrap}
use Rattle.std.proofs.lemmas.Option.{slice_get_within}
use Rattle.pcc_base.proofs.Lists.{all-at}
use Rattle.c_tree.specs.declared.expression.ArrayRef.{ArrayRef}
use Rattle.c_tree.specs.declared.expression.ArrayRef.TheVariants as refs
use Rattle.c_tree.specs.declared.expression.BinaryOp.TheVariants.{Add}
use Rattle.c_tree.specs.declared.expression.UnaryOp.{UnaryOp}
use Rattle.c_tree.specs.declared.expression.UnaryOp.TheVariants.{Plus, Minus, Complement, Not}
use Rattle.c_tree.specs.declared.types.IntegerType.{IntegerType}
use Rattle.c_tree.specs.declared.types.IntegerType.TheVariants.{Char, Short, Int, UnsignedInt}
use Rattle.c_tree.specs.declared.types.ValueType.{ValueType}
use Rattle.c_tree.specs.declared.types.ValueType.TheVariants.{Void, Integer, Pointer}
use Rattle.c_tree.specs.Program.{value_type, Expression, Constant, Start as StartOf, Read, Address, Unary, Binary, And}
use Rattle.c_tree.specs.Program.{Or, Conditional, Cast, Assign, Update, Step, Comma, Call, Putchar, Getchar, Exit}
use Rattle.c_tree.specs.Program.{Place, LocalPlace, StaticPlace, Target, Element, Arguments, NoMore, Argument, Local}
use Rattle.c_tree.specs.Program.{LocalArray, Function, Program}
use Rattle.c_tree.specs.Store.{converted}
use Rattle.c_tree.specs.WellTyped.{AreArguments, BinaryGives, CanAssign, CanUpdate, IsArray}
use Rattle.c_tree.specs.WellTyped.{IsElement, IsInteger, IsPlace, IsResult, IsTyped, IsTypedFunction, UnaryGives}
use Rattle.flow_graph.specs.declared.op.Op.TheVariants as op
use Rattle.lower_lines.specs.Expressions.{all_passed, part_of, parameters_of, parts_of, place_of}
use Rattle.lower_lines.specs.Expressions.{address_part, call_part, element_of, target_of}
use Rattle.lower_lines.specs.Variables.{Context}
use Rattle.lower_lines.specs.Words.{HasWords, HaveWords, PlaceHasWords}
use Rattle.lower_lines.proofs.Types.{part-type, place-scalar, some-and}
use Rattle.lower_laws.specs.FitsLaws.{Room}
use Rattle.lower_laws.proofs.FitsParts.{FitsPart, IsThere, UnaryFits, constant-part, number-part, start-part}
use Rattle.lower_laws.proofs.FitsParts.{unary-part}
use Rattle.lower_laws.proofs.FitsCompound.{Becomes, and-part', assign-becomes, binary-part, cast-becomes}
use Rattle.lower_laws.proofs.FitsCompound.{cast-part', comma-part', conditional-becomes, conditional-part'}
use Rattle.lower_laws.proofs.FitsCompound.{or-part'}
use Rattle.lower_laws.proofs.Pieces.{context_in, lines-give}
use Rattle.lower_laws.proofs.FitsPlaces.{PlaceFits, address-part, assign-part, call-part, element-address}
use Rattle.lower_laws.proofs.FitsPlaces.{exit-part, getchar-part, passed-part, read-part, step-part, target-address}
use Rattle.lower_laws.proofs.FitsPlaces.{update-part}
use Rattle.lower_laws.proofs.Types.{integer-of}

-- ---- numbers

byte-fits : (z : ℤ) → FitsSigned w8 z → FitsSigned w32 z
byte-fits (pos m) f = let h : m < 0x80 = f.sfits in record { sfits = omega (arith, h) }
byte-fits (negsuc m) f = let h : m < 0x80 = f.sfits in record { sfits = omega (arith, h) }

short-fits : (z : ℤ) → FitsSigned w16 z → FitsSigned w32 z
short-fits (pos m) f = let h : m < 0x8000 = f.sfits in record { sfits = omega (arith, h) }
short-fits (negsuc m) f = let h : m < 0x8000 = f.sfits in record { sfits = omega (arith, h) }

pub converted-fits : (t : IntegerType) (n : ℤ) → FitsSigned w32 n → FitsSigned w32 (converted t n)
converted-fits Char n h = byte-fits (int_wrap w8 n) (SFits-int_wrap w8 n)
converted-fits Short n h = short-fits (int_wrap w16 n) (SFits-int_wrap w16 n)
converted-fits Int n h = h
converted-fits UnsignedInt n h = h

-- ---- types

unary-number : (R : Room) (operator : UnaryOp) (s : ValueType) (of : IntegerType) → UnaryGives operator s of
    → UnaryFits R operator s
unary-number R Not s of h = tt
unary-number R Plus Void of h = absurd h
unary-number R Plus (Integer t) of h = (t, refl)
unary-number R Plus (Pointer t) of h = absurd (cc)
unary-number R Minus Void of h = absurd h
unary-number R Minus (Integer t) of h = (t, refl)
unary-number R Minus (Pointer t) of h = absurd (cc)
unary-number R Complement Void of h = absurd h
unary-number R Complement (Integer t) of h = (t, refl)
unary-number R Complement (Pointer t) of h = absurd (cc)

module _ (R : Room) (functions : AllByRecursion (IsTypedFunction R.program) R.program.functions)
    (typed : IsTypedFunction R.program R.function) where
  abbrev p : Program
  p = R.program

  abbrev f : Function
  f = R.function

  abbrev c : Context
  c = context_in R

  array-there : (element : IntegerType) (array : ArrayRef) → IsArray p f array element → IsThere R array
  array-there element (refs.Static k) h = tt
  array-there element (refs.Frame k) h =
      let (a, at, is) = some-and (slice_get f.arrays k) (λ (x : LocalArray). x.element ≡ element) h in
      let below = slice_get_within f.arrays k a at in
      let same = R.arrays in
      omega (arith, below, same)

  type-of : (e : Expression) → IsTyped p f e → (part_of c e).of ≡ value_type e
  type-of e h = part-type p f e h

  number-of : (e : Expression) → IsTyped p f e → IsInteger (value_type e) → (u : IntegerType)
      × ((part_of c e).of ≡ Integer u)
  number-of e h is = let (u, e') = integer-of (value_type e) is in (u, type-of e h ∙ e')

  gives-parts : (operator : _) (a b : Expression) (of : ValueType) → IsTyped p f a → IsTyped p f b
      → BinaryGives operator (value_type a) (value_type b) of
      → BinaryGives operator (part_of c a).of (part_of c b).of of
  gives-parts operator a b of h h' g =
      subst (λ (s : ValueType). BinaryGives operator s (part_of c b).of of) (sym (type-of a h))
      (subst (λ (t : ValueType). BinaryGives operator (value_type a) t of) (sym (type-of b h')) g)

  becomes-part : (to : ValueType) (e : Expression) → IsTyped p f e → Becomes to (value_type e)
      → Becomes to (part_of c e).of
  becomes-part to e h b = subst (λ (s : ValueType). Becomes to s) (sym (type-of e h)) b

  mutual
    pub expression-fits : (e : Expression) → IsTyped p f e → HasWords e → FitsPart R (part_of c e)
    expression-fits (Constant of n) h words = constant-part R of n (converted-fits of n words)
    expression-fits (StartOf element array) h words = start-part R element array (array-there element array h)
    expression-fits (Read of place) h words = read-part R of (place_of c place) (place-fits place of h words)
    expression-fits (Address element place) h words = address-fits element place h.0 h.1 words
    expression-fits (Unary of operator e) h words =
        unary-part R operator (part_of c e) of
        (subst (λ (s : ValueType). UnaryFits R operator s) (sym (type-of e h.0))
        (unary-number R operator (value_type e) of h.1)) (expression-fits e h.0 words)
    expression-fits (Binary of operator a b) h words =
        binary-part R of operator (part_of c a) (part_of c b)
        (lines-give operator _ _ of (gives-parts operator a b of h.0 h.1 h.2))
        (expression-fits a h.0 words.0) (expression-fits b h.1 words.1)
    expression-fits (And a b) h words =
        and-part' R (part_of c a) (part_of c b) (expression-fits a h.0 words.0) (expression-fits b h.2 words.1)
    expression-fits (Or a b) h words =
        or-part' R (part_of c a) (part_of c b) (expression-fits a h.0 words.0) (expression-fits b h.2 words.1)
    expression-fits (Conditional of t a b) h words =
        let becomes = conditional-becomes (value_type a) (value_type b) of h.4 in
        conditional-part' R of (part_of c t) (part_of c a) (part_of c b)
        (becomes-part of a h.2 becomes.0, becomes-part of b h.3 becomes.1) (expression-fits t h.0 words.0)
        (expression-fits a h.2 words.1) (expression-fits b h.3 words.2)
    expression-fits (Cast to e) h words =
        cast-part' R to (part_of c e) (becomes-part to e h.0 (cast-becomes to (value_type e) h.1))
        (expression-fits e h.0 words)
    expression-fits (Assign of place e) h words =
        assign-part R of (place_of c place) (part_of c e) (place-fits place of h.0 words.0)
        (becomes-part of e h.1 (assign-becomes of (value_type e) h.2)) (expression-fits e h.1 words.1)
    expression-fits (Update of operator place e) h words =
        update-part R of operator (place_of c place) (part_of c e) (place-fits place of h.0 words.0)
        (subst (λ (s : ValueType). CanUpdate operator of s) (sym (type-of e h.1)) h.2) (expression-fits e h.1 words.1)
    expression-fits (Step of operator place) h words =
        step-part R of operator (place_of c place) (place-scalar p f typed place of h) (place-fits place of h words)
    expression-fits (Comma a b) h words =
        comma-part' R (part_of c a) (part_of c b) (expression-fits a h.0 words.0) (expression-fits b h.1 words.1)
    expression-fits (Call of k arguments) h words =
        let (g, at, is) = some-and (slice_get p.functions k) (λ (g : Function). (g.result ≡ of)
        × AreArguments p f (take g.parameters g.locals) arguments) h in
        let result = subst (λ (s : ValueType). IsResult s) is.0 (all-at (IsTypedFunction p) p.functions k g functions
        at).result in
        subst (λ (o : Option Function). FitsPart R (call_part c of k (all_passed c (parameters_of o)
        (parts_of c arguments)))) (sym at)
        (call-part R of k (all_passed c (take g.parameters g.locals) (parts_of c arguments)) result
        (arguments-fit (take g.parameters g.locals) arguments is.1 words))
    expression-fits (Putchar e) h words =
        let (u, e') = number-of e h.0 h.1 in
        number-part R op.Putchar (part_of c e) u e' (λ d s k k'. ((k, (k', tt)), tt)) (expression-fits e h.0 words)
    expression-fits Getchar h words = getchar-part R
    expression-fits (Exit e) h words =
        let (u, e') = number-of e h.0 h.1 in exit-part R (part_of c e) u e' (expression-fits e h.0 words)

    pub place-fits : (place : Place) (of : ValueType) → IsPlace p f place of → PlaceHasWords place
        → PlaceFits R (place_of c place) of
    place-fits (LocalPlace v) of h words = some-and (slice_get f.locals v) (λ (l : Local). l.of ≡ of) h
    place-fits (StaticPlace k) of h words =
        let (o, at, is) = some-and (slice_get p.objects k) _ h in (o.element, is.1)
    place-fits (Target element e) of h words = (
      target-address R (part_of c e) element (type-of e h.0 ∙ h.1) (expression-fits e h.0 words),
      h.2,
    )
    place-fits (Element element a i) of h words = (
      element-address R element (part_of c a).of (part_of c a) (part_of c i) refl
          (gives-parts Add a i (Pointer element) h.0 h.1 h.2) (expression-fits a h.0 words.0)
          (expression-fits i h.1 words.1),
      h.3,
    )

    address-fits : (element : IntegerType) (place : Place) → IsElement place → IsPlace p f place (Integer element)
        → PlaceHasWords place → FitsPart R (address_part c element (place_of c place))
    address-fits element (LocalPlace v) is h words = absurd is
    address-fits element (StaticPlace k) is h words = absurd is
    address-fits element (Target t e) is h words =
        address-part R element t (target_of c (part_of c e))
        (target-address R (part_of c e) t (type-of e h.0 ∙ h.1) (expression-fits e h.0 words))
    address-fits element (Element t a i) is h words =
        address-part R element t (element_of c t (part_of c a).of (part_of c a) (part_of c i))
        (element-address R t (part_of c a).of (part_of c a) (part_of c i) refl
        (gives-parts Add a i (Pointer t) h.0 h.1 h.2) (expression-fits a h.0 words.0)
        (expression-fits i h.1 words.1))

    arguments-fit : (parameters : List Local) (arguments : Arguments) → AreArguments p f parameters arguments
        → HaveWords arguments → AllByRecursion (FitsPart R) (all_passed c parameters (parts_of c arguments))
    arguments-fit [] NoMore h words = tt
    arguments-fit (l ∷ ls) NoMore h words = tt
    arguments-fit [] (Argument e es) h words = absurd h
    arguments-fit (l ∷ ls) (Argument e es) h words = (
      passed-part R l.of (part_of c e) (subst (λ (s : ValueType). CanAssign l.of s) (sym (type-of e h.0)) h.1)
          (expression-fits e h.0 words.0),
      arguments-fit ls es h.2 words.1,
    )

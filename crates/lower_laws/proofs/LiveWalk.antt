-- Sets of the lines of every typed expression.
use Rattle.std.proofs.Common.{◌≡◌, ◌<◌, ◌≤◌, ℕ, zero, suc, ◌+◌, List, [], ◌∷◌, Option, Some, inl, inr, refl, sym, ap}
use Rattle.std.proofs.Common.{◌∙◌, subst, arith, take}
use Rattle.std.specs.Prelude.{slice_get}
use Rattle.std.specs.List.{AllByRecursion, range_with_len}
use Rattle.std.proofs.lemmas.Bool.{cases_lt}
use Rattle.std.proofs.lemmas.List.Elements.{recursion_from_All}
use Rattle.std.proofs.lemmas.Option.{slice_get_within}
use Rattle.pcc_base.specs.declared.run.Width.{Width}
use Rattle.pcc_base.specs.declared.run.Width.TheVariants.{One, Two}
use Rattle.pcc_base.proofs.Lists.{all-at}
use Rattle.c_tree.specs.declared.expression.BinaryOp.TheVariants.{Add}
use Rattle.c_tree.specs.declared.expression.UnaryOp.{UnaryOp}
use Rattle.c_tree.specs.declared.expression.UnaryOp.TheVariants.{Plus, Minus, Complement, Not}
use Rattle.c_tree.specs.declared.types.IntegerType.{IntegerType}
use Rattle.c_tree.specs.declared.types.IntegerType.TheVariants.{Char, Short, Int, UnsignedInt}
use Rattle.c_tree.specs.declared.types.ValueType.{ValueType}
use Rattle.c_tree.specs.declared.types.ValueType.TheVariants.{Void, Integer, Pointer}
use Rattle.c_tree.specs.Evaluation.{type_of}
use Rattle.c_tree.specs.Program.{value_type, Expression, Constant, Start as StartOf, Read, Address, Unary, Binary, And}
use Rattle.c_tree.specs.Program.{Or, Conditional, Cast, Assign, Update, Step, Comma, Call, Putchar, Getchar, Exit}
use Rattle.c_tree.specs.Program.{Place, LocalPlace, StaticPlace, Target, Element, Arguments, NoMore, Argument, Local}
use Rattle.c_tree.specs.Program.{Function, Program}
use Rattle.c_tree.specs.WellTyped.{AreArguments, BinaryGives, CanAssign, CanUpdate}
use Rattle.c_tree.specs.WellTyped.{IsElement, IsInteger, IsPlace, IsResult, IsTyped, IsTypedFunction, UnaryGives}
use Rattle.flow_graph.specs.declared.op.Op.TheVariants as op
use Rattle.flow_graph.specs.Graphs.{IsIn}
use Rattle.lower_lines.specs.Expressions.{all_passed, part_of, parameters_of, parts_of, place_of, words_of}
use Rattle.lower_lines.specs.Expressions.{address_part, call_part, element_of, target_of}
use Rattle.lower_lines.specs.Parts.{Part}
use Rattle.lower_lines.specs.Shown.{first_variable, local_widths, type_widths}
use Rattle.lower_lines.specs.Variables.{Context, Spot, local_spot, local_variables, typed_spot}
use Rattle.lower_lines.proofs.Types.{part-type, place-scalar, some-and}
use Rattle.lower_laws.proofs.Pieces.{lines-give}
use Rattle.lower_laws.proofs.Widths.{local-width}
use Rattle.lower_laws.proofs.FitsCompound.{Becomes, assign-becomes, cast-becomes, conditional-becomes}
use Rattle.lower_laws.specs.Flows.{Within}
use Rattle.lower_laws.specs.LiveLaws.{ExpressionsSettle}
use Rattle.lower_laws.specs.Settled.{context_in}
use Rattle.lower_laws.proofs.Addresses.{address-part, call-part, element-address, target-address}
use Rattle.lower_laws.proofs.Compound.{UnaryFits, alike-same, and-part, cast-part, comma-part, or-part, settles-as}
use Rattle.lower_laws.proofs.Compound.{unary-part}
use Rattle.lower_laws.proofs.Parts.{LivePart, binary-part, constant-part, number-part, start-part}
use Rattle.lower_laws.proofs.PlaceSets.{conditional-part', exit-part, getchar-part}
use Rattle.lower_laws.proofs.Steps.{step-part}
use Rattle.lower_laws.proofs.Updates.{PlaceLive, assign-part, passed-part, read-part, update-part}
use Rattle.lower_laws.proofs.Types.{integer-of}

-- ---- the variables of locals

range-in : (a n v : ℕ) → a ≤ v → v < a + n → IsIn v (range_with_len a n)
range-in a zero v h k = absurd (omega (arith, h, k))
range-in a (suc n) v h k =
    elim (cases_lt a v) [
      | inl less ↦ inr (range-in (a + 1) n v (omega (arith, less)) (omega (arith, k)))
      | inr more ↦ inl (omega (arith, h, more))
    ]

range-low : (a n v : ℕ) → IsIn v (range_with_len a n) → v < a + n
range-low a zero v h = absurd h
range-low a (suc n) v (inl e) = omega (arith, e)
range-low a (suc n) v (inr h) = let k = range-low (a + 1) n v h in omega (arith, k)

module _ (p : Program) (f : Function) (functions : AllByRecursion (IsTypedFunction p) p.functions)
    (typed : IsTypedFunction p f) where
  abbrev c : Context
  c = context_in p f

  abbrev D : List ℕ
  D = range_with_len 0 (local_variables f)

  pub low-known : (v : ℕ) → IsIn v D → v < local_variables f
  low-known v h = let k = range-low 0 (local_variables f) v h in omega (arith, k)

  abbrev Live : Part → Type 0
  Live a = LivePart c D low-known a

  known : (k j : ℕ) (l : Local) (w : Width) → slice_get f.locals k ≡ Some l → slice_get (type_widths l.of) j ≡ Some w
      → IsIn (first_variable f.locals k + j) D
  known k j l w at e =
      let inside = slice_get_within (type_widths l.of) j w e in
      let v = first_variable f.locals k + j in
      let below : v < local_variables f = slice_get_within (local_widths f.locals) v w
      (local-width f.locals k j l at inside ∙ e) in
      range-in 0 (local_variables f) v (omega arith) (omega (arith, below))

  first-known : (k : ℕ) (l : Local) (w : Width) → slice_get f.locals k ≡ Some l
      → slice_get (type_widths l.of) 0 ≡ Some w → IsIn (first_variable f.locals k) D
  first-known k l w at e =
      let plain : first_variable f.locals k + 0 ≡ first_variable f.locals k = omega arith in
      subst (λ (n : ℕ). IsIn n D) plain (known k 0 l w at e)

  one-known : (x : ℕ) → IsIn x D → Within (x ∷ []) D
  one-known x h v (inl e) = subst (λ (n : ℕ). IsIn n D) e h
  one-known x h v (inr none) = absurd none

  words-known : (of : ValueType) (k : ℕ) (l : Local) → slice_get f.locals k ≡ Some l → l.of ≡ of
      → Within (words_of of (typed_spot of (first_variable f.locals k))) D
  words-known Void k l at e = λ v is. absurd is
  words-known (Integer Char) k l at e = one-known (first_variable f.locals k)
      (first-known k l One at (ap (λ (m : ValueType). slice_get (type_widths m) 0) e))
  words-known (Integer Short) k l at e = one-known (first_variable f.locals k)
      (first-known k l Two at (ap (λ (m : ValueType). slice_get (type_widths m) 0) e))
  words-known (Integer Int) k l at e = one-known (first_variable f.locals k)
      (first-known k l Two at (ap (λ (m : ValueType). slice_get (type_widths m) 0) e))
  words-known (Integer UnsignedInt) k l at e = one-known (first_variable f.locals k)
      (first-known k l Two at (ap (λ (m : ValueType). slice_get (type_widths m) 0) e))
  words-known (Pointer t) k l at e = both
    where
      both : (v : ℕ) → IsIn v (first_variable f.locals k ∷ suc (first_variable f.locals k) ∷ []) → IsIn v D
      both v (inl e') = subst (λ (n : ℕ). IsIn n D) e'
          (first-known k l Two at (ap (λ (m : ValueType). slice_get (type_widths m) 0) e))
      both v (inr (inl e')) =
          let next : first_variable f.locals k + 1 ≡ v = omega (arith, e') in
          subst (λ (n : ℕ). IsIn n D) next (known k 1 l Two at (ap (λ (m : ValueType). slice_get (type_widths m) 1) e))
      both v (inr (inr none)) = absurd none

  spot-is : (k : ℕ) (l : Local) (of : ValueType) → slice_get f.locals k ≡ Some l → l.of ≡ of
      → local_spot c k ≡ typed_spot of (first_variable f.locals k)
  spot-is k l of at e =
      ap (λ (o : Option Local). typed_spot (type_of o) (first_variable f.locals k)) at
      ∙ ap (λ (m : ValueType). typed_spot m (first_variable f.locals k)) e

  local-known : (v : ℕ) (of : ValueType) → IsPlace p f (LocalPlace v) of → Within (words_of of (local_spot c v)) D
  local-known v of h =
      let (l, at, e) = some-and (slice_get f.locals v) (λ (l : Local). l.of ≡ of) h in
      subst (λ (s : Spot). Within (words_of of s) D) (sym (spot-is v l of at e)) (words-known of v l at e)

  -- ---- types

  type-of : (e : Expression) → IsTyped p f e → (part_of c e).of ≡ value_type e
  type-of e h = part-type p f e h

  number-of : (e : Expression) → IsTyped p f e → IsInteger (value_type e) → (u : IntegerType)
      × ((part_of c e).of ≡ Integer u)
  number-of e h is = let (u, e') = integer-of (value_type e) is in (u, type-of e h ∙ e')

  gives-parts : (operator : _) (a b : Expression) (of : ValueType) → IsTyped p f a → IsTyped p f b
      → BinaryGives operator (value_type a) (value_type b) of
      → BinaryGives operator (part_of c a).of (part_of c b).of of
  gives-parts operator a b of h h' g =
      subst (λ (s : ValueType). BinaryGives operator s (part_of c b).of of) (sym (type-of a h))
      (subst (λ (t : ValueType). BinaryGives operator (value_type a) t of) (sym (type-of b h')) g)

  becomes-part : (to : ValueType) (e : Expression) → IsTyped p f e → Becomes to (value_type e)
      → Becomes to (part_of c e).of
  becomes-part to e h b = subst (λ (s : ValueType). Becomes to s) (sym (type-of e h)) b

  unary-number : (operator : UnaryOp) (s : ValueType) (of : IntegerType) → UnaryGives operator s of
      → UnaryFits c D low-known operator s
  unary-number Not s of h = tt
  unary-number Plus Void of h = absurd h
  unary-number Plus (Integer t) of h = (t, refl)
  unary-number Plus (Pointer t) of h = absurd (cc)
  unary-number Minus Void of h = absurd h
  unary-number Minus (Integer t) of h = (t, refl)
  unary-number Minus (Pointer t) of h = absurd (cc)
  unary-number Complement Void of h = absurd h
  unary-number Complement (Integer t) of h = (t, refl)
  unary-number Complement (Pointer t) of h = absurd (cc)

  mutual
    pub expression-live : (e : Expression) → IsTyped p f e → Live (part_of c e)
    expression-live (Constant of n) h = constant-part c D low-known of n
    expression-live (StartOf element array) h = start-part c D low-known element array
    expression-live (Read of place) h = read-part c D low-known of (place_of c place) (place-live place of h)
    expression-live (Address element place) h = address-live element place h.0 h.1
    expression-live (Unary of operator e) h =
        unary-part c D low-known of operator (part_of c e)
        (subst (λ (s : ValueType). UnaryFits c D low-known operator s) (sym (type-of e h.0))
        (unary-number operator (value_type e) of h.1)) (expression-live e h.0)
    expression-live (Binary of operator a b) h =
        binary-part c D low-known of operator (part_of c a) (part_of c b)
        (lines-give operator _ _ of (gives-parts operator a b of h.0 h.1 h.2))
        (expression-live a h.0) (expression-live b h.1)
    expression-live (And a b) h =
        and-part c D low-known (part_of c a) (part_of c b) (expression-live a h.0) (expression-live b h.2)
    expression-live (Or a b) h =
        or-part c D low-known (part_of c a) (part_of c b) (expression-live a h.0) (expression-live b h.2)
    expression-live (Conditional of t a b) h =
        let becomes = conditional-becomes (value_type a) (value_type b) of h.4 in
        conditional-part' c D low-known of (part_of c t) (part_of c a) (part_of c b)
        (becomes-part of a h.2 becomes.0, becomes-part of b h.3 becomes.1) (expression-live t h.0)
        (expression-live a h.2) (expression-live b h.3)
    expression-live (Cast to e) h =
        cast-part c D low-known to (part_of c e) (becomes-part to e h.0 (cast-becomes to (value_type e) h.1))
        (expression-live e h.0)
    expression-live (Assign of place e) h =
        assign-part c D low-known of (place_of c place) (part_of c e) (place-live place of h.0)
        (becomes-part of e h.1 (assign-becomes of (value_type e) h.2)) (expression-live e h.1)
    expression-live (Update of operator place e) h =
        update-part c D low-known of operator (place_of c place) (part_of c e) (place-live place of h.0)
        (subst (λ (s : ValueType). CanUpdate operator of s) (sym (type-of e h.1)) h.2) (expression-live e h.1)
    expression-live (Step of operator place) h =
        step-part c D low-known of operator (place_of c place) (place-scalar p f typed place of h)
        (place-live place of h)
    expression-live (Comma a b) h =
        comma-part c D low-known (part_of c a) (part_of c b) (expression-live a h.0) (expression-live b h.1)
    expression-live (Call of k arguments) h =
        let (g, at, is) = some-and (slice_get p.functions k) (λ (g : Function). (g.result ≡ of)
        × AreArguments p f (take g.parameters g.locals) arguments) h in
        let result = subst (λ (s : ValueType). IsResult s) is.0 (all-at (IsTypedFunction p) p.functions k g functions
        at).result in
        subst (λ (o : Option Function). Live (call_part c of k (all_passed c (parameters_of o) (parts_of c arguments))))
        (sym at)
        (call-part c D low-known of k (all_passed c (take g.parameters g.locals) (parts_of c arguments)) result
        (arguments-live (take g.parameters g.locals) arguments is.1))
    expression-live (Putchar e) h =
        let (u, e') = number-of e h.0 h.1 in
        number-part c D low-known op.Putchar (part_of c e) u e' (λ d s. ((refl, refl, refl), refl, refl))
        (expression-live e h.0)
    expression-live Getchar h = getchar-part c D low-known
    expression-live (Exit e) h =
        let (u, e') = number-of e h.0 h.1 in exit-part c D low-known (part_of c e) u e' (expression-live e h.0)

    pub place-live : (place : Place) (of : ValueType) → IsPlace p f place of
        → PlaceLive c D low-known (place_of c place) of
    place-live (LocalPlace v) of h = local-known v of h
    place-live (StaticPlace k) of h =
        let (o, at, is) = some-and (slice_get p.objects k) _ h in (o.element, is.1)
    place-live (Target element e) of h = (
      target-address c D low-known (part_of c e) element (type-of e h.0 ∙ h.1) (expression-live e h.0),
      h.2,
    )
    place-live (Element element a i) of h = (
      element-address c D low-known element (part_of c a).of (part_of c a) (part_of c i) refl
          (gives-parts Add a i (Pointer element) h.0 h.1 h.2) (expression-live a h.0) (expression-live i h.1),
      h.3,
    )

    address-live : (element : IntegerType) (place : Place) → IsElement place → IsPlace p f place (Integer element)
        → Live (address_part c element (place_of c place))
    address-live element (LocalPlace v) is h = absurd is
    address-live element (StaticPlace k) is h = absurd is
    address-live element (Target t e) is h =
        address-part c D low-known element t (target_of c (part_of c e))
        (target-address c D low-known (part_of c e) t (type-of e h.0 ∙ h.1) (expression-live e h.0))
    address-live element (Element t a i) is h =
        address-part c D low-known element t (element_of c t (part_of c a).of (part_of c a) (part_of c i))
        (element-address c D low-known t (part_of c a).of (part_of c a) (part_of c i) refl
        (gives-parts Add a i (Pointer t) h.0 h.1 h.2) (expression-live a h.0) (expression-live i h.1))

    arguments-live : (parameters : List Local) (arguments : Arguments) → AreArguments p f parameters arguments
        → AllByRecursion (LivePart c D low-known) (all_passed c parameters (parts_of c arguments))
    arguments-live [] NoMore h = tt
    arguments-live (l ∷ ls) NoMore h = tt
    arguments-live [] (Argument e es) h = absurd h
    arguments-live (l ∷ ls) (Argument e es) h = (
      passed-part c D low-known l.of (part_of c e)
          (subst (λ (s : ValueType). CanAssign l.of s) (sym (type-of e h.0)) h.1) (expression-live e h.0),
      arguments-live ls es h.2,
    )

pub expressions-settle : ExpressionsSettle
expressions-settle p well k f at e h block level w set has low =
    let functions = recursion_from_All (IsTypedFunction p) p.functions well.functions in
    let typed = all-at (IsTypedFunction p) p.functions k f functions at in
    let c = context_in p f in
    let D = range_with_len 0 (local_variables f) in
    settles-as c D (low-known p f functions typed) (part_of c e) (value_type e)
    (alike-same (part_of c e).of (value_type e) (part-type p f e h))
    (expression-live p f functions typed e h) block level w
    set
    (record {
      known = λ v is. has.locals v (low-known p f functions typed v is);
      under = has.under;
    })
    low

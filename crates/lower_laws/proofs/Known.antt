-- Sets of the lines of every typed expression that names only known locals: it uses the variables of these alone.
use Rattle.std.proofs.Common.{◌≡◌, ◌<◌, ◌⊎◌, ℕ, List, [], ◌∷◌, ◌++◌, Option, Some, inl, inr, refl, sym, ap, ◌∙◌, subst}
use Rattle.std.proofs.Common.{take}
use Rattle.std.specs.Prelude.{IsSomeAnd, slice_get}
use Rattle.std.specs.List.{AllByRecursion}
use Rattle.pcc_base.proofs.Lists.{all-at}
use Rattle.c_tree.specs.declared.expression.BinaryOp.{BinaryOp}
use Rattle.c_tree.specs.declared.expression.BinaryOp.TheVariants.{Add}
use Rattle.c_tree.specs.declared.expression.UnaryOp.{UnaryOp}
use Rattle.c_tree.specs.declared.expression.UnaryOp.TheVariants.{Plus, Minus, Complement, Not}
use Rattle.c_tree.specs.declared.types.IntegerType.{IntegerType}
use Rattle.c_tree.specs.declared.types.ValueType.{ValueType}
use Rattle.c_tree.specs.declared.types.ValueType.TheVariants.{Void, Integer, Pointer}
use Rattle.c_tree.specs.Evaluation.{type_at, type_of}
use Rattle.c_tree.specs.Program.{value_type, Expression, Constant, Start as StartOf, Read, Address, Unary, Binary, And}
use Rattle.c_tree.specs.Program.{Or, Conditional, Cast, Assign, Update, Step, Comma, Call, Putchar, Getchar, Exit}
use Rattle.c_tree.specs.Program.{Place, LocalPlace, StaticPlace, Target, Element, Arguments, NoMore, Argument, Local}
use Rattle.c_tree.specs.Program.{Function, Program}
use Rattle.c_tree.specs.WellTyped.{AreArguments, BinaryGives, CanAssign, CanUpdate, IsElement, IsInteger, IsPlace}
use Rattle.c_tree.specs.WellTyped.{IsResult, IsTyped, IsTypedFunction, UnaryGives}
use Rattle.flow_graph.specs.declared.op.Op.TheVariants as op
use Rattle.flow_graph.specs.Graphs.{IsIn}
use Rattle.lower_lines.specs.Expressions.{address_part, all_passed, call_part, element_of, part_of, parameters_of}
use Rattle.lower_lines.specs.Expressions.{parts_of, place_of, target_of, words_of}
use Rattle.lower_lines.specs.Parts.{Part}
use Rattle.lower_lines.specs.Variables.{Context, local_spot, local_variables}
use Rattle.lower_lines.proofs.Types.{part-type, place-scalar, some-and}
use Rattle.lower_laws.proofs.Pieces.{lines-give}
use Rattle.lower_laws.proofs.FitsCompound.{Becomes, assign-becomes, cast-becomes, conditional-becomes}
use Rattle.lower_laws.specs.Flows.{Within}
use Rattle.lower_laws.specs.Settled.{context_in}
use Rattle.lower_laws.proofs.Addresses.{address-part, call-part, element-address, target-address}
use Rattle.lower_laws.proofs.Compound.{UnaryFits, and-part, cast-part, comma-part, or-part, unary-part}
use Rattle.lower_laws.proofs.Parts.{LivePart, binary-part, constant-part, number-part, start-part}
use Rattle.lower_laws.proofs.PlaceSets.{conditional-part', exit-part, getchar-part}
use Rattle.lower_laws.proofs.Sets.{front-in, more-in}
use Rattle.lower_laws.proofs.Steps.{step-part}
use Rattle.lower_laws.proofs.Updates.{PlaceLive, assign-part, passed-part, read-part, update-part}
use Rattle.lower_laws.proofs.LiveWalk.{low-known, place-live as any-place-live}
use Rattle.lower_laws.specs.Declared.{ArgumentsNameOnly, NamesOnly, PlaceNamesOnly}
use Rattle.lower_laws.proofs.Types.{integer-of}

-- the variables of a local, and those of some
abbrev pub words_at : Context → ℕ → List ℕ
words_at c v = words_of (type_at c.function v) (local_spot c v)

abbrev pub variables : Context → List ℕ → List ℕ
variables c [] = []
variables c (v ∷ vs) = words_at c v ++ variables c vs

words-in : (c : Context) (known : List ℕ) (v : ℕ) → IsIn v known → Within (words_at c v) (variables c known)
words-in c [] v is = absurd is
words-in c (k ∷ known) v (inl e) = subst (λ (u : ℕ). Within (words_at c u) (variables c (k ∷ known))) e
    (front-in (words_at c k) (variables c known))
words-in c (k ∷ known) v (inr is) =
    λ u here. more-in (words_at c k) (variables c known) u (words-in c known v is u here)

either-in : (xs ys : List ℕ) (v : ℕ) → IsIn v (xs ++ ys) → IsIn v xs ⊎ IsIn v ys
either-in [] ys v h = inr h
either-in (x ∷ xs) ys v (inl e) = inl (inl e)
either-in (x ∷ xs) ys v (inr h) = elim (either-in xs ys v h) [ inl is ↦ inl (inr is) | inr is ↦ inr is ]

module _ (p : Program) (f : Function) (functions : AllByRecursion (IsTypedFunction p) p.functions)
    (typed : IsTypedFunction p f) where
  abbrev c : Context
  c = context_in p f

  -- they are locals of the function
  abbrev pub AreLocals : List ℕ → Type 0
  AreLocals known = (v : ℕ) → IsIn v known → (l : Local) × (slice_get f.locals v ≡ Some l)

  local-low : (v : ℕ) (l : Local) → slice_get f.locals v ≡ Some l → (u : ℕ) → IsIn u (words_at c v)
      → u < local_variables f
  local-low v l at u is = low-known p f functions typed u
      (any-place-live p f functions typed (LocalPlace v) (type_at f v)
      (subst (λ (o : Option Local). IsSomeAnd o (λ (l : Local). l.of ≡ type_at f v)) (sym at) (sym (ap type_of at))) u
      is)

  pub variables-low : (known : List ℕ) → AreLocals known → (v : ℕ) → IsIn v (variables c known)
      → v < local_variables f
  variables-low [] are v is = absurd is
  variables-low (k ∷ known) are v is =
      elim (either-in (words_at c k) (variables c known) v is) [
        | inl here ↦ (let (l, at) = are k (inl refl) in local-low k l at v here)
        | inr there ↦ variables-low known (λ u h. are u (inr h)) v there
      ]

  number-of : (e : Expression) → IsTyped p f e → IsInteger (value_type e) → (u : IntegerType)
      × ((part_of c e).of ≡ Integer u)
  number-of e h is = let (u, e') = integer-of (value_type e) is in (u, part-type p f e h ∙ e')

  gives-parts : (operator : BinaryOp) (a b : Expression) (of : ValueType) → IsTyped p f a → IsTyped p f b
      → BinaryGives operator (value_type a) (value_type b) of
      → BinaryGives operator (part_of c a).of (part_of c b).of of
  gives-parts operator a b of h h' g =
      subst (λ (s : ValueType). BinaryGives operator s (part_of c b).of of) (sym (part-type p f a h))
      (subst (λ (t : ValueType). BinaryGives operator (value_type a) t of) (sym (part-type p f b h')) g)

  becomes-part : (to : ValueType) (e : Expression) → IsTyped p f e → Becomes to (value_type e)
      → Becomes to (part_of c e).of
  becomes-part to e h b = subst (λ (s : ValueType). Becomes to s) (sym (part-type p f e h)) b

  module _ (known : List ℕ) (are : AreLocals known) where
    abbrev D : List ℕ
    D = variables c known

    abbrev Low : Type 0
    Low = (v : ℕ) → IsIn v D → v < local_variables f

    module _ (low : Low) where
      abbrev Live : Part → Type 0
      Live a = LivePart c D low a

      unary-number : (operator : UnaryOp) (s : ValueType) (of : IntegerType) → UnaryGives operator s of
          → UnaryFits c D low operator s
      unary-number Not s of h = tt
      unary-number Plus Void of h = absurd h
      unary-number Plus (Integer t) of h = (t, refl)
      unary-number Plus (Pointer t) of h = absurd (cc)
      unary-number Minus Void of h = absurd h
      unary-number Minus (Integer t) of h = (t, refl)
      unary-number Minus (Pointer t) of h = absurd (cc)
      unary-number Complement Void of h = absurd h
      unary-number Complement (Integer t) of h = (t, refl)
      unary-number Complement (Pointer t) of h = absurd (cc)

      local-known : (v : ℕ) (of : ValueType) → IsPlace p f (LocalPlace v) of → IsIn v known
          → Within (words_of of (local_spot c v)) D
      local-known v of h is =
          let (l, at, e) = some-and (slice_get f.locals v) (λ (l : Local). l.of ≡ of) h in
          let same : type_at f v ≡ of = ap type_of at ∙ e in
          subst (λ (s : ValueType). Within (words_of s (local_spot c v)) D) same (words-in c known v is)

      mutual
        pub named-live : (e : Expression) → IsTyped p f e → NamesOnly known e → Live (part_of c e)
        named-live (Constant of n) h k = constant-part c D low of n
        named-live (StartOf element array) h k = start-part c D low element array
        named-live (Read of place) h k = read-part c D low of (place_of c place) (place-live place of h k)
        named-live (Address element place) h k = address-live element place h.0 h.1 k
        named-live (Unary of operator e) h k =
            unary-part c D low of operator (part_of c e)
            (subst (λ (s : ValueType). UnaryFits c D low operator s) (sym (part-type p f e h.0))
            (unary-number operator (value_type e) of h.1)) (named-live e h.0 k)
        named-live (Binary of operator a b) h k =
            binary-part c D low of operator (part_of c a) (part_of c b)
            (lines-give operator _ _ of (gives-parts operator a b of h.0 h.1 h.2))
            (named-live a h.0 k.0) (named-live b h.1 k.1)
        named-live (And a b) h k =
            and-part c D low (part_of c a) (part_of c b) (named-live a h.0 k.0) (named-live b h.2 k.1)
        named-live (Or a b) h k =
            or-part c D low (part_of c a) (part_of c b) (named-live a h.0 k.0) (named-live b h.2 k.1)
        named-live (Conditional of t a b) h k =
            let becomes = conditional-becomes (value_type a) (value_type b) of h.4 in
            conditional-part' c D low of (part_of c t) (part_of c a) (part_of c b)
            (becomes-part of a h.2 becomes.0, becomes-part of b h.3 becomes.1) (named-live t h.0 k.0)
            (named-live a h.2 k.1) (named-live b h.3 k.2)
        named-live (Cast to e) h k =
            cast-part c D low to (part_of c e) (becomes-part to e h.0 (cast-becomes to (value_type e) h.1))
            (named-live e h.0 k)
        named-live (Assign of place e) h k =
            assign-part c D low of (place_of c place) (part_of c e) (place-live place of h.0 k.0)
            (becomes-part of e h.1 (assign-becomes of (value_type e) h.2)) (named-live e h.1 k.1)
        named-live (Update of operator place e) h k =
            update-part c D low of operator (place_of c place) (part_of c e) (place-live place of h.0 k.0)
            (subst (λ (s : ValueType). CanUpdate operator of s) (sym (part-type p f e h.1)) h.2)
            (named-live e h.1 k.1)
        named-live (Step of operator place) h k =
            step-part c D low of operator (place_of c place) (place-scalar p f typed place of h)
            (place-live place of h k)
        named-live (Comma a b) h k =
            comma-part c D low (part_of c a) (part_of c b) (named-live a h.0 k.0) (named-live b h.1 k.1)
        named-live (Call of n arguments) h k =
            let (g, at, is) = some-and (slice_get p.functions n) (λ (g : Function). (g.result ≡ of)
            × AreArguments p f (take g.parameters g.locals) arguments) h in
            let result = subst (λ (s : ValueType). IsResult s) is.0 (all-at (IsTypedFunction p) p.functions n g
            functions at).result in
            subst (λ (o : Option Function). Live (call_part c of n (all_passed c (parameters_of o) (parts_of c
            arguments)))) (sym at)
            (call-part c D low of n (all_passed c (take g.parameters g.locals) (parts_of c arguments)) result
            (arguments-live (take g.parameters g.locals) arguments is.1 k))
        named-live (Putchar e) h k =
            let (u, e') = number-of e h.0 h.1 in
            number-part c D low op.Putchar (part_of c e) u e' (λ d s. ((refl, refl, refl), refl, refl))
            (named-live e h.0 k)
        named-live Getchar h k = getchar-part c D low
        named-live (Exit e) h k =
            let (u, e') = number-of e h.0 h.1 in exit-part c D low (part_of c e) u e' (named-live e h.0 k)

        place-live : (place : Place) (of : ValueType) → IsPlace p f place of → PlaceNamesOnly known place
            → PlaceLive c D low (place_of c place) of
        place-live (LocalPlace v) of h k = local-known v of h k
        place-live (StaticPlace n) of h k =
            let (o, at, is) = some-and (slice_get p.objects n) _ h in (o.element, is.1)
        place-live (Target element e) of h k = (
          target-address c D low (part_of c e) element (part-type p f e h.0 ∙ h.1) (named-live e h.0 k),
          h.2,
        )
        place-live (Element element a i) of h k = (
          element-address c D low element (part_of c a).of (part_of c a) (part_of c i) refl
              (gives-parts Add a i (Pointer element) h.0 h.1 h.2) (named-live a h.0 k.0) (named-live i h.1 k.1),
          h.3,
        )

        address-live : (element : IntegerType) (place : Place) → IsElement place → IsPlace p f place (Integer element)
            → PlaceNamesOnly known place → Live (address_part c element (place_of c place))
        address-live element (LocalPlace v) is h k = absurd is
        address-live element (StaticPlace n) is h k = absurd is
        address-live element (Target t e) is h k =
            address-part c D low element t (target_of c (part_of c e))
            (target-address c D low (part_of c e) t (part-type p f e h.0 ∙ h.1) (named-live e h.0 k))
        address-live element (Element t a i) is h k =
            address-part c D low element t (element_of c t (part_of c a).of (part_of c a) (part_of c i))
            (element-address c D low t (part_of c a).of (part_of c a) (part_of c i) refl
            (gives-parts Add a i (Pointer t) h.0 h.1 h.2) (named-live a h.0 k.0) (named-live i h.1 k.1))

        arguments-live : (parameters : List Local) (arguments : Arguments) → AreArguments p f parameters arguments
            → ArgumentsNameOnly known arguments
            → AllByRecursion (LivePart c D low) (all_passed c parameters (parts_of c arguments))
        arguments-live [] NoMore h k = tt
        arguments-live (l ∷ ls) NoMore h k = tt
        arguments-live [] (Argument e es) h k = absurd h
        arguments-live (l ∷ ls) (Argument e es) h k = (
          passed-part c D low l.of (part_of c e)
              (subst (λ (s : ValueType). CanAssign l.of s) (sym (part-type p f e h.0)) h.1) (named-live e h.0 k.0),
          arguments-live ls es h.2 k.1,
        )

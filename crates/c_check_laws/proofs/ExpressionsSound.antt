-- Expressions that fit are well typed, where each name that is seen names what is there.
use Rattle.std.proofs.Common.{arith, ◌≡◌, refl, sym, ap, subst, ◌∙◌, ℕ, suc, Bool, true, false, List, [], ◌∷◌, length}
use Rattle.std.proofs.Common.{map}
use Rattle.std.specs.Prelude.{Option, Some, None, IfSome, IsSomeAnd, slice_get, ◌&&◌, ◌==◌, if◌then◌else◌}
use Rattle.std.specs.List.{AllByRecursion}
use Rattle.pcc_base.specs.declared.span.Span.{Span}
use Rattle.pcc_base.specs.declared.fault.Fault.{Fault}
use Rattle.pcc_base.specs.declared.fault.FaultKind.{FaultKind}
use Rattle.pcc_base.specs.declared.fault.FaultKind.TheVariants.{TypeRule, ArgumentCount, PointerUse}
use Rattle.c_syntax.specs.declared.expression.Identifier.{Identifier as Ident}
use Rattle.c_syntax.specs.declared.expression.Specifier.{Specifier}
use Rattle.c_syntax.specs.Expressions as trees
use Rattle.c_syntax.specs.Expressions.{Star, Expr, Exprs, NoExpr, OneExpr}
use Rattle.c_tree.specs.declared.expression.ArrayRef.TheVariants as refs
use Rattle.c_tree.specs.declared.types.IntegerType.{IntegerType}
use Rattle.c_tree.specs.declared.types.IntegerType.TheVariants.{Char, Int}
use Rattle.c_tree.specs.declared.types.ValueType.{ValueType}
use Rattle.c_tree.specs.declared.types.ValueType.TheVariants.{Void, Integer, Pointer}
use Rattle.c_tree.specs.Program as tree
use Rattle.c_tree.specs.Program.{int, value_type, Expression, Arguments, NoMore, Argument}
use Rattle.c_tree.specs.WellTyped.{IsInteger, CanAssign, AreArguments, IsAssigned, parameters_of}
use Rattle.c_typing.specs.Faults.{fault}
use Rattle.c_typing.specs.Library.{Entity, Library, Shared, OfFile, At, number_among}
use Rattle.c_typing.specs.Library as library
use Rattle.c_typing.specs.Types.{InCast, Specified, specified, pointed}
use Rattle.c_typing.specs.Checked.{Checked, Fits, fits, if_fits, pair, or_fails, Uses}
use Rattle.c_typing.specs.Names.{Numbers, Meaning, Local, LocalArray, Object, ObjectArray, Function, Signature, Scope}
use Rattle.c_typing.specs.Names.{Binding, binding_of, meaning_in, meaning_of, object_number, function_number}
use Rattle.c_typing.specs.Names.{library_signature}
use Rattle.c_typing.specs.Library.{same_name}
use Rattle.c_typing.specs.Rows.{assigned, unary_row, step_row, place_named, cast_row, binary_row, index_row}
use Rattle.c_typing.specs.Rows.{conditional_row, assignment_row}
use Rattle.c_typing.specs.Expressions.{specifiers_at, first_word, type_name, text_literal, named, Given, arguments_for}
use Rattle.c_typing.specs.Expressions.{text_entity, has_type, have_types, count_faults, library_call, call_of}
use Rattle.c_typing.specs.Expressions.{function_call, called, postfix_op, prefix_op, typed_expression, given}
use Rattle.c_typing.specs.Expressions.{typed_if_any}
use Rattle.c_check_laws.proofs.Setting.{Setting, Holds, Sound, sound_fits, sound_if, sound_pair, sound_both, sound_also}
use Rattle.c_check_laws.proofs.Setting.{sound_weaker, fits_first, fits_part}
use Rattle.c_check_laws.proofs.RowsSound.{Good, not_true, assigned_sound, names_where, unary_sound, step_sound, cast_sound}
use Rattle.c_check_laws.proofs.RowsSound.{binary_sound, index_sound, conditional_sound, assignment_sound}
use Rattle.c_check_laws.proofs.Entities.{number_is as equal_is}

pub is_some_on : {A : Type 0} (P Q : A → Type 0) (o : Option A) → IsSomeAnd o P → ((a : A) → P a → Q a) → IsSomeAnd o Q
is_some_on P Q None h f = absurd h
is_some_on P Q (Some a) h f = f a h

-- ---- the number of arguments

pub have_all : (types : List ValueType) (gs : List Given) → has_type (arguments_for types gs) ≡ true
    → have_types gs ≡ true
have_all types [] h = refl
have_all [] (g ∷ gs) h =
    let p = fits_first g.value (arguments_for [] gs) (λ e es. fits (Argument e es)) h in
    ap (λ b. b && have_types gs) p.0 ∙ have_all [] gs p.1
have_all (t ∷ ts) (g ∷ gs) h =
    let p = fits_first (if_fits g.value (assigned t g.at)) (arguments_for ts gs) (λ e es. fits (Argument e es)) h in
    ap (λ b. b && have_types gs) (fits_part g.value (assigned t g.at) p.0) ∙ have_all ts gs p.1

not_none : (f : Fault) → f ∷ [] ≡ [] → false ≡ true
not_none f e = grind arith

no_fault : (b c : Bool) (f : Fault) → b ≡ true → (if b then (if c then [] else f ∷ []) else []) ≡ [] → c ≡ true
no_fault true true f h e = refl
no_fault true false f h e = not_none f e
no_fault false c f h e = not_true h

counted : (at : Span) (types : List ValueType) (gs : List Given) → has_type (arguments_for types gs) ≡ true
    → count_faults at types gs ≡ [] → length types ≡ length gs
counted at types gs h e =
    equal_is (length types) (length gs)
    (no_fault (have_types gs) (length types == length gs) (fault ArgumentCount at) (have_all types gs h) e)

int_assigned : (t : ValueType) → CanAssign int t → IsInteger t
int_assigned Void h = absurd h
int_assigned (Integer t) h = tt
int_assigned (Pointer t) h = absurd h

lengths_differ : (n : ℕ) → suc n ≡ 0 → ⊥
lengths_differ n e = grind arith

lengths_differ_back : (n : ℕ) → 0 ≡ suc n → ⊥
lengths_differ_back n e = grind arith

pub lengths_less : (m n : ℕ) → suc m ≡ suc n → m ≡ n
lengths_less m n e = omega (arith, e)

-- nothing is said of the tree
abbrev pub Any : {A : Type 0} → A → Type 0
Any a = Unit {0}

module _ (w : Setting) (f : tree.Function) where
  -- ---- what names mean

  -- what a name means is there, of this type
  abbrev pub IsMeant : Meaning → Type 0
  IsMeant (Local v of) = IsSomeAnd (slice_get f.locals v) (λ l. l.of ≡ of)
  IsMeant (LocalArray k element) = IsSomeAnd (slice_get f.arrays k) (λ a. a.element ≡ element)
  IsMeant (Object e of) = w.stored e of 1
  IsMeant (ObjectArray e element) = (n : ℕ) × w.stored e element n
  IsMeant (Function e g) = w.called e g

  abbrev pub IsBound : Binding → Type 0
  IsBound b = IsMeant b.meaning

  -- each name that is seen names what is there, of its type
  pub record Sees (s : Scope) : Type 0 where
    pub holds : Holds w
    pub numbers : s.numbers ≡ w.numbers
    pub names : AllByRecursion IsBound s.names

  meant_by : (t : Bool) (b : Binding) (o : Option Binding) → IsMeant b.meaning → IfSome (meaning_in o) IsMeant
      → IfSome (meaning_in (if t then Some b else o)) IsMeant
  meant_by true b o h k = h
  meant_by false b o h k = k

  meaning_is : (bs : List Binding) (name : List ℕ) → AllByRecursion IsBound bs → IfSome (meaning_of bs name) IsMeant
  meaning_is [] name h = tt
  meaning_is (b ∷ bs) name h =
      meant_by (same_name b.name name) b (binding_of bs name) h.0 (meaning_is bs name h.1)

  pub object_there : (s : Scope) → Sees s → (e : Entity) (t : IntegerType) (n : ℕ) → w.stored e t n
      → w.present e → IsSomeAnd (slice_get w.program.objects (object_number s e))
      (λ o. (o.element ≡ t) × (length o.elements ≡ n))
  object_there s y e t n h k =
      subst (λ (i : Numbers). IsSomeAnd (slice_get w.program.objects (number_among i.objects e))
      (λ o. (o.element ≡ t) × (length o.elements ≡ n))) (sym y.numbers) (y.holds.objects e t n h k)

  function_there : (s : Scope) → Sees s → (e : Entity) (g : Signature) → w.called e g
      → w.present e → IsSomeAnd (slice_get w.program.functions (function_number s e))
      (λ h. (h.result ≡ g.result) × (map (λ (l : tree.Local). l.of) (parameters_of h) ≡ g.parameters))
  function_there s y e g h k =
      subst (λ (i : Numbers). IsSomeAnd (slice_get w.program.functions (number_among i.functions e))
      (λ h. (h.result ≡ g.result) × (map (λ (l : tree.Local). l.of) (parameters_of h) ≡ g.parameters))) (sym y.numbers)
      (y.holds.functions e g h k)

  named_sound : (s : Scope) (x : Ident) (o : Option Meaning) → (Sees s → IfSome o IsMeant)
      → Sound w (Sees s) (Good w f) (named s x o)
  named_sound s x None h = tt
  named_sound s x (Some (Local v of)) h = sound_fits w (Sees s) (Good w f) (tree.Read of (tree.LocalPlace v)) h
  named_sound s x (Some (LocalArray k element)) h =
      sound_fits w (Sees s) (Good w f) (tree.Start element (refs.Frame k)) h
  named_sound s x (Some (Object e of)) h = (
    (tt, tt),
    λ y kept.
        is_some_on (λ o. (o.element ≡ of) × (length o.elements ≡ 1))
        (λ o. (length o.elements ≡ 1) × (Integer o.element ≡ Integer of))
        (slice_get w.program.objects (object_number s e)) (object_there s y e of 1 (h y) kept.0)
        (λ o p. (p.1, ap Integer p.0)),
  )
  named_sound s x (Some (ObjectArray e element)) h = (
    (tt, tt),
    λ y kept.
        is_some_on (λ o. (o.element ≡ element) × (length o.elements ≡ (h y).0)) (λ o. o.element ≡ element)
        (slice_get w.program.objects (object_number s e)) (object_there s y e element (h y).0 (h y).1 kept.0)
        (λ o p. p.0),
  )
  named_sound s x (Some (Function e g)) h = tt

  -- ---- calls

  -- arguments for parameters of these types
  abbrev pub AreFor : List ValueType → Arguments → Type 0
  AreFor [] NoMore = Unit {0}
  AreFor [] (Argument e es) = ⊥
  AreFor (t ∷ ts) NoMore = ⊥
  AreFor (t ∷ ts) (Argument e es) = IsAssigned w.program f t e × AreFor ts es

  are_arguments : (ls : List tree.Local) (es : Arguments) → AreFor (map (λ (l : tree.Local). l.of) ls) es
      → AreArguments w.program f ls es
  are_arguments [] NoMore h = tt
  are_arguments [] (Argument e es) h = absurd h
  are_arguments (l ∷ ls) NoMore h = absurd h
  are_arguments (l ∷ ls) (Argument e es) h = (h.0.0, h.0.1, are_arguments ls es h.1)

  arguments_sound : (X : Type 0) (types : List ValueType) (gs : List Given)
      → AllByRecursion (λ (g : Given). Sound w X (Good w f) g.value) gs
      → Sound w X (λ es. length types ≡ length gs → AreFor types es) (arguments_for types gs)
  arguments_sound X [] [] h =
      let types : List ValueType = [] in
      let gs : List Given = [] in
      sound_fits w X (λ es. length types ≡ length gs → AreFor [] es) NoMore (λ x e. tt)
  arguments_sound X (t ∷ ts) [] h =
      let gs : List Given = [] in
      sound_fits w X (λ es. length (t ∷ ts) ≡ length gs → AreFor (t ∷ ts) es) NoMore
      (λ x e. absurd (lengths_differ (length ts) e))
  arguments_sound X [] (g ∷ gs) h =
      let types : List ValueType = [] in
      let Rest : Arguments → Type 0 = λ es. length types ≡ length gs → AreFor [] es in
      let All : Arguments → Type 0 = λ es. length types ≡ suc (length gs) → AreFor [] es in
      sound_both w X (Good w f) Rest All g.value (arguments_for [] gs) (λ e es. fits (Argument e es)) h.0
      (arguments_sound X [] gs h.1) (λ e es.
      sound_fits w (X × (Good w f e × Rest es)) All (Argument e es)
      (λ x k. absurd (lengths_differ_back (length gs) k)))
  arguments_sound X (t ∷ ts) (g ∷ gs) h =
      let One : Expression → Type 0 = IsAssigned w.program f t in
      let Rest : Arguments → Type 0 = λ es. length ts ≡ length gs → AreFor ts es in
      let All : Arguments → Type 0 = λ es. length (t ∷ ts) ≡ suc (length gs) → AreFor (t ∷ ts) es in
      sound_both w X One Rest All (if_fits g.value (assigned t g.at)) (arguments_for ts gs)
      (λ e es. fits (Argument e es))
      (sound_if w X (Good w f) One g.value (assigned t g.at) h.0 (λ e z.
      assigned_sound w f (X × Good w f e) t g.at e (λ x. x.1))) (arguments_sound X ts gs h.1) (λ e es.
      sound_fits w (X × (One e × Rest es)) All (Argument e es)
      (λ x k. (x.1.0, x.1.1 (lengths_less (length ts) (length gs) k))))

  library_sound : (X : Type 0) (at : Span) (l : library.LibraryFunction) (es : Arguments)
      → (X → AreFor (library_signature l).parameters es) → Sound w X (Good w f) (library_call at l es)
  library_sound X at library.Putchar NoMore h = tt
  library_sound X at library.Putchar (Argument e es) h =
      sound_fits w X (Good w f) (tree.Putchar e) (λ x. let p = h x in (p.0.0, int_assigned (value_type e) p.0.1))
  library_sound X at library.Getchar es h = sound_fits w X (Good w f) tree.Getchar (λ x. tt)
  library_sound X at library.Exit NoMore h = tt
  library_sound X at library.Exit (Argument e es) h =
      sound_fits w X (Good w f) (tree.Exit e) (λ x. let p = h x in (p.0.0, int_assigned (value_type e) p.0.1))

  there_sound : (X : Type 0) (s : Scope) (at : Span) (e : Entity) (g : Signature) (es : Arguments)
      → (X → Sees s) → (X → w.called e g) → (X → AreFor g.parameters es)
      → Sound w X (Good w f) (Fits (tree.Call g.result (function_number s e) es) (Uses e at ∷ []))
  there_sound X s at e g es m h k = (
    (tt, tt),
    λ x kept.
        is_some_on (λ q. (q.result ≡ g.result) × (map (λ (l : tree.Local). l.of) (parameters_of q) ≡ g.parameters))
        (λ q. (q.result ≡ g.result) × AreArguments w.program f (parameters_of q) es)
        (slice_get w.program.functions (function_number s e)) (function_there s (m x) e g (h x) kept.0)
        (λ q p. (p.0, are_arguments (parameters_of q) es (subst (λ ts. AreFor ts es) (sym p.1) (k x)))),
  )

  call_sound : (X : Type 0) (s : Scope) (at : Span) (e : Entity) (g : Signature) (es : Arguments)
      → (X → Sees s) → (X → w.called e g) → (X → AreFor g.parameters es)
      → Sound w X (Good w f) (call_of s at e g.result es)
  call_sound X s at (Library l) g es m h k =
      library_sound X at l es (λ x. subst (λ ts. AreFor ts es) ((m x).holds.library l g (h x)) (k x))
  call_sound X s at (Shared name) g es m h k = there_sound X s at (Shared name) g es m h k
  call_sound X s at (OfFile file name) g es m h k = there_sound X s at (OfFile file name) g es m h k
  call_sound X s at (At place) g es m h k = there_sound X s at (At place) g es m h k

  function_sound : (s : Scope) (at : Span) (e : Entity) (g : Signature) (gs : List Given) → (Sees s → w.called e g)
      → AllByRecursion (λ (x : Given). Sound w (Sees s) (Good w f) x.value) gs
      → Sound w (Sees s) (Good w f) (function_call s at e g gs)
  function_sound s at e g gs h all =
      let P : Arguments → Type 0 = λ es. length g.parameters ≡ length gs → AreFor g.parameters es in
      let c = arguments_for g.parameters gs in
      sound_also w (Sees s) (Good w f) (count_faults at g.parameters gs) (if_fits c (call_of s at e g.result)) (λ n.
      sound_if w (Sees s) P (Good w f) c (call_of s at e g.result) (arguments_sound (Sees s) g.parameters gs all)
      (λ es t. call_sound (Sees s × P es) s at e g es (λ x. x.0) (λ x. h x.0)
      (λ x. x.1 (counted at g.parameters gs t n))))

  called_sound : (s : Scope) (x : Ident) (gs : List Given) (o : Option Meaning) → (Sees s → IfSome o IsMeant)
      → AllByRecursion (λ (g : Given). Sound w (Sees s) (Good w f) g.value) gs
      → Sound w (Sees s) (Good w f) (called s x gs o)
  called_sound s x gs None h all = tt
  called_sound s x gs (Some (Local v of)) h all = tt
  called_sound s x gs (Some (LocalArray k element)) h all = tt
  called_sound s x gs (Some (Object e of)) h all = tt
  called_sound s x gs (Some (ObjectArray e element)) h all = tt
  called_sound s x gs (Some (Function e g)) h all = function_sound s x.at e g gs h all

  -- ---- expressions

  text_sound : (s : Scope) (pieces : List _) → Sound w (Sees s) (Good w f) (text_literal s pieces)
  text_sound s pieces = (
    (tt, tt),
    λ y kept.
        let e = text_entity pieces in
        is_some_on (λ o. (o.element ≡ Char) × (length o.elements ≡ _)) (λ o. o.element ≡ Char)
        (slice_get w.program.objects (object_number s e))
        (object_there s y e Char _ kept.0.0 (kept.0.1 refl)) (λ o p. p.0),
  )

  pub or_sound : {A : Type 0} (X : Type 0) (o : Option A) (kind : FaultKind) (at : Span)
      → Sound w X (λ a. o ≡ Some a) (or_fails o kind at)
  or_sound X None kind at = tt
  or_sound X (Some a) kind at = (tt, λ x k. refl)

  pub any_sound : {A : Type 0} (X : Type 0) (P : A → Type 0) (c : Checked A) → Sound w X P c → Sound w X Any c
  any_sound X P c h = sound_weaker w X X P Any c h (λ x. x) (λ a x p. tt)

  type_sound : (X : Type 0) (at : Span) (specifiers : List Specifier) (pointer : Option Star)
      → Sound w X Any (type_name at specifiers pointer)
  type_sound X at specifiers pointer =
      let o = specified InCast specifiers in
      sound_if w X (λ (said : Specified). o ≡ Some said) Any (specifiers_at InCast specifiers)
      (λ said. or_fails (pointed said.base pointer) PointerUse at) (or_sound X o TypeRule (first_word specifiers))
      (λ said z. any_sound (X × (o ≡ Some said)) (λ t. pointed said.base pointer ≡ Some t)
      (or_fails (pointed said.base pointer) PointerUse at)
      (or_sound (X × (o ≡ Some said)) (pointed said.base pointer) PointerUse at))

  mutual
    pub typed_sound : (s : Scope) (e : Expr) → Sound w (Sees s) (Good w f) (typed_expression s e)
    typed_sound s (trees.Identifier x) =
        named_sound s x (meaning_of s.names x.name) (λ y. meaning_is s.names x.name y.names)
    typed_sound s (trees.Number value at) = sound_fits w (Sees s) (Good w f) (tree.Constant Int value) (λ y. tt)
    typed_sound s (trees.Text pieces) = text_sound s pieces
    typed_sound s (trees.Parenthesised o e c) = typed_sound s e
    typed_sound s (trees.Call x o arguments commas c) =
        called_sound s x (given s arguments) (meaning_of s.names x.name) (λ y. meaning_is s.names x.name y.names)
        (given_sound s arguments)
    typed_sound s (trees.Index b o i c) =
        let G = Good w f in
        sound_both w (Sees s) G G G (typed_expression s b) (typed_expression s i) (index_row o) (typed_sound s b)
        (typed_sound s i) (λ x y. index_sound w f (Sees s × (G x × G y)) o x y (λ h. h.1.0) (λ h. h.1.1))
    typed_sound s (trees.Postfix b op at) =
        let G = Good w f in
        sound_if w (Sees s) G G (typed_expression s b) (λ e. step_row (postfix_op op) at (place_named e))
        (typed_sound s b) (λ e z. step_sound w f (Sees s × G e) (postfix_op op) at (place_named e)
        (names_where w f (Sees s × G e) e (λ h. h.1)))
    typed_sound s (trees.Prefix op at b) =
        let G = Good w f in
        sound_if w (Sees s) G G (typed_expression s b) (λ e. step_row (prefix_op op) at (place_named e))
        (typed_sound s b) (λ e z. step_sound w f (Sees s × G e) (prefix_op op) at (place_named e)
        (names_where w f (Sees s × G e) e (λ h. h.1)))
    typed_sound s (trees.Unary op at e) =
        let G = Good w f in
        sound_if w (Sees s) G G (typed_expression s e) (unary_row op at) (typed_sound s e)
        (λ x z. unary_sound w f (Sees s × G x) op at x (λ h. h.1))
    typed_sound s (trees.Cast o specifiers pointer c e) =
        let G = Good w f in
        sound_both w (Sees s) Any G G (type_name o specifiers pointer) (typed_expression s e) (cast_row o)
        (type_sound (Sees s) o specifiers pointer) (typed_sound s e)
        (λ t x. cast_sound w f (Sees s × (Any t × G x)) o t x (λ h. h.1.1))
    typed_sound s (trees.Binary op l at r) =
        let G = Good w f in
        sound_both w (Sees s) G G G (typed_expression s l) (typed_expression s r) (binary_row op at) (typed_sound s l)
        (typed_sound s r) (λ x y. binary_sound w f (Sees s × (G x × G y)) op at x y (λ h. h.1.0) (λ h. h.1.1))
    typed_sound s (trees.Conditional t q a k b) =
        let G = Good w f in
        let T : Expression × Expression → Type 0 = λ p. G p.0 × G p.1 in
        sound_both w (Sees s) G T G (typed_expression s t) (pair (typed_expression s a) (typed_expression s b))
        (λ x p. conditional_row q x p.0 p.1) (typed_sound s t)
        (sound_pair w (Sees s) (Sees s) G G (typed_expression s a) (typed_expression s b) (typed_sound s a)
        (typed_sound s b) (λ x y z. y))
        (λ x p. conditional_sound w f (Sees s × (G x × T p)) q x p.0 p.1 (λ h. h.1.0) (λ h. h.1.1.0) (λ h. h.1.1.1))
    typed_sound s (trees.Assignment op l at r) =
        let G = Good w f in
        sound_both w (Sees s) G G G (typed_expression s l) (typed_expression s r)
        (λ x e. assignment_row op at (place_named x) e) (typed_sound s l) (typed_sound s r)
        (λ x e. assignment_sound w f (Sees s × (G x × G e)) op at (place_named x) e
        (names_where w f (Sees s × (G x × G e)) x (λ h. h.1.0)) (λ h. h.1.1))

    pub given_sound : (s : Scope) (es : Exprs)
        → AllByRecursion (λ (g : Given). Sound w (Sees s) (Good w f) g.value) (given s es)
    given_sound s NoExpr = tt
    given_sound s (OneExpr e es) = (typed_sound s e, given_sound s es)

  -- an expression where there is one
  pub if_any_sound : (s : Scope) (o : Option Expr)
      → Sound w (Sees s) (λ x. IfSome x (Good w f)) (typed_if_any s o)
  if_any_sound s None = sound_fits w (Sees s) (λ x. IfSome x (Good w f)) None (λ y. tt)
  if_any_sound s (Some e) =
      sound_if w (Sees s) (Good w f) (λ x. IfSome x (Good w f)) (typed_expression s e) (λ x. fits (Some x))
      (typed_sound s e)
      (λ x z. sound_fits w (Sees s × Good w f x) (λ o. IfSome o (Good w f)) (Some x) (λ h. h.1))

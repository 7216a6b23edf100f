-- Declared items that fit are well typed, and what is seen behind them is there.
use Rattle.std.proofs.Common.{arith, ◌≡◌, refl, sym, ap, subst, ◌∙◌, ℕ, zero, suc, ◌≤◌, Bool, true, false, List, []}
use Rattle.std.proofs.Common.{◌∷◌}
use Rattle.std.proofs.Common.{◌++◌, length}
use Rattle.std.specs.Prelude.{Option, Some, None, IfSome, IsSomeAnd, slice_get, nat_le, if◌then◌else◌, All}
use Rattle.std.specs.Prelude.{ℤ, pos, negsuc, option_map}
use Rattle.std.specs.List.{AllByRecursion}
use Rattle.std.proofs.lemmas.List.{append_assoc}
use Rattle.std.proofs.lemmas.Bool.Decides.{nat_tests}
use Rattle.pcc_base.specs.declared.span.Span.{Span}
use Rattle.pcc_base.specs.declared.fault.Fault.{Fault}
use Rattle.pcc_base.specs.declared.fault.FaultKind.TheVariants.{ArraySize, TypeRule}
use Rattle.pcc_base.specs.declared.fault.FaultKind.TheVariants as kinds
use Rattle.pcc_base.proofs.Lists.{all-append}
use Rattle.c_syntax.specs.declared.expression.Identifier.{Identifier}
use Rattle.c_syntax.specs.declared.expression.TextPiece.{TextPiece}
use Rattle.c_syntax.specs.Expressions.{Expr, Exprs}
use Rattle.c_syntax.specs.Declarations as parts
use Rattle.c_syntax.specs.Declarations.{ItemTree, DeclarationTree, PartTree, InitialiserTree, Single, Braces}
use Rattle.c_syntax.specs.Declarations.{ValueTree}
use Rattle.c_syntax.specs.DeclarationTokens.{IsItem as IsItemTree, IsDeclaration}
use Rattle.c_tree.specs.declared.types.IntegerType.{IntegerType}
use Rattle.c_tree.specs.declared.types.IntegerType.TheVariants.{Char, Short, Int, UnsignedInt}
use Rattle.c_tree.specs.declared.types.ValueType.{ValueType}
use Rattle.c_tree.specs.declared.types.ValueType.TheVariants.{Void, Integer, Pointer}
use Rattle.c_tree.specs.Program as tree
use Rattle.c_tree.specs.Program.{Expression, Item, Initialiser, Elements, Text}
use Rattle.c_tree.specs.WellTyped.{IsAssigned, CanInitialise, IsItem}
use Rattle.c_typing.specs.Library.{Entity, At}
use Rattle.c_typing.specs.Types.{Position, Specified, specified, is_static, pointed, Declared, DeclaredValue}
use Rattle.c_typing.specs.Types.{DeclaredArray}
use Rattle.c_typing.specs.Types.{DeclaredFunction}
use Rattle.c_tree.specs.Store.{converted}
use Rattle.c_typing.specs.Checked.{Checked, Fits, Fails, Contents, Zeros, Values, fits, fails, noted, also, if_fits}
use Rattle.c_typing.specs.Checked.{value_in, Note, or_fails}
use Rattle.c_typing.specs.Constants.{constant_value}
use Rattle.c_typing.specs.Declarators.{ArrayValues, Letters, Listed, NoValues, array_values, other_values}
use Rattle.c_typing.specs.Declarators.{count_by_value, at_least_one, size_or, part_type, object_declared, ObjectType}
use Rattle.c_typing.specs.Declarators.{IntegerObject, PointerObject, ArrayObject, object_allowed}
use Rattle.c_typing.specs.Declarators.{type_faults}
use Rattle.c_typing.specs.Expressions.{first_word, first_token, first_piece, text_note, text_bytes, text_values}
use Rattle.c_typing.specs.Expressions.{text_entity, Given, given, typed_expression}
use Rattle.c_typing.specs.Initialisers.{values_for, scalar_values, letters_for, first_of, scalar_initialiser}
use Rattle.c_typing.specs.Initialisers.{elements_for, array_initialiser, constant_for, constants_for, constants_in}
use Rattle.c_typing.specs.Initialisers.{contents_for}
use Rattle.c_typing.specs.Names.{Scope, object_number}
use Rattle.c_typing.specs.Rows.{assigned}
use Rattle.c_typing.specs.Statements.{bound_item, after_item, after_items, after_specified, after_declaration}
use Rattle.c_typing.specs.Statements.{elements_of}
use Rattle.c_typing.specs.Statements.{size_of, stored, object_item, scope_faults, typed_item, typed_items}
use Rattle.c_typing.specs.Statements.{typed_declaration}
use Rattle.c_typing.specs.Statements.{sized_item}
use Rattle.c_check_laws.proofs.Setting.{Setting, Sound, sound_fits, sound_noted, sound_if, sound_both, sound_then}
use Rattle.c_check_laws.proofs.Setting.{sound_also}
use Rattle.c_check_laws.proofs.Setting.{sound_weaker, IsQuiet, IsKept, IsAt}
use Rattle.c_check_laws.proofs.RowsSound.{Good, assigned_sound}
use Rattle.c_check_laws.proofs.ExpressionsSound.{is_some_on, Sees, object_there, or_sound, Any, any_sound, typed_sound}
use Rattle.c_check_laws.proofs.ExpressionsSound.{given_sound}
use Rattle.c_check_laws.proofs.Growing.{Grows, grows_items, are_items}

-- what holds of each element, by places
pub all_by : {A : Type 0} (P : A → Type 0) (xs : List A) → AllByRecursion P xs → All P xs
all_by P [] h k d l = absurd (omega (arith, l))
all_by P (x ∷ xs) h zero d l = h.0
all_by P (x ∷ xs) h (suc k) d l = all_by P xs h.1 k d (omega (arith, l))

slot : {A : Type 0} (xs : List A) (x : A) (ys : List A) → slice_get ((xs ++ x ∷ []) ++ ys) (length xs) ≡ Some x
slot [] x ys = refl
slot (z ∷ xs) x ys = slot xs x ys

pub slot_in : {A : Type 0} (P : A → Type 0) (xs : List A) (x : A) (ys zs : List A) → zs ≡ (xs ++ x ∷ []) ++ ys → P x
    → IsSomeAnd (slice_get zs (length xs)) P
slot_in P xs x ys zs e h =
    subst (λ l. IsSomeAnd (slice_get l (length xs)) P) (sym e)
    (subst (λ o. IsSomeAnd o P) (sym (slot xs x ys)) h)

-- a function that has the locals and arrays of a scope, and maybe more
pub record Within (f : tree.Function) (s : Scope) : Type 0 where
  pub more_locals : List tree.Local
  pub locals : f.locals ≡ s.locals ++ more_locals
  pub more_arrays : List tree.LocalArray
  pub arrays : f.arrays ≡ s.arrays ++ more_arrays

-- it has those of an earlier scope
pub within_before : (f : tree.Function) (s t : Scope) → Grows s t → Within f t → Within f s
within_before f s t g h = record {
  more_locals = g.more_locals ++ h.more_locals;
  locals = h.locals ∙ ap (λ xs. xs ++ h.more_locals) g.locals
      ∙ append_assoc s.locals g.more_locals h.more_locals;
  more_arrays = g.more_arrays ++ h.more_arrays;
  arrays = h.arrays ∙ ap (λ xs. xs ++ h.more_arrays) g.arrays
      ∙ append_assoc s.arrays g.more_arrays h.more_arrays;
}

no_more : (l m n k : ℕ) → l ≡ suc m → k ≡ n → nat_le m n ≡ true → l ≤ suc k
no_more l m n k e c h = grind (arith, nat_tests)

less_more : (m n : ℕ) → m ≤ n → suc m ≤ suc n
less_more m n h = omega (arith, h)

no_less : (n : ℕ) → 0 ≤ n
no_less n = omega arith

module _ (w : Setting) where
  pub stored_sound : {A : Type 0} (X Z : Type 0) (e : Entity) (type : ObjectType) (value : A) (c : Checked Contents)
      → IsAt e → Sound w Z Any c → Sound w X (λ a. (a ≡ value) × w.stored e (elements_of type) (size_of type))
      (stored e type value c)
  stored_sound X Z e type value (Fits contents notes) q h = ((q, h.0), λ x kept. (refl, kept.0.0))
  stored_sound X Z e type value (Fails f fs) q h = tt

module _ (w : Setting) (f : tree.Function) where
  -- ---- what initialises an object

  pub values_sound : {A : Type 0} (X : Type 0) (P : A → Type 0) (row : Span → Expression → Checked A)
      → ((at : Span) (e : Expression) → Sound w (X × Good w f e) P (row at e)) → (room : ℕ) (gs : List Given)
      → AllByRecursion (λ (g : Given). Sound w X (Good w f) g.value) gs
      → Sound w X (λ xs. (length xs ≤ room) × AllByRecursion P xs) (values_for row room gs)
  values_sound X P row one room [] h =
      sound_fits w X (λ xs. (length xs ≤ room) × AllByRecursion P xs) [] (λ x. (no_less room, tt))
  values_sound {A} X P row one zero (g ∷ gs) h =
      let L : List A → Type 0 = λ xs. (length xs ≤ zero) × AllByRecursion P xs in
      let N : A → Type 0 = λ a. ⊥ in
      sound_both w X N L L (if_fits g.value (λ e. fails kinds.Initialiser g.at)) (values_for row zero gs)
      (λ x xs. fits (x ∷ xs))
      (sound_if w X (Good w f) N g.value (λ e. fails kinds.Initialiser g.at) h.0 (λ e z. tt))
      (values_sound X P row one zero gs h.1)
      (λ a xs. sound_fits w (X × (N a × L xs)) L (a ∷ xs) (λ x. absurd x.1.0))
  values_sound {A} X P row one (suc room) (g ∷ gs) h =
      let L : List A → Type 0 = λ xs. (length xs ≤ room) × AllByRecursion P xs in
      let M : List A → Type 0 = λ xs. (length xs ≤ suc room) × AllByRecursion P xs in
      sound_both w X P L M (if_fits g.value (row g.at)) (values_for row room gs) (λ x xs. fits (x ∷ xs))
      (sound_if w X (Good w f) P g.value (row g.at) h.0 (λ e z. one g.at e)) (values_sound X P row one room gs h.1)
      (λ a xs. sound_fits w (X × (P a × L xs)) M (a ∷ xs)
      (λ x. (less_more (length xs) room x.1.1.0, (x.1.0, x.1.1.1))))

  first_is : (P : Expression → Type 0) (es : List Expression) → AllByRecursion P es → IfSome (first_of es) P
  first_is P [] h = tt
  first_is P (e ∷ es) h = h.0

  pub scalar_sound : (s : Scope) (of : ValueType) (v : Option ValueTree)
      → Sound w (Sees w f s) (λ o. IfSome o (IsAssigned w.program f of)) (scalar_initialiser s of v)
  scalar_sound s of None = sound_fits w (Sees w f s) (λ o. IfSome o (IsAssigned w.program f of)) None (λ x. tt)
  scalar_sound s of (Some v) =
      let P = IsAssigned w.program f of in
      let L : List Expression → Type 0 = λ es. (length es ≤ 1) × AllByRecursion P es in
      let gs = given s (scalar_values v.value) in
      sound_if w (Sees w f s) L (λ o. IfSome o P) (values_for (assigned of) 1 gs) (λ es. fits (first_of es))
      (values_sound (Sees w f s) P (assigned of)
      (λ at e. assigned_sound w f (Sees w f s × Good w f e) of at e (λ x. x.1)) 1 gs
      (given_sound w f s (scalar_values v.value)))
      (λ es z. sound_fits w (Sees w f s × L es) (λ o. IfSome o P) (first_of es) (λ x. first_is P es x.1.1))

  -- such an initialiser is right for an array of this type
  abbrev pub Initialises : IntegerType → ℕ → Initialiser → Type 0
  Initialises element n i = (a : tree.LocalArray) → a.element ≡ element → a.count ≡ n → CanInitialise w.program f a i

  abbrev LettersAreChars : IntegerType → ArrayValues → Type 0
  LettersAreChars element (Letters pieces) = element ≡ Char
  LettersAreChars element (Listed es) = Unit {0}
  LettersAreChars element (NoValues e) = Unit {0}

  letters_by : {A : Type 0} (X : Type 0) (P : A → Type 0) (b : Bool) (value : A) (note : Note) (at : Span)
      → IsQuiet note → (X → b ≡ true → IsKept w note → P value)
      → Sound w X P (if b then Fits value (note ∷ []) else fails kinds.Initialiser at)
  letters_by X P true value note at q h = ((q, tt), λ x kept. h x refl kept.0)
  letters_by X P false value note at q h = tt

  letters_sound : (s : Scope) (n : ℕ) (pieces : List TextPiece)
      → Sound w (Sees w f s) (Initialises Char n)
      (letters_for n pieces (Text (object_number s (text_entity pieces))))
  letters_sound s n pieces =
      let size = length (text_bytes pieces) in
      let e = text_entity pieces in
      letters_by (Sees w f s) (Initialises Char n) (nat_le size n) (Text (object_number s e)) (text_note pieces)
      (first_piece pieces) tt (λ y b kept a t c.
      is_some_on (λ o. (o.element ≡ Char) × (length o.elements ≡ suc size))
      (λ o. (o.element ≡ a.element) × (length o.elements ≤ suc a.count))
      (slice_get w.program.objects (object_number s e))
      (object_there w f s y e Char (suc size) kept.0 (kept.1 refl))
      (λ o p. (p.0 ∙ sym t, no_more (length o.elements) size n a.count p.1 c b)))

  elements_sound : (s : Scope) (element : IntegerType) (n : ℕ) (values : ArrayValues) → LettersAreChars element values
      → Sound w (Sees w f s) (Initialises element n) (elements_for s element n values)
  elements_sound s element n (Letters pieces) h =
      subst (λ t. Sound w (Sees w f s) (Initialises t n) (elements_for s t n (Letters pieces))) (sym h)
      (letters_sound s n pieces)
  elements_sound s element n (Listed es) h =
      let P = IsAssigned w.program f (Integer element) in
      let L : List Expression → Type 0 = λ xs. (length xs ≤ n) × AllByRecursion P xs in
      sound_if w (Sees w f s) L (Initialises element n) (values_for (assigned (Integer element)) n (given s es))
      (λ xs. fits (Elements xs))
      (values_sound (Sees w f s) P (assigned (Integer element))
      (λ at e. assigned_sound w f (Sees w f s × Good w f e) (Integer element) at e (λ x. x.1)) n (given s es)
      (given_sound w f s es))
      (λ xs z. sound_fits w (Sees w f s × L xs) (Initialises element n) (Elements xs) (λ x a e c. (
        subst (λ m. length xs ≤ m) (sym c) x.1.0,
        all_by (IsAssigned w.program f (Integer a.element)) xs
            (subst (λ t. AllByRecursion (IsAssigned w.program f (Integer t)) xs) (sym e) x.1.1),
      )))
  elements_sound s element n (NoValues e) h =
      sound_if w (Sees w f s) (Good w f) (Initialises element n) (typed_expression s e)
      (λ x. fails kinds.Initialiser (first_token e)) (typed_sound w f s e) (λ x z. tt)

  no_letters : (element : IntegerType) (v : InitialiserTree) → LettersAreChars element (other_values v)
  no_letters element (Single e) = tt
  no_letters element (Braces o es commas trailing c) = tt

  char_letters : (values : ArrayValues) → LettersAreChars Char values
  char_letters (Letters pieces) = refl
  char_letters (Listed es) = tt
  char_letters (NoValues e) = tt

  letters_are_chars : (element : IntegerType) (v : InitialiserTree)
      → LettersAreChars element (array_values element v)
  letters_are_chars Char v = char_letters (array_values Char v)
  letters_are_chars Short v = no_letters Short v
  letters_are_chars Int v = no_letters Int v
  letters_are_chars UnsignedInt v = no_letters UnsignedInt v

  array_sound : (s : Scope) (element : IntegerType) (n : ℕ) (v : Option ValueTree)
      → Sound w (Sees w f s) (Initialises element n) (array_initialiser s element n v)
  array_sound s element n None =
      sound_fits w (Sees w f s) (Initialises element n) (Elements []) (λ x a e c.
      (no_less a.count, all_by (IsAssigned w.program f (Integer a.element)) [] tt))
  array_sound s element n (Some v) =
      elements_sound s element n (array_values element v.value) (letters_are_chars element v.value)

  constants_sound : (s : Scope) (of : IntegerType) (room : ℕ) (es : Exprs)
      → Sound w (Sees w f s) Any (constants_for s of room es)
  constants_sound s of room es =
      let L : List ℤ → Type 0 = λ ns. (length ns ≤ room) × AllByRecursion Any ns in
      sound_if w (Sees w f s) L Any (values_for (constant_for of) room (given s es)) (λ ns. fits (Values ns))
      (values_sound (Sees w f s) Any (constant_for of)
      (λ at e. let o = option_map (converted of) (constant_value e) in
      any_sound w f (Sees w f s × Good w f e) (λ a. o ≡ Some a) (constant_for of at e)
      (or_sound w f (Sees w f s × Good w f e) o kinds.Initialiser at)) room (given s es) (given_sound w f s es))
      (λ ns z. sound_fits w (Sees w f s × L ns) Any (Values ns) (λ x. tt))

  constants_in_sound : (s : Scope) (element : IntegerType) (n : ℕ) (values : ArrayValues)
      → Sound w (Sees w f s) Any (constants_in s element n values)
  constants_in_sound s element n (Letters pieces) =
      letters_by (Sees w f s) Any (nat_le (length (text_bytes pieces)) n) (Values (text_values pieces))
      (text_note pieces) (first_piece pieces) tt (λ y b kept. tt)
  constants_in_sound s element n (Listed es) = constants_sound s element n es
  constants_in_sound s element n (NoValues e) =
      sound_if w (Sees w f s) (Good w f) Any (typed_expression s e)
      (λ x. fails kinds.Initialiser (first_token e)) (typed_sound w f s e) (λ x z. tt)

  -- what an object of static storage holds at first defines no function
  pub contents_sound : (s : Scope) (type : ObjectType) (otherwise : Contents) (v : Option ValueTree)
      → Sound w (Sees w f s) Any (contents_for s type otherwise v)
  contents_sound s type otherwise None = sound_fits w (Sees w f s) Any otherwise (λ x. tt)
  contents_sound s (IntegerObject of) otherwise (Some v) = constants_sound s of 1 (scalar_values v.value)
  contents_sound s (PointerObject of) otherwise (Some v) = constants_sound s of 1 (scalar_values v.value)
  contents_sound s (ArrayObject element n) otherwise (Some v) =
      constants_in_sound s element n (array_values element v.value)

  -- ---- declarators

  at_least_sound : (X : Type 0) (o : Span) (v : Option ℤ) → Sound w X Any (at_least_one o v)
  at_least_sound X o None = tt
  at_least_sound X o (Some (negsuc n)) = tt
  at_least_sound X o (Some (pos zero)) = tt
  at_least_sound X o (Some (pos (suc n))) = sound_fits w X Any (suc n) (λ x. tt)

  pub size_sound : (s : Scope) (o : Span) (count : Option ℕ) (size : Option Expr)
      → Sound w (Sees w f s) Any (size_or s o count size)
  size_sound s o count None =
      any_sound w f (Sees w f s) (λ n. count ≡ Some n) (or_fails count ArraySize o)
      (or_sound w f (Sees w f s) count ArraySize o)
  size_sound s o count (Some e) =
      sound_if w (Sees w f s) (Good w f) Any (typed_expression s e) (λ x. at_least_one o (constant_value x))
      (typed_sound w f s e) (λ x z. at_least_sound (Sees w f s × Good w f x) o (constant_value x))

  part_sound : (s : Scope) (of : Option ValueType) (v : Option ValueTree) (p : PartTree)
      → Sound w (Sees w f s) Any (part_type s of v p)
  part_sound s of v parts.Plain = sound_fits w (Sees w f s) Any (DeclaredValue of) (λ x. tt)
  part_sound s of v (parts.Array a) =
      sound_if w (Sees w f s) Any Any (size_or s a.opening (count_by_value of v) a.size)
      (λ n. fits (DeclaredArray of n)) (size_sound s a.opening (count_by_value of v) a.size)
      (λ n z. sound_fits w (Sees w f s × Any n) Any (DeclaredArray of n) (λ x. tt))
  part_sound s of v (parts.Function ps) = sound_fits w (Sees w f s) Any (DeclaredFunction of []) (λ x. tt)

  pub declared_sound : (s : Scope) (said : Specified) (i : ItemTree)
      → Sound w (Sees w f s) Any (object_declared s said i.declarator i.initialiser)
  declared_sound s said i =
      part_sound s (pointed said.base i.declarator.pointer) i.initialiser i.declarator.part

  pub allowed_sound : (X : Type 0) (static : Bool) (at : Span) (d : Declared)
      → Sound w X Any (object_allowed static at d)
  allowed_sound X static at (DeclaredValue None) = tt
  allowed_sound X static at (DeclaredValue (Some Void)) = tt
  allowed_sound X static at (DeclaredValue (Some (Integer t))) = sound_fits w X Any (IntegerObject t) (λ x. tt)
  allowed_sound X true at (DeclaredValue (Some (Pointer t))) = tt
  allowed_sound X false at (DeclaredValue (Some (Pointer t))) = sound_fits w X Any (PointerObject t) (λ x. tt)
  allowed_sound X static at (DeclaredArray None n) = tt
  allowed_sound X static at (DeclaredArray (Some Void) n) = tt
  allowed_sound X static at (DeclaredArray (Some (Integer t)) n) = sound_fits w X Any (ArrayObject t n) (λ x. tt)
  allowed_sound X static at (DeclaredArray (Some (Pointer t)) n) = tt
  allowed_sound X static at (DeclaredFunction result ps) = tt

  -- ---- declared items

  -- items that are right, and what is seen behind them is there
  abbrev pub Items : Scope → List Item → Type 0
  Items t is = AllByRecursion (IsItem w.program f) is × Sees w f t

  none_are : (is : List Item) → is ≡ [] → AllByRecursion (IsItem w.program f) is
  none_are is e = subst (AllByRecursion (IsItem w.program f)) (sym e) tt

  static_item : (s t : Scope) (name : Identifier) (v : Option ValueTree) (type : ObjectType)
      → (Sees w f s → w.stored (At name.at) (elements_of type) (size_of type) → Sees w f t)
      → Sound w (Sees w f s) (Items t) (object_item true s t name v type)
  static_item s t name v type h =
      let S : List Item → Type 0 = λ is.
      (is ≡ []) × w.stored (At name.at) (elements_of type) (size_of type) in
      sound_weaker w (Sees w f s) (Sees w f s) S (Items t) (object_item true s t name v type)
      (stored_sound w (Sees w f s) (Sees w f t) (At name.at) type [] (contents_for t type Zeros v) tt
      (contents_sound t type Zeros v)) (λ x. x) (λ is y p. (none_are is p.0, h y p.1))

  scalar_item : (s t : Scope) (of : ValueType) (v : Option ValueTree) → (Sees w f s → Sees w f t)
      → IsSomeAnd (slice_get f.locals (length s.locals)) (λ l. l.of ≡ of)
      → Sound w (Sees w f s) (Items t) (if_fits (scalar_initialiser t of v)
      (λ e. fits (tree.Scalar s.next (length s.locals) e ∷ [])))
  scalar_item s t of v on there =
      let P : Option Expression → Type 0 = λ o. IfSome o (IsAssigned w.program f of) in
      sound_weaker w (Sees w f t) (Sees w f s) (Items t) (Items t) (if_fits (scalar_initialiser t of v)
      (λ e. fits (tree.Scalar s.next (length s.locals) e ∷ [])))
      (sound_if w (Sees w f t) P (Items t) (scalar_initialiser t of v)
      (λ e. fits (tree.Scalar s.next (length s.locals) e ∷ [])) (scalar_sound t of v)
      (λ o z. sound_fits w (Sees w f t × P o) (Items t) (tree.Scalar s.next (length s.locals) o ∷ [])
      (λ x. (
        (
          is_some_on (λ l. l.of ≡ of) (λ l. IfSome o (IsAssigned w.program f l.of))
              (slice_get f.locals (length s.locals)) there
              (λ l e. subst (λ q. IfSome o (IsAssigned w.program f q)) (sym e) x.1),
          tt,
        ),
        x.0,
      )))) on (λ is y p. p)

  array_item : (s t : Scope) (element : IntegerType) (n : ℕ) (v : Option ValueTree) → (Sees w f s → Sees w f t)
      → IsSomeAnd (slice_get f.arrays (length s.arrays)) (λ a. (a.element ≡ element) × (a.count ≡ n))
      → Sound w (Sees w f s) (Items t) (if_fits (array_initialiser t element n v)
      (λ i. fits (tree.Array s.next (length s.arrays) element i ∷ [])))
  array_item s t element n v on there =
      let make : Initialiser → Checked (List Item) = λ i.
      fits (tree.Array s.next (length s.arrays) element i ∷ []) in
      sound_weaker w (Sees w f t) (Sees w f s) (Items t) (Items t) (if_fits (array_initialiser t element n v) make)
      (sound_if w (Sees w f t) (Initialises element n) (Items t) (array_initialiser t element n v) make
      (array_sound t element n v)
      (λ i z. sound_fits w (Sees w f t × Initialises element n i) (Items t)
      (tree.Array s.next (length s.arrays) element i ∷ [])
      (λ x. (
        (
          is_some_on (λ a. (a.element ≡ element) × (a.count ≡ n))
              (λ a. (a.element ≡ element) × CanInitialise w.program f a i)
              (slice_get f.arrays (length s.arrays)) there (λ a p. (p.0, x.1 a p.0 p.1)),
          tt,
        ),
        x.0,
      )))) on (λ is y p. p)

  object_at : (static : Bool) (s : Scope) (name : Identifier) (v : Option ValueTree) (type : ObjectType)
      → Within f (bound_item static name (Some type) s)
      → Sound w (Sees w f s) (Items (bound_item static name (Some type) s))
      (object_item static s (bound_item static name (Some type) s) name v type)
  object_at true s name v (IntegerObject of) h =
      static_item s (bound_item true name (Some (IntegerObject of)) s) name v (IntegerObject of)
      (λ y k. record { holds = y.holds; numbers = y.numbers; names = (k, y.names) })
  object_at true s name v (PointerObject of) h = static_item s s name v (PointerObject of) (λ y k. y)
  object_at true s name v (ArrayObject element n) h =
      static_item s (bound_item true name (Some (ArrayObject element n)) s) name v (ArrayObject element n)
      (λ y k. record { holds = y.holds; numbers = y.numbers; names = ((n, k), y.names) })
  object_at false s name v (IntegerObject of) h =
      let t = bound_item false name (Some (IntegerObject of)) s in
      let l : tree.Local = record { name = name.name; of = Integer of } in
      let there = slot_in (λ (q : tree.Local). q.of ≡ Integer of) s.locals l h.more_locals f.locals h.locals refl in
      scalar_item s t (Integer of) v (λ y. record { holds = y.holds; numbers = y.numbers; names = (there, y.names) })
      there
  object_at false s name v (PointerObject of) h =
      let t = bound_item false name (Some (PointerObject of)) s in
      let l : tree.Local = record { name = name.name; of = Pointer of } in
      let there = slot_in (λ (q : tree.Local). q.of ≡ Pointer of) s.locals l h.more_locals f.locals h.locals refl in
      scalar_item s t (Pointer of) v (λ y. record { holds = y.holds; numbers = y.numbers; names = (there, y.names) })
      there
  object_at false s name v (ArrayObject element n) h =
      let t = bound_item false name (Some (ArrayObject element n)) s in
      let a : tree.LocalArray = record { name = name.name; element = element; count = n } in
      let P : tree.LocalArray → Type 0 = λ q. (q.element ≡ element) × (q.count ≡ n) in
      let there = slot_in P s.arrays a h.more_arrays f.arrays h.arrays (refl, refl) in
      array_item s t element n v (λ y. record {
        holds = y.holds;
        numbers = y.numbers;
        names = (
          is_some_on P (λ q. q.element ≡ element) (slice_get f.arrays (length s.arrays)) there (λ q p. p.0),
          y.names,
        );
      }) there

  object_sound : (static : Bool) (s t : Scope) (name : Identifier) (v : Option ValueTree) (type : ObjectType)
      → t ≡ bound_item static name (Some type) s → Within f t
      → Sound w (Sees w f s) (Items t) (object_item static s t name v type)
  object_sound static s t name v type e =
      subst (λ u. Within f u → Sound w (Sees w f s) (Items u) (object_item static s u name v type)) (sym e)
      (object_at static s name v type)

  item_by_type : (static : Bool) (s t : Scope) (name : Identifier) (v : Option ValueTree) (fs : List Fault)
      (ns : List Note) (x : Checked ObjectType) → Sound w (Sees w f s) Any x
      → t ≡ bound_item static name (value_in (noted ns x)) s → Within f t
      → Sound w (Sees w f s) (Items t) (also fs (if_fits x (object_item static s t name v)))
  item_by_type static s t name v fs ns (Fits type ms) q e h =
      let c = object_item static s t name v type in
      sound_also w (Sees w f s) (Items t) fs (noted ms c) (λ z.
      sound_noted w (Sees w f s) (Sees w f s) (Items t) ms c q.0 (λ y k. y) (object_sound static s t name v type e h))
  item_by_type static s t name v fs ns (Fails g gs) q e h =
      let c : Checked (List Item) = Fails g gs in
      sound_also w (Sees w f s) (Items t) fs c (λ z. tt)

  item_by : (static : Bool) (s t : Scope) (name : Identifier) (v : Option ValueTree) (fs : List Fault)
      (c : Checked Declared) → Sound w (Sees w f s) Any c
      → t ≡ bound_item static name (value_in (if_fits c (object_allowed static name.at))) s → Within f t
      → Sound w (Sees w f s) (Items t) (if_fits c (λ d.
      also fs (if_fits (object_allowed static name.at d) (object_item static s t name v))))
  item_by static s t name v fs (Fits d ns) q e h =
      let x = object_allowed static name.at d in
      sound_noted w (Sees w f s) (Sees w f s) (Items t) ns (also fs (if_fits x (object_item static s t name v))) q.0
      (λ y k. y)
      (item_by_type static s t name v fs ns x (allowed_sound (Sees w f s) static name.at d) e h)
  item_by static s t name v fs (Fails g gs) q e h = tt

  pub item_sound : (said : Specified) (i : ItemTree) (s : Scope) → Within f (after_item said i s)
      → Sound w (Sees w f s) (Items (after_item said i s)) (typed_item said i s)
  item_sound said i s h =
      let static = is_static said.storage in
      sound_also w (Sees w f s) (Items (after_item said i s)) (type_faults static said i.declarator)
      (sized_item said i s) (λ z.
      item_by static s (after_item said i s) i.declarator.name i.initialiser (scope_faults s i.declarator.name)
      (object_declared s said i.declarator i.initialiser) (declared_sound s said i) refl h)

  pub items_sound : (said : Specified) (is : List ItemTree) → AllByRecursion IsItemTree is → (s : Scope)
      → Within f (after_items said is s) → Sound w (Sees w f s) (Items (after_items said is s)) (typed_items said is s)
  items_sound said [] trees s h = sound_fits w (Sees w f s) (Items s) [] (λ y. (tt, y))
  items_sound said (i ∷ is) trees s h =
      let t = after_item said i s in
      let u = after_items said is t in
      sound_then w (Sees w f s) (Sees w f t) (Items t) (Items u) (Items u) (typed_item said i s) (typed_items said is t)
      (λ xs ys. fits (xs ++ ys)) (item_sound said i s (within_before f t u (grows_items said is trees.1 t) h))
      (items_sound said is trees.1 t h) (λ xs y p. p.1)
      (λ xs ys. sound_fits w (Sees w f s × (Items t xs × Items u ys)) (Items u) (xs ++ ys)
      (λ x. (all-append (IsItem w.program f) xs ys x.1.0.0 x.1.1.0, x.1.1.1)))

  specified_sound : (o : Option Specified) (at : Span) (is : List ItemTree) → AllByRecursion IsItemTree is → (s : Scope)
      → Within f (after_specified o is s) → Sound w (Sees w f s) (Items (after_specified o is s))
      (if_fits (or_fails o TypeRule at) (λ said. typed_items said is s))
  specified_sound None at is trees s h = tt
  specified_sound (Some said) at is trees s h =
      let t = after_items said is s in
      sound_noted w (Sees w f s) (Sees w f s) (Items t) [] (typed_items said is s) tt (λ y k. y)
      (items_sound said is trees s h)

  pub declaration_sound : (position : Position) (d : DeclarationTree) → IsDeclaration d → (s : Scope)
      → Within f (after_declaration position d s)
      → Sound w (Sees w f s) (Items (after_declaration position d s)) (typed_declaration position d s)
  declaration_sound position d is s h =
      specified_sound (specified position d.specifiers) (first_word d.specifiers) d.items (are_items d.items is.1) s h

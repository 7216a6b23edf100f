-- Functions of typed programs are well typed, and `main` is there.
use Rattle.std.proofs.Common.{arith, ◌≡◌, refl, sym, ap, subst, ◌∙◌, ℕ, zero, suc, ◌≤◌, Bool, true, false, List, []}
use Rattle.std.proofs.Common.{◌∷◌}
use Rattle.std.proofs.Common.{map, length, inl, inr}
use Rattle.std.specs.Prelude.{Option, Some, None, IsSomeAnd, slice_get, take, ◌||◌, All}
use Rattle.std.specs.Prelude.{unwrap_or, if◌then◌else◌}
use Rattle.std.specs.List.{AllByRecursion, list_any}
use Rattle.pcc_base.specs.declared.fault.Fault.{Fault}
use Rattle.pcc_base.specs.declared.fault.FaultKind.TheVariants.{NoBody}
use Rattle.c_syntax.specs.Grammar.{IsExternal}
use Rattle.c_syntax.specs.Statements.{ExternalTree}
use Rattle.c_tree.specs.declared.types.IntegerType.{IntegerType}
use Rattle.c_tree.specs.declared.types.ValueType.{ValueType}
use Rattle.c_tree.specs.declared.types.ValueType.TheVariants.{Void, Integer, Pointer}
use Rattle.c_tree.specs.Program as tree
use Rattle.c_tree.specs.Program.{int, Program, StaticObject}
use Rattle.c_tree.specs.WellTyped.{IsTypedFunction, IsMain, parameters_of}
use Rattle.c_typing.specs.Faults.{fault}
use Rattle.c_typing.specs.Library.{Entity, Library, Shared, OfFile, At, LibraryFunction, Putchar, Getchar, Exit}
use Rattle.c_typing.specs.Library.{same_entity}
use Rattle.c_typing.specs.Library.{number_among}
use Rattle.c_typing.specs.Types.{Declared, DeclaredValue, DeclaredArray, DeclaredFunction, same_type}
use Rattle.c_typing.specs.Checked.{Checked, Fits, Fails, Stored, Note, Uses, Stores, Defines, notes_in, value_in}
use Rattle.c_typing.specs.Checked.{faults_in}
use Rattle.c_typing.specs.Names.{Outer, Scope, Signature, Binding, library_signature, library_outer, library_names}
use Rattle.c_typing.specs.Names.{first_scope}
use Rattle.c_typing.specs.Numbering.{objects_noted, defines, is_defining, is_defined}
use Rattle.c_typing.specs.Numbering.{numbers_of, values_of, static_objects, is_function_of, is_there}
use Rattle.c_typing.specs.Numbering.{missing_at, missing}
use Rattle.c_typing.specs.Files.{typed_units}
use Rattle.c_typing.specs.Typed.{judged, no_numbers, numbers_in, checked, notes_of, main, is_main, program_with}
use Rattle.c_typing.specs.Typed.{Typed}
use Rattle.c_typing.proofs.CountUp.{IfFits}
use Rattle.c_typing.proofs.FilesAgree.{numbers_change_nothing}
use Rattle.c_check_laws.proofs.Setting.{Setting, Holds, IsAt, IsKept, Kept}
use Rattle.c_check_laws.proofs.RowsSound.{not_true}
use Rattle.c_check_laws.proofs.ExpressionsSound.{is_some_on}
use Rattle.c_check_laws.proofs.ItemsSound.{all_by}
use Rattle.c_check_laws.proofs.ParametersSound.{types_of}
use Rattle.c_check_laws.proofs.FilesSound.{function_type, declared_type, Matches, NotAt, IsObjectOf, after_units, Knows}
use Rattle.c_check_laws.proofs.FilesSound.{Backed}
use Rattle.c_check_laws.proofs.FilesSound.{Right, Whole, units_before, units_whole, IsOutside}
use Rattle.c_check_laws.proofs.Entities.{entity_is, entity_itself, entity_same, type_is, AreOne, IsIn, in_all, all_in}
use Rattle.c_check_laws.proofs.Entities.{one_type}
use Rattle.c_check_laws.proofs.OneTypeEach.{units_one}
use Rattle.c_check_laws.proofs.Finding.{any_is, any_in, none_of, in_objects, of_objects, object_found, defined_one}
use Rattle.c_check_laws.proofs.Finding.{filled_length}
use Rattle.c_check_laws.proofs.Finding.{function_found, matched, StaticOf, FunctionOf}
use Rattle.std.proofs.Common.{ℤ, pos}
use Rattle.c_tree.specs.declared.types.IntegerType.TheVariants.{Char, Short, Int, UnsignedInt}
use Rattle.c_tree.specs.Objects.{IsObject, data_object, data_objects}
use Rattle.c_tree.specs.Sizes.{bytes_of}
use Rattle.pcc_base.specs.Objects.{FitsBytes}
use Rattle.c_typing.specs.Checked.{Contents, Elsewhere, Zeros, Values}
use Rattle.c_typing.specs.Numbering.{values_or, first_ones, filled, static_object, defined_ones}
use Rattle.std.proofs.Common.{◌⊎◌}
use Rattle.std.proofs.lemmas.Bool.{and_parts}
use Rattle.c_check_laws.proofs.Finding.{of_filter, of_first}
use Rattle.c_check_laws.proofs.Places.{IsRight, AreRight}
use Rattle.c_check_laws.proofs.Ranged.{Fitting, zero_fits}

-- ---- types that are told apart

abbrev result_or : ValueType → Declared → ValueType
result_or t (DeclaredValue of) = t
result_or t (DeclaredArray of n) = t
result_or t (DeclaredFunction None ps) = t
result_or t (DeclaredFunction (Some r) ps) = r

abbrev parameters_or : Declared → List ValueType
parameters_or (DeclaredValue of) = []
parameters_or (DeclaredArray of n) = []
parameters_or (DeclaredFunction r ps) = ps

object_one : (d : Declared) (t u : IntegerType) (m n : ℕ) → IsObjectOf d t m → IsObjectOf d u n → (t ≡ u) × (m ≡ n)
object_one (DeclaredValue (Some (Integer v))) t u m n h k = (h.0 ∙ sym k.0, h.1 ∙ sym k.1)
object_one (DeclaredArray (Some (Integer v)) c) t u m n h k = (h.0 ∙ sym k.0, h.1 ∙ sym k.1)
object_one (DeclaredValue None) t u m n h k = absurd h
object_one (DeclaredValue (Some Void)) t u m n h k = absurd h
object_one (DeclaredValue (Some (Pointer v))) t u m n h k = absurd h
object_one (DeclaredArray None c) t u m n h k = absurd h
object_one (DeclaredArray (Some Void) c) t u m n h k = absurd h
object_one (DeclaredArray (Some (Pointer v)) c) t u m n h k = absurd h
object_one (DeclaredFunction r ps) t u m n h k = absurd h

not_both : (e : Entity) → IsAt e → NotAt e → ⊥
not_both (Library f) h k = h
not_both (Shared name) h k = h
not_both (OfFile file name) h k = h
not_both (At place) h k = k

-- two objects that are noted at one place are the same
abbrev pub ArePlaced : List Note → Type 0
ArePlaced ns = (x y : Stored) → IsIn (Stores x) ns → IsIn (Stores y) ns → IsAt x.entity → x.entity ≡ y.entity
    → (x.element ≡ y.element) × (x.count ≡ y.count)

-- ---- static objects

values_from : (t : IntegerType) (e : Entity) (os : List Stored)
    → ((o : Stored) → IsIn o os → o.entity ≡ e → Fitting t o.contents)
    → AllByRecursion (FitsBytes (bytes_of t)) (values_of os e)
values_from t e [] h = tt
values_from t e (o ∷ os) h =
    by_test (same_entity o.entity e) refl (values_from t e os (λ x i k. h x (inr i) k))
  where
    by_contents : (c : Contents) → Fitting t c → AllByRecursion (FitsBytes (bytes_of t)) (values_of os e)
        → AllByRecursion (FitsBytes (bytes_of t)) (values_or (values_of os e) c)
    by_contents Elsewhere k r = r
    by_contents Zeros k r = r
    by_contents (Values vs) k r = k

    by_test : (b : Bool) → same_entity o.entity e ≡ b → AllByRecursion (FitsBytes (bytes_of t)) (values_of os e)
        → AllByRecursion (FitsBytes (bytes_of t))
        (if b then values_or (values_of os e) o.contents else values_of os e)
    by_test true q r = by_contents o.contents (h o (inl refl) (entity_is o.entity e q)) r
    by_test false q r = r

filled_fits : (P : ℤ → Type 0) (n : ℕ) (vs : List ℤ) → P (pos 0) → AllByRecursion P vs
    → AllByRecursion P (filled n vs)
filled_fits P zero vs z h = tt
filled_fits P (suc n) [] z h = (z, filled_fits P n [] z tt)
filled_fits P (suc n) (v ∷ vs) z h = (h.0, filled_fits P n vs z h.1)

width_is : (t : IntegerType) → (bytes_of t ≡ 1) ⊎ (bytes_of t ≡ 2) ⊎ (bytes_of t ≡ 4)
width_is Char = inl refl
width_is Short = inr (inl refl)
width_is Int = inr (inr refl)
width_is UnsignedInt = inr (inr refl)

-- objects that agree, whose values fit and which have elements, are right
object_right : (all : List Stored) (y : Stored) → 1 ≤ y.count
    → ((o : Stored) → IsIn o all → o.entity ≡ y.entity → Fitting y.element o.contents)
    → IsObject (data_object (static_object all y))
object_right all y n h =
    let vs = values_of all y.entity in
    record {
      width = width_is y.element;
      some_elements = subst (λ k. 1 ≤ k) (sym (filled_length y.count vs)) n;
      elements = all_by (FitsBytes (bytes_of y.element)) (filled y.count vs)
          (filled_fits (FitsBytes (bytes_of y.element)) y.count vs (zero_fits y.element)
          (values_from y.element y.entity all h));
    }

objects_right : (all ds : List Stored) → AllByRecursion (λ d. IsIn d all) ds
    → ((d : Stored) → IsIn d all → IsObject (data_object (static_object all d)))
    → AllByRecursion IsObject (map data_object (map (static_object all) ds))
objects_right all [] h k = tt
objects_right all (d ∷ ds) h k = (k d h.0, objects_right all ds h.1 k)

all_defined : (all ds : List Stored) → ((d : Stored) → IsIn d ds → IsIn d all) → AllByRecursion (λ d. IsIn d all) ds
all_defined all [] h = tt
all_defined all (d ∷ ds) h = (h d (inl refl), all_defined all ds (λ x i. h x (inr i)))

-- ---- a program of notes

module _ (fs : List tree.Function) (ns : List Note) (outer : List Outer) where
  abbrev IsStored : Entity → IntegerType → ℕ → Type 0
  IsStored e t n = (x : Stored) × IsIn (Stores x) ns × (x.entity ≡ e) × (x.element ≡ t) × (x.count ≡ n)

  abbrev IsCalled : Entity → Signature → Type 0
  IsCalled e g = (o : Outer) × IsIn o outer × (o.entity ≡ e) × (o.type ≡ function_type g) × NotAt e

  abbrev pub setting_of : Setting
  setting_of = record {
    program = record {
      objects = static_objects ns;
      functions = fs;
      main = number_among (numbers_of ns).functions main;
    };
    numbers = numbers_of ns;
    stored = IsStored;
    called = IsCalled;
    present = λ e. is_there ns e ≡ true;
  }

  abbrev IsDeclared : Outer → Type 0
  IsDeclared o = IsIn o outer

  pub link_of : (o : Outer) (g : Signature) → IsIn o outer → NotAt o.entity → o.type ≡ function_type g
      → IsCalled o.entity g
  link_of o g i n e = (o, i, refl, e, n)

  abbrev IsBacked : Note → Type 0
  IsBacked = Backed setting_of IsDeclared link_of

  -- ---- the program has what is noted

  there_is : (b : Bool) (f : Fault) → (if b then None else Some f) ≡ None → b ≡ true
  there_is true f e = refl
  there_is false f e = grind arith

  or_left : (a b : Bool) → a ≡ true → (a || b) ≡ true
  or_left a b h = ap (λ x. x || b) h

  or_right : (a b : Bool) → b ≡ true → (a || b) ≡ true
  or_right true b h = refl
  or_right false b h = h

  only_left : (a b : Bool) → b ≡ false → (a || b) ≡ true → a ≡ true
  only_left true b e h = refl
  only_left false b e h = not_true (sym e ∙ h)

  defines_itself : (x : Stored) → defines x.contents ≡ true → is_defining x.entity x ≡ true
  defines_itself x h = ap (λ b. if b then defines x.contents else false) (entity_itself x.entity) ∙ h

  kept_note : missing ns ≡ [] → (n : Note) → IsIn n ns → IsKept setting_of n
  kept_note h (Uses e at) i = there_is (is_there ns e) (fault NoBody at) (none_of (missing_at ns) (Uses e at) ns h i)
  kept_note h (Stores x) i = (
    (x, i, refl, refl, refl),
    λ d.
        or_left (is_defined (objects_noted ns) x.entity) (list_any (is_function_of x.entity) ns)
        (any_in (is_defining x.entity) x (objects_noted ns) (in_objects x ns i) (defines_itself x d)),
  )
  kept_note h (Defines e d) i = tt

  kept_all : missing ns ≡ [] → (ms : List Note) → AllByRecursion (λ n. IsIn n ns) ms → Kept setting_of ms
  kept_all h [] k = tt
  kept_all h (m ∷ ms) k = (kept_note h m k.0, kept_all h ms k.1)

  -- ---- and under its number

  module _ (one : AreOne outer) (matches : Matches fs ns) (backed : AllByRecursion IsBacked ns)
      (placed : ArePlaced ns) where
    backed_at : (n : Note) → IsIn n ns → IsBacked n
    backed_at n i = in_all IsBacked n ns backed i

    agree_by : (x y : Stored) → IsIn (Stores x) ns → IsIn (Stores y) ns → x.entity ≡ y.entity → IsBacked (Stores x)
        → IsBacked (Stores y) → (x.element ≡ y.element) × (x.count ≡ y.count)
    agree_by x y i j e (inl a) b = placed x y i j a e
    agree_by x y i j e (inr (o, io, eo, to, away)) (inl a) = absurd (not_both y.entity a (subst NotAt e away))
    agree_by x y i j e (inr (o, io, eo, to, away)) (inr (q, iq, eq, tq, nq)) =
        object_one q.type x.element y.element x.count y.count
        (subst (λ d. IsObjectOf d x.element x.count) (one_type outer one o q io iq (eo ∙ e ∙ sym eq)) to) tq

    agree_stored : (x y : Stored) → IsIn (Stores x) ns → IsIn (Stores y) ns → x.entity ≡ y.entity
        → (x.element ≡ y.element) × (x.count ≡ y.count)
    agree_stored x y i j e = agree_by x y i j e (backed_at (Stores x) i) (backed_at (Stores y) j)

    -- static objects are right where their notes are
    pub objects_of : AreRight ns → AllByRecursion IsObject (map data_object (static_objects ns))
    objects_of right =
        let all = objects_noted ns in
        objects_right all (defined_ones all) (all_defined all (defined_ones all) (λ d i.
        of_first d all (of_filter (λ o. is_defined all o.entity) d (first_ones all) i))) (λ d i.
        let here = of_objects d ns i in
        object_right all d (in_all IsRight (Stores d) ns right here).0 (λ o j e.
        let there = of_objects o ns j in
        subst (λ t. Fitting t o.contents) (agree_stored o d there here e).0
        (in_all IsRight (Stores o) ns right there).1))

    -- a function is no object
    function_apart : (o : Outer) → IsIn o outer → NotAt o.entity → (r : Option ValueType) (ps : List ValueType)
        → o.type ≡ DeclaredFunction r ps → (x : Stored) → x.entity ≡ o.entity → IsBacked (Stores x) → ⊥
    function_apart o io away r ps to x e (inl a) = not_both x.entity a (subst NotAt (sym e) away)
    function_apart o io away r ps to x e (inr (q, iq, eq, tq, nq)) =
        subst (λ d. IsObjectOf d x.element x.count) (one_type outer one q o iq io (eq ∙ e) ∙ to) tq

    object_by : (e : Entity) (t : IntegerType) (n : ℕ) (b : Bool) → is_defined (objects_noted ns) e ≡ b
        → (b || list_any (is_function_of e) ns) ≡ true → IsStored e t n
        → IsSomeAnd (slice_get (static_objects ns) (number_among (numbers_of ns).objects e))
        (λ o. (o.element ≡ t) × (length o.elements ≡ n))
    object_by e t n true q h (x, ix, ex, tx, nx) =
        let all = objects_noted ns in
        is_some_on (StaticOf all e) (λ o. (o.element ≡ t) × (length o.elements ≡ n))
        (slice_get (static_objects ns) (number_among (numbers_of ns).objects e)) (object_found all e q) (λ o r.
        let a = agree_stored r.0 x (of_objects r.0 ns r.1) ix (r.2 ∙ sym ex) in (
          ap (λ (s : StaticObject). s.element) r.3 ∙ a.0 ∙ tx,
          ap (λ (s : StaticObject). length s.elements) r.3 ∙ filled_length r.0.count (values_of all r.0.entity)
              ∙ a.1 ∙ nx,
        ))
    object_by e t n false q h (x, ix, ex, tx, nx) =
        let r = any_is (is_function_of e) ns h in by_note r.0 r.1 r.2
      where
        by_note : (m : Note) → IsIn m ns → is_function_of e m ≡ true
            → IsSomeAnd (slice_get (static_objects ns) (number_among (numbers_of ns).objects e))
            (λ o. (o.element ≡ t) × (length o.elements ≡ n))
        by_note (Uses f at) i k = not_true k
        by_note (Stores y) i k = not_true k
        by_note (Defines f d) i k =
            let m = matched f d fs ns matches i in
            let b = backed_at (Defines f d) i in
            absurd (function_apart b.0 b.1 (subst NotAt (sym b.2) b.4) (Some m.0.result)
            (types_of (parameters_of m.0)) (b.3 ∙ m.1) x (ex ∙ sym (entity_is f e k) ∙ sym b.2)
            (backed_at (Stores x) ix))

    function_by : (e : Entity) (g : Signature) (b : Bool) → list_any (is_function_of e) ns ≡ b
        → (is_defined (objects_noted ns) e || list_any (is_function_of e) ns) ≡ true → IsCalled e g
        → IsSomeAnd (slice_get fs (number_among (numbers_of ns).functions e))
        (λ f. (f.result ≡ g.result) × (map (λ (l : tree.Local). l.of) (parameters_of f) ≡ g.parameters))
    function_by e g true q h (o, io, eo, to, away) =
        is_some_on (FunctionOf ns e)
        (λ f. (f.result ≡ g.result) × (map (λ (l : tree.Local). l.of) (parameters_of f) ≡ g.parameters))
        (slice_get fs (number_among (numbers_of ns).functions e)) (function_found e fs ns matches q) (λ f r.
        let b = backed_at (Defines e r.0) r.1 in
        let same : function_type g ≡ declared_type f =
        sym to ∙ one_type outer one o b.0 io b.1 (eo ∙ sym b.2) ∙ b.3 ∙ r.2 in
        (sym (ap (result_or g.result) same), sym (ap parameters_or same)))
    function_by e g false q h (o, io, eo, to, away) =
        let x = defined_one (objects_noted ns) e
        (only_left (is_defined (objects_noted ns) e) (list_any (is_function_of e) ns) q h) in
        absurd (function_apart o io (subst NotAt (sym eo) away) (Some g.result) g.parameters to x.0 (x.2 ∙ sym eo)
        (backed_at (Stores x.0) (of_objects x.0 ns x.1)))

    pub holds_of : ((l : LibraryFunction) → IsIn (library_outer l) outer) → Holds setting_of
    holds_of libraries = record {
      objects = λ e t n h k. object_by e t n (is_defined (objects_noted ns) e) refl k h;
      functions = λ e g h k. function_by e g (list_any (is_function_of e) ns) refl k h;
      library = λ l g (o, io, eo, to, away).
          ap parameters_or (sym to ∙ one_type outer one o (library_outer l) io (libraries l) eo);
    }

    -- ---- `main`

    main_called : (n : Note) → IsIn n ns → is_main n ≡ true → (g : Signature)
        → function_type g ≡ DeclaredFunction (Some int) [] → IsCalled main g × (is_there ns main ≡ true)
    main_called (Uses e at) i h g t = not_true h
    main_called (Stores x) i h g t = not_true h
    main_called (Defines e d) i h g t =
        let p = and_parts (same_entity e main) (same_type d (DeclaredFunction (Some int) [])) h in
        let b = backed_at (Defines e d) i in
        let m = entity_is e main p.0 in (
          (b.0, b.1, b.2 ∙ m, b.3 ∙ type_is d (DeclaredFunction (Some int) []) p.1 ∙ sym t, tt),
          or_right (is_defined (objects_noted ns) main) (list_any (is_function_of main) ns)
              (any_in (is_function_of main) (Defines e d) ns i p.0),
        )

    abbrev main_signature : Signature
    main_signature = record { result = int; parameters = [] }

    pub main_found : Holds setting_of → list_any is_main ns ≡ true
        → IsSomeAnd (slice_get fs (number_among (numbers_of ns).functions main))
        (λ f. (f.result ≡ int) × (types_of (parameters_of f) ≡ []))
    main_found h k =
        let r = any_is is_main ns k in
        let c = main_called r.0 r.1 r.2 main_signature refl in
        h.functions main main_signature c.0 c.1

all_get : {A : Type 0} (P Q : A → Type 0) (xs : List A) (k : ℕ) → AllByRecursion P xs → IsSomeAnd (slice_get xs k) Q
    → IsSomeAnd (slice_get xs k) (λ x. P x × Q x)
all_get P Q [] k h q = absurd q
all_get P Q (x ∷ xs) zero h q = (h.0, q)
all_get P Q (x ∷ xs) (suc k) h q = all_get P Q xs k h.1 q

no_parameters : (n : ℕ) (ls : List tree.Local) → n ≤ length ls → types_of (take n ls) ≡ [] → n ≡ 0
no_parameters zero ls h e = refl
no_parameters (suc n) [] h e = absurd (omega (arith, h))
no_parameters (suc n) (l ∷ ls) h e = grind arith

-- ---- files

module _ (units : List (List ExternalTree)) (fs : List tree.Function) (ns : List Note) where
  abbrev start : Scope
  start = first_scope (numbers_of ns)

  abbrev outer_of_all : List Outer
  outer_of_all = (after_units units start).outer

  abbrev here : Setting
  here = setting_of fs ns outer_of_all

  different : (k l : LibraryFunction) → same_entity (Library k) (Library l) ≡ false → Library k ≡ Library l → ⊥
  different k l h e = not_true (sym h ∙ entity_same (Library k) (Library l) e)

  start_one : AreOne start.outer
  start_one = (
    (λ e. absurd (different Putchar Getchar refl e), (λ e. absurd (different Putchar Exit refl e), tt)),
    ((λ e. absurd (different Getchar Exit refl e), tt), (tt, tt)),
  )

  pub files_right : AllByRecursion (AllByRecursion IsExternal) units → typed_units units start ≡ Fits fs ns
      → missing ns ≡ [] → list_any is_main ns ≡ true → ArePlaced ns
      → AllByRecursion (IsTypedFunction here.program) fs × IsSomeAnd (slice_get fs here.program.main) IsMain
      × (AreRight ns → AllByRecursion IsObject (data_objects here.program))
  files_right trees e m k placed =
      let D : Outer → Type 0 = λ o. IsIn o outer_of_all in
      let link = link_of fs ns outer_of_all in
      let t = after_units units start in
      let first = units_before here D link units trees start (all_in outer_of_all) in
      let libraries : (l : LibraryFunction) → IsIn (library_outer l) outer_of_all = library_in first in
      let names : AllByRecursion (λ (b : Binding). IsOutside here D link b.meaning) library_names =
      (library_known first Putchar, (library_known first Getchar, (library_known first Exit, tt))) in
      let whole = subst (Whole here D link (Knows here D link start) (Right here D link t)) e
      (units_whole here D link units trees start (all_in outer_of_all) names) in
      let one = subst (IfFits (λ (gs : List tree.Function). AreOne start.outer → AreOne outer_of_all)) e
      (units_one units trees start) start_one in
      let found = whole.1 (record { numbers = refl; names = names }) (kept_all fs ns outer_of_all m ns (all_in ns)) in
      let holds = holds_of fs ns outer_of_all one whole.0 found.0 placed libraries in
      let right = found.1.0 holds in (
        right,
        is_some_on (λ f. IsTypedFunction here.program f × ((f.result ≡ int) × (types_of (parameters_of f) ≡ [])))
            IsMain (slice_get fs here.program.main)
            (all_get (IsTypedFunction here.program) (λ f. (f.result ≡ int) × (types_of (parameters_of f) ≡ [])) fs
            here.program.main right (main_found fs ns outer_of_all one whole.0 found.0 placed holds k))
            (λ f p. (p.1.0, no_parameters f.parameters f.locals p.0.parameters p.1.1)),
        objects_of fs ns outer_of_all one whole.0 found.0 placed,
      )
    where
      library_in : AllByRecursion (λ o. IsIn o outer_of_all) start.outer → (l : LibraryFunction)
          → IsIn (library_outer l) outer_of_all
      library_in h Putchar = h.0
      library_in h Getchar = h.1.0
      library_in h Exit = h.1.1.0

      library_known : AllByRecursion (λ o. IsIn o outer_of_all) start.outer → (l : LibraryFunction)
          → here.called (Library l) (library_signature l) × NotAt (Library l)
      library_known h l = ((library_outer l, library_in h l, refl, refl, tt), tt)

-- what typed programs keep, but for the numbers of statements
abbrev pub IsRightProgram : Program → Type 0
IsRightProgram p = All (IsTypedFunction p) p.functions × IsSomeAnd (slice_get p.functions p.main) IsMain
    × All IsObject (data_objects p)

typed_by : (units : List (List ExternalTree)) (p : Program) → AllByRecursion (AllByRecursion IsExternal) units
    → Typed units p → ArePlaced (notes_of units) → AreRight (notes_of units) → (c : Checked (List tree.Function))
    → checked units ≡ c → IsRightProgram p
typed_by units p trees t placed right (Fits fs ns) e =
    let n : notes_of units ≡ ns = ap notes_in e in
    let m : numbers_in units ≡ numbers_of ns =
    ap numbers_of ((numbers_change_nothing no_numbers (numbers_in units) units).1 ∙ n) in
    let r = files_right units fs ns trees
    (sym (ap (λ k. judged k units) m) ∙ e) (sym (ap missing n) ∙ t.bodies)
    (sym (ap (list_any is_main) n) ∙ t.main) (subst ArePlaced n placed) in
    let q : Program = (setting_of fs ns (after_units units (first_scope (numbers_of ns))).outer).program in
    let same : q ≡ p =
    ap (λ o. unwrap_or o p) (sym (ap (λ k. program_with k ns (Some fs)) m)
    ∙ sym (ap (λ l. program_with (numbers_in units) l (Some fs)) n)
    ∙ sym (ap (λ d. program_with (numbers_in units) (notes_of units) (value_in d)) e) ∙ t.is) in
    subst IsRightProgram same
    (all_by (IsTypedFunction q) fs r.0, r.1, all_by IsObject (data_objects q) (r.2 (subst AreRight n right)))
typed_by units p trees t placed right (Fails f gs) e =
    let z : f ∷ gs ≡ [] = sym (ap faults_in e) ∙ t.no_fault in grind arith

-- Functions and objects of a typed program are right, and `main` is there, where what is noted is.
pub program_right : (units : List (List ExternalTree)) (p : Program)
    → AllByRecursion (AllByRecursion IsExternal) units → Typed units p → ArePlaced (notes_of units)
    → AreRight (notes_of units) → IsRightProgram p
program_right units p trees t placed right = typed_by units p trees t placed right (checked units) refl

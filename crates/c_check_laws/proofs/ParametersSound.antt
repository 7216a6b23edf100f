-- The parameters of a definition are the first locals of its function, of the types of its signature.
use Rattle.std.proofs.Common.{arith, ◌≡◌, refl, sym, ap, subst, ◌∙◌, ℕ, zero, suc, pos, negsuc, Bool, true, false, List}
use Rattle.std.proofs.Common.{[], ◌∷◌, ◌++◌, map}
use Rattle.std.specs.Prelude.{ℤ, Option, Some, None, IfSome, ◌==◌, if◌then◌else◌}
use Rattle.std.proofs.lemmas.List.{append-nil}
use Rattle.std.proofs.lemmas.Bool.Decides.{nat_tests}
use Rattle.pcc_base.specs.declared.span.Span.{Span}
use Rattle.pcc_base.specs.declared.fault.Fault.{Fault}
use Rattle.pcc_base.specs.declared.fault.FaultKind.TheVariants.{Redeclared, TypeRule}
use Rattle.c_syntax.specs.declared.expression.Identifier.{Identifier}
use Rattle.c_syntax.specs.Declarations.{ArrayTree, ParameterTree}
use Rattle.c_tree.specs.declared.types.ValueType.{ValueType}
use Rattle.c_tree.specs.declared.types.ValueType.TheVariants.{Void, Integer, Pointer}
use Rattle.c_tree.specs.Program as tree
use Rattle.c_tree.specs.Program.{Expression}
use Rattle.c_tree.specs.WellTyped.{IsScalar}
use Rattle.c_typing.specs.Faults.{fault}
use Rattle.c_typing.specs.Types.{InParameters, Specified, specified, pointed}
use Rattle.c_typing.specs.Checked.{Checked, Fits, Fails, Note, fits, noted, also, if_fits, both, value_in, or_fails}
use Rattle.c_typing.specs.Checked.{faults_in}
use Rattle.c_typing.specs.Constants.{has_constant_form, constant_value, number_given, no_calls, no_state}
use Rattle.c_tree.specs.Evaluation.{evaluate}
use Rattle.c_typing.specs.Declarators.{at_least_one, size_or, parameter_place, parameter_declared, parameter_allowed}
use Rattle.c_typing.specs.Declarators.{parameter_size, parameter_faults, typed_parameter, with_named, with_parameter}
use Rattle.c_typing.specs.Declarators.{with_parameters, typed_each}
use Rattle.c_typing.specs.Declarators.{parameter_with}
use Rattle.c_typing.specs.Expressions.{specifiers_at, first_word, has_type, typed_expression}
use Rattle.c_typing.specs.Library.{same_name}
use Rattle.c_typing.specs.Names.{Binding, binding_of, is_at_depth, is_declared_here, Scope, with_local}
use Rattle.c_typing.proofs.CountUp.{IfFits, holds_noted, holds_if, holds_also, Always, always}
use Rattle.c_check_laws.proofs.Setting.{Setting, Sound, sound_fits, sound_if, sound_both, sound_also}
use Rattle.c_check_laws.proofs.RowsSound.{not_true}
use Rattle.c_check_laws.proofs.ExpressionsSound.{Sees, Any, or_sound}
use Rattle.c_check_laws.proofs.Fixed.{Fixed, fixed}
use Rattle.c_check_laws.proofs.Growing.{Grows, grows_itself, grows_on, some_value}
use Rattle.c_check_laws.proofs.ItemsSound.{Within, within_before, slot_in, size_sound}

-- ---- sizes are the same in every scope

form_by : (b : Bool) (o : Option ℤ) (n : ℤ) → (if b then o else None) ≡ Some n → b ≡ true
form_by true o n e = refl
form_by false o n e = grind arith

pub has_form : (x : Expression) (n : ℤ) → constant_value x ≡ Some n → has_constant_form x ≡ true
has_form x n e = form_by (has_constant_form x) (number_given (evaluate no_calls x no_state)) n e

size_at : (x : Expression) (ns : List Note) (d : Checked Expression) (o : Span) (v : Option ℤ) → constant_value x ≡ v
    → (has_constant_form x ≡ true → d ≡ Fits x [])
    → IfFits (λ n. has_type (if_fits d (λ y. at_least_one o (constant_value y))) ≡ true) (noted ns (at_least_one o v))
size_at x ns d o None e h = tt
size_at x ns d o (Some (negsuc n)) e h = tt
size_at x ns d o (Some (pos zero)) e h = tt
size_at x ns d o (Some (pos (suc n))) e h =
    ap (λ z. has_type (if_fits z (λ y. at_least_one o (constant_value y)))) (h (has_form x (pos (suc n)) e))
    ∙ ap (λ v. has_type (noted [] (at_least_one o v))) e

size_by : (c d : Checked Expression) (o : Span) → Fixed c d
    → IfFits (λ n. has_type (if_fits d (λ y. at_least_one o (constant_value y))) ≡ true)
    (if_fits c (λ y. at_least_one o (constant_value y)))
size_by (Fits x ns) d o h = size_at x ns d o (constant_value x) refl h
size_by (Fails f fs) d o h = tt

size_fits : (s t : Scope) (a : Option ArrayTree)
    → IfFits (λ n. has_type (parameter_size t a) ≡ true) (parameter_size s a)
size_fits s t None = refl
size_fits s t (Some a) = of_array a.opening a.size
  where
    of_array : (o : Span) (size : Option _)
        → IfFits (λ n. has_type (size_or t o (Some 1) size) ≡ true) (size_or s o (Some 1) size)
    of_array o None = refl
    of_array o (Some e) = size_by (typed_expression s e) (typed_expression t e) o (fixed s t e)

-- ---- a parameter

value_noted : {A : Type 0} (ns : List Note) (c : Checked A) → value_in (noted ns c) ≡ value_in c
value_noted ns (Fits a ms) = refl
value_noted ns (Fails f fs) = refl

declared_value : (d : Checked ℕ) (b : Bool) (f : Fault) (c : Checked ValueType) → has_type d ≡ true → b ≡ false
    → value_in (noted [] (if_fits d (λ size. also (if b then f ∷ [] else []) c))) ≡ value_in c
declared_value (Fits n ns) true f c h e = grind arith
declared_value (Fits n ns) false f c h e = value_noted [] (noted ns c) ∙ value_noted ns c
declared_value (Fails x xs) b f c h e = not_true h

-- a parameter by its parts
abbrev parameter_of : Option Specified → Span → Checked ℕ → Scope → Bool → ParameterTree → Option Identifier
    → Checked ValueType
parameter_of o at c s definition p q =
    if_fits (or_fails o TypeRule at) (λ said.
    if_fits c (λ size.
    also (parameter_faults s definition p q)
    (parameter_allowed (parameter_place p q) (parameter_declared (pointed said.base p.pointer) p.array))))

-- In another scope, where its name isn't declared either, it has this type too.
abbrev IsParameterOf : Option Identifier → Option ValueType → ValueType → Type 0
IsParameterOf q v of = IsScalar of × ((name : Identifier) × (q ≡ Some name)) × (v ≡ Some of)

allowed_is : (ns : List Note) (at : Span) (o : Option ValueType) (q : Option Identifier) (name : Identifier)
    (v : Option ValueType) → q ≡ Some name → v ≡ value_in (parameter_allowed at o)
    → IfFits (IsParameterOf q v) (noted [] (noted ns (parameter_allowed at o)))
allowed_is ns at None q name v e h = tt
allowed_is ns at (Some Void) q name v e h = tt
allowed_is ns at (Some (Integer t)) q name v e h = (tt, (name, e), h)
allowed_is ns at (Some (Pointer t)) q name v e h = (tt, (name, e), h)

free_is : (s t : Scope) (said : Specified) (at : Span) (n : ℕ) (ns : List Note) (d : Checked ℕ) (p : ParameterTree)
    (name : Identifier) (b : Bool) → is_declared_here s name.name ≡ b → has_type d ≡ true
    → (is_declared_here s name.name ≡ false → is_declared_here t name.name ≡ false)
    → IfFits (IsParameterOf (Some name) (value_in (parameter_of (Some said) at d t false p (Some name))))
    (noted [] (noted ns (also (if b then fault Redeclared name.at ∷ [] else [])
    (parameter_allowed (parameter_place p (Some name)) (parameter_declared (pointed said.base p.pointer) p.array)))))
free_is s t said at n ns d p name true e h k = tt
free_is s t said at n ns d p name false e h k =
    let c = parameter_allowed name.at (parameter_declared (pointed said.base p.pointer) p.array) in
    allowed_is ns name.at (parameter_declared (pointed said.base p.pointer) p.array) (Some name) name
    (value_in (parameter_of (Some said) at d t false p (Some name))) refl
    (declared_value d (is_declared_here t name.name) (fault Redeclared name.at) c h (k e))

parameter_by : (s t : Scope) (o : Option Specified) (at : Span) (c d : Checked ℕ) (p : ParameterTree)
    (q : Option Identifier) → IfFits (λ n. has_type d ≡ true) c
    → ((name : List ℕ) → is_declared_here s name ≡ false → is_declared_here t name ≡ false)
    → IfFits (IsParameterOf q (value_in (parameter_of o at d t false p q))) (parameter_of o at c s true p q)
parameter_by s t None at c d p q h k = tt
parameter_by s t (Some said) at (Fits n ns) d p None h k = tt
parameter_by s t (Some said) at (Fits n ns) d p (Some name) h k =
    free_is s t said at n ns d p name (is_declared_here s name.name) refl h (k name.name)
parameter_by s t (Some said) at (Fails f fs) d p q h k = tt

-- that faults of the type are also judged beside its size takes and gives no type
same_fits : (x : Checked ValueType) (c : Checked ℕ) (fs : List Fault)
    → value_in (also (faults_in x) (if_fits c (λ size. also fs x))) ≡ value_in (if_fits c (λ size. also fs x))
same_fits (Fits of ms) c fs = refl
same_fits (Fails g gs) (Fits n ns) [] = refl
same_fits (Fails g gs) (Fits n ns) (f ∷ fs) = refl
same_fits (Fails g gs) (Fails x xs) fs = refl

specified_is : (s t : Scope) (o : Option Specified) (p : ParameterTree)
    → ((name : List ℕ) → is_declared_here s name ≡ false → is_declared_here t name ≡ false)
    → IfFits (IsParameterOf p.name (value_in (if_fits (or_fails o TypeRule (first_word p.specifiers)) (λ said.
    also (faults_in (parameter_with said.base p)) (if_fits (parameter_size t p.array) (λ size.
    also (parameter_faults t false p p.name) (parameter_with said.base p)))))))
    (if_fits (or_fails o TypeRule (first_word p.specifiers)) (λ said.
    also (faults_in (parameter_with said.base p)) (if_fits (parameter_size s p.array) (λ size.
    also (parameter_faults s true p p.name) (parameter_with said.base p)))))
specified_is s t None p h = tt
specified_is s t (Some said) p h =
    let x = parameter_with said.base p in
    let sized : Checked ValueType =
    if_fits (parameter_size s p.array) (λ size. also (parameter_faults s true p p.name) x) in
    let other : Checked ValueType =
    if_fits (parameter_size t p.array) (λ size. also (parameter_faults t false p p.name) x) in
    let whole : Checked ValueType = also (faults_in x) other in
    let same : value_in (noted [] other) ≡ value_in (noted [] whole) =
    value_noted [] other ∙ sym (same_fits x (parameter_size t p.array) (parameter_faults t false p p.name))
    ∙ sym (value_noted [] whole) in
    subst (λ v. IfFits (IsParameterOf p.name v) (noted [] (also (faults_in x) sized))) same
    (holds_noted (IsParameterOf p.name (value_in (noted [] other))) [] (also (faults_in x) sized)
    (holds_also (IsParameterOf p.name (value_in (noted [] other))) (faults_in x) sized
    (without_notes (IsParameterOf p.name (value_in (noted [] other))) sized
    (parameter_by s t (Some said) (first_word p.specifiers) (parameter_size s p.array) (parameter_size t p.array) p
    p.name (size_fits s t p.array) h))))
  where
    without_notes : (P : ValueType → Type 0) (c : Checked ValueType) → IfFits P (noted [] c) → IfFits P c
    without_notes P (Fits of ms) k = k
    without_notes P (Fails f fs) k = tt

parameter_is : (s t : Scope) (p : ParameterTree)
    → ((name : List ℕ) → is_declared_here s name ≡ false → is_declared_here t name ≡ false)
    → IfFits (IsParameterOf p.name (value_in (typed_parameter t false p))) (typed_parameter s true p)
parameter_is s t p h = specified_is s t (specified InParameters p.specifiers) p h

-- ---- scopes that are alike

-- what isn't declared in the first scope itself isn't in the second one
pub record Hides (s t : Scope) : Type 0 where
  pub depth : t.depth ≡ s.depth
  pub free : (name : List ℕ) → is_declared_here s name ≡ false → is_declared_here t name ≡ false

hides_itself : (s : Scope) → Hides s s
hides_itself s = record { depth = refl; free = λ name h. h }

hides_by : (m n : ℕ) (b : Bool) (x y : Binding) (o q : Option Binding) → n ≡ m → x.depth ≡ m → y.depth ≡ n
    → (is_at_depth m o ≡ false → is_at_depth n q ≡ false) → is_at_depth m (if b then Some x else o) ≡ false
    → is_at_depth n (if b then Some y else q) ≡ false
hides_by m n true x y o q e dx dy k h =
    ap (λ i. i == n) (dy ∙ e ∙ sym dx) ∙ ap (λ i. x.depth == i) e ∙ h
hides_by m n false x y o q e dx dy k h = k h

hides_local : (s t : Scope) (name : List ℕ) (of : ValueType) → Hides s t
    → Hides (with_local name of s) (with_local name of t)
hides_local s t name of h = record {
  depth = h.depth;
  free = λ other k. hides_by s.depth t.depth (same_name name other) _ _ (binding_of s.names other)
      (binding_of t.names other) h.depth refl refl (h.free other) k;
}

next_differs : (n : ℕ) → (n == suc n) ≡ false
next_differs n = grind (arith, nat_tests)

apart_by : (n : ℕ) (b : Bool) (x : Binding) (o : Option Binding) → x.depth ≡ n → is_at_depth (suc n) o ≡ false
    → is_at_depth (suc n) (if b then Some x else o) ≡ false
apart_by n true x o e h = ap (λ i. i == suc n) e ∙ next_differs n
apart_by n false x o e h = h

-- a scope with one more name, of the scope around it
pub hides_more : (s t : Scope) (n : ℕ) (x : Binding) → s.depth ≡ suc n → t.depth ≡ suc n → x.depth ≡ n
    → t.names ≡ x ∷ s.names → Hides s t
hides_more s t n x ds dt dx e = record {
  depth = dt ∙ sym ds;
  free = λ other k.
      ap (λ d. is_at_depth d (binding_of t.names other)) dt
      ∙ ap (λ (bs : List Binding). is_at_depth (suc n) (binding_of bs other)) e
      ∙ apart_by n (same_name x.name other) x (binding_of s.names other) dx
      (ap (λ d. is_at_depth d (binding_of s.names other)) (sym ds) ∙ k);
}

pub hides_same : (s t : Scope) → t.depth ≡ s.depth → t.names ≡ s.names → Hides s t
hides_same s t d e = record {
  depth = d;
  free = λ other k.
      ap (λ n. is_at_depth n (binding_of t.names other)) d
      ∙ ap (λ (bs : List Binding). is_at_depth s.depth (binding_of bs other)) e ∙ k;
}

-- ---- a list of parameters

abbrev pub types_of : List tree.Local → List ValueType
types_of ls = map (λ (l : tree.Local). l.of) ls

types_more : (ls : List tree.Local) (l : tree.Local) (ts : List ValueType)
    → types_of (ls ++ l ∷ []) ++ ts ≡ types_of ls ++ l.of ∷ ts
types_more [] l ts = refl
types_more (x ∷ xs) l ts = ap (λ ys. x.of ∷ ys) (types_more xs l ts)

pub holds_then : {A B C : Type 0} (P : A → Type 0) (Q : B → Type 0) (R : C → Type 0) (c : Checked A) (d : Checked B)
    (f : A → B → Checked C) → IfFits P c → ((a : A) → P a → IfFits Q d)
    → ((a : A) (b : B) → P a → Q b → IfFits R (f a b)) → IfFits R (both c d f)
holds_then P Q R (Fits a ns) (Fits b ms) f h k on = holds_noted R (ns ++ ms) (f a b) (on a b h (k a h))
holds_then P Q R (Fits a ns) (Fails g gs) f h k on = tt
holds_then P Q R (Fails x xs) d f h k on = tt

-- parameters of these types are locals behind those of the scope
abbrev AreIn : Scope → List ParameterTree → List ValueType → Type 0
AreIn t ps ts = types_of (with_parameters t ps).locals ≡ types_of t.locals ++ ts

-- the same type in both scopes
abbrev OfBoth : Scope → Scope → ParameterTree → ValueType → Type 0
OfBoth s t p of = IsParameterOf p.name (value_in (typed_parameter s false p)) of
    × IsParameterOf p.name (value_in (typed_parameter t false p)) of

fits_both : {A : Type 0} (P Q : A → Type 0) (c : Checked A) → IfFits P c → IfFits Q c → IfFits (λ a. P a × Q a) c
fits_both P Q (Fits a ns) h k = (h, k)
fits_both P Q (Fails f fs) h k = tt

local_with : (s : Scope) (p : ParameterTree) (name : Identifier) (of : ValueType) → p.name ≡ Some name
    → value_in (typed_parameter s false p) ≡ Some of → with_parameter s p ≡ with_local name.name of s
local_with s p name of e h =
    ap (λ q. with_named s q (value_in (typed_parameter s false p))) e ∙ ap (with_named s (Some name)) h

hides_next : (s t : Scope) (p : ParameterTree) (of : ValueType) → Hides s t → OfBoth s t p of
    → Hides (with_parameter s p) (with_parameter t p)
hides_next s t p of h k =
    let name = k.0.1.0 in
    let e = k.0.1.1 in
    subst (λ u. Hides u (with_parameter t p)) (sym (local_with s p name of e k.0.2))
    (subst (λ u. Hides (with_local name.name of s) u) (sym (local_with t p name of e k.1.2))
    (hides_local s t name.name of h))

pub each_is : (ps : List ParameterTree) (s t : Scope) → Hides s t
    → IfFits (AreIn t ps) (typed_each s true ps)
each_is [] s t h = sym (append-nil (types_of t.locals))
each_is (p ∷ ps) s t h =
    let u = with_parameter t p in
    holds_then (OfBoth s t p) (AreIn u ps) (AreIn t (p ∷ ps)) (typed_parameter s true p)
    (typed_each (with_parameter s p) true ps) (λ x xs. fits (x ∷ xs))
    (fits_both (IsParameterOf p.name (value_in (typed_parameter s false p)))
    (IsParameterOf p.name (value_in (typed_parameter t false p))) (typed_parameter s true p)
    (parameter_is s s p (λ name k. k)) (parameter_is s t p h.free))
    (λ of k. each_is ps (with_parameter s p) u (hides_next s t p of h k))
    (λ of ts k r. r
    ∙ ap (λ (v : Scope). types_of v.locals ++ ts) (local_with t p k.0.1.0 of k.0.1.1 k.1.2)
    ∙ types_more t.locals (record { name = k.0.1.0.name; of = of }) ts)

-- ---- the scope behind parameters

allowed_scalar : (at : Span) (o : Option ValueType) → IfFits IsScalar (parameter_allowed at o)
allowed_scalar at None = tt
allowed_scalar at (Some Void) = tt
allowed_scalar at (Some (Integer t)) = tt
allowed_scalar at (Some (Pointer t)) = tt

parameter_scalar : (s : Scope) (p : ParameterTree) → IfSome (value_in (typed_parameter s false p)) IsScalar
parameter_scalar s p =
    some_value IsScalar (typed_parameter s false p)
    (holds_if Always IsScalar (specifiers_at InParameters p.specifiers) (λ (said : Specified).
    also (faults_in (parameter_with said.base p)) (if_fits (parameter_size s p.array) (λ size.
    also (parameter_faults s false p p.name) (parameter_with said.base p))))
    (always (specifiers_at InParameters p.specifiers)) (λ said x.
    holds_also IsScalar (faults_in (parameter_with said.base p)) (if_fits (parameter_size s p.array) (λ size.
    also (parameter_faults s false p p.name) (parameter_with said.base p)))
    (holds_if Always IsScalar (parameter_size s p.array) (λ size.
    also (parameter_faults s false p p.name) (parameter_with said.base p)) (always (parameter_size s p.array))
    (λ size y. holds_also IsScalar (parameter_faults s false p p.name) (parameter_with said.base p)
    (allowed_scalar (parameter_place p p.name) (parameter_declared (pointed said.base p.pointer) p.array))))))

grows_named : (s : Scope) (q : Option Identifier) (o : Option ValueType) → IfSome o IsScalar
    → Grows s (with_named s q o)
grows_named s None None h = grows_itself s
grows_named s None (Some of) h = grows_itself s
grows_named s (Some name) None h = grows_itself s
grows_named s (Some name) (Some of) h = record {
  numbers = refl;
  outer = refl;
  more_locals = record { name = name.name; of = of } ∷ [];
  locals = refl;
  scalars = (h, tt);
  more_arrays = [];
  arrays = sym (append-nil s.arrays);
  counts = tt;
}

pub grows_parameters : (ps : List ParameterTree) (s : Scope) → Grows s (with_parameters s ps)
grows_parameters [] s = grows_itself s
grows_parameters (p ∷ ps) s =
    let t = with_parameter s p in
    grows_on s t (with_parameters t ps)
    (grows_named s p.name (value_in (typed_parameter s false p)) (parameter_scalar s p)) (grows_parameters ps t)

module _ (w : Setting) (f : tree.Function) where
  sees_named : (s : Scope) (q : Option Identifier) (o : Option ValueType) → Within f (with_named s q o) → Sees w f s
      → Sees w f (with_named s q o)
  sees_named s None None h y = y
  sees_named s None (Some of) h y = y
  sees_named s (Some name) None h y = y
  sees_named s (Some name) (Some of) h y =
      let l : tree.Local = record { name = name.name; of = of } in
      let there = slot_in (λ (q : tree.Local). q.of ≡ of) s.locals l h.more_locals f.locals h.locals refl in
      record { holds = y.holds; numbers = y.numbers; names = (there, y.names) }

  pub sees_parameters : (ps : List ParameterTree) (s : Scope) → Within f (with_parameters s ps) → Sees w f s
      → Sees w f (with_parameters s ps)
  sees_parameters [] s h y = y
  sees_parameters (p ∷ ps) s h y =
      let t = with_parameter s p in
      sees_parameters ps t h
      (sees_named s p.name (value_in (typed_parameter s false p))
      (within_before f t (with_parameters t ps) (grows_parameters ps t) h) y)

  -- nothing is said of the tree, wherever it stands
  pub any_where : {A : Type 0} (X Z : Type 0) (P : A → Type 0) (c : Checked A) → Sound w Z P c → Sound w X Any c
  any_where X Z P (Fits a ns) h = (h.0, λ x k. tt)
  any_where X Z P (Fails g gs) h = tt

  allowed_any : (X : Type 0) (at : Span) (o : Option ValueType) → Sound w X Any (parameter_allowed at o)
  allowed_any X at None = tt
  allowed_any X at (Some Void) = tt
  allowed_any X at (Some (Integer t)) = sound_fits w X Any (Integer t) (λ x. tt)
  allowed_any X at (Some (Pointer t)) = sound_fits w X Any (Pointer t) (λ x. tt)

  size_any : (X : Type 0) (s : Scope) (a : Option ArrayTree) → Sound w X Any (parameter_size s a)
  size_any X s None = sound_fits w {A = ℕ} X Any 1 (λ x. tt)
  size_any X s (Some a) =
      any_where X (Sees w f s) Any (size_or s a.opening (Some 1) a.size) (size_sound w f s a.opening (Some 1) a.size)

  parameter_any : (X : Type 0) (s : Scope) (definition : Bool) (p : ParameterTree)
      → Sound w X Any (typed_parameter s definition p)
  parameter_any X s definition p =
      let o = specified InParameters p.specifiers in
      sound_if w X (λ (said : Specified). o ≡ Some said) Any (specifiers_at InParameters p.specifiers) (λ said.
      also (faults_in (parameter_with said.base p)) (if_fits (parameter_size s p.array) (λ size.
      also (parameter_faults s definition p p.name) (parameter_with said.base p))))
      (or_sound w f X o TypeRule (first_word p.specifiers)) (λ said z.
      let Y = X × (o ≡ Some said) in
      let c = parameter_with said.base p in
      sound_also w Y Any (faults_in c)
      (if_fits (parameter_size s p.array) (λ size. also (parameter_faults s definition p p.name) c)) (λ e.
      sound_if w Y Any Any (parameter_size s p.array) (λ size. also (parameter_faults s definition p p.name) c)
      (size_any Y s p.array) (λ size z.
      sound_also w (Y × Any size) Any (parameter_faults s definition p p.name) c (λ e.
      allowed_any (Y × Any size) (parameter_place p p.name)
      (parameter_declared (pointed said.base p.pointer) p.array)))))

  -- parameters define nothing
  pub each_any : (X : Type 0) (s : Scope) (definition : Bool) (ps : List ParameterTree)
      → Sound w X Any (typed_each s definition ps)
  each_any X s definition [] = sound_fits w {A = List ValueType} X Any [] (λ x. tt)
  each_any X s definition (p ∷ ps) =
      sound_both w X Any Any Any (typed_parameter s definition p) (typed_each (with_parameter s p) definition ps)
      (λ t ts. fits (t ∷ ts)) (parameter_any X s definition p) (each_any X (with_parameter s p) definition ps)
      (λ t ts. sound_fits w {A = List ValueType} (X × (Any t × Any ts)) Any (t ∷ ts) (λ x. tt))

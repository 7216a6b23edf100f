-- The locals of a call that has its arguments, and what stays of a type where a call begins.
use Rattle.std.proofs.Common.{◌≡◌, ℕ, zero, suc, ◌≤◌, Bool, ℤ, List, [], ◌∷◌, ◌++◌, length}
use Rattle.std.proofs.Common.{map, take, Some, refl, sym, ap, ◌∙◌, subst, arith, length-append}
use Rattle.std.proofs.Common.{append_assoc, inl, inr}
use Rattle.std.proofs.lemmas.Bool.Decides.{eqb_tells}
use Rattle.std.specs.Prelude.{IsSomeAnd, slice_get, slice_set, if◌then◌else◌}
use Rattle.std.specs.List.{AllByRecursion, AllZip}
use Rattle.pcc_base.specs.Outcome.{ArrayName, Null, Static, InFrame, Unknown}
use Rattle.c_tree.specs.declared.types.IntegerType.{IntegerType}
use Rattle.c_tree.specs.declared.types.ValueType.{ValueType}
use Rattle.c_tree.specs.declared.types.ValueType.TheVariants.{Void, Integer, Pointer}
use Rattle.c_tree.specs.Program.{Function, Local, Program}
use Rattle.c_tree.specs.Store as source
use Rattle.c_tree.specs.Store.{Held, HoldsNumber, HoldsPointer, first_values, in_type}
use Rattle.c_tree.specs.Evaluation.{first_activation}
use Rattle.lower_lines.specs.Following.{all_as_passed, as_passed}
use Rattle.lower_lines.specs.Relation.{IsArrayOf, IsOf, function_of_depth}
use Rattle.lower_laws.specs.CallsLaws.{with_parameters}

-- ---- lists

pub all-take : {X : Type 0} (P : X → Type 0) (n : ℕ) (xs : List X) → AllByRecursion P xs → AllByRecursion P (take n xs)
all-take P zero xs all = tt
all-take P (suc n) [] all = tt
all-take P (suc n) (x ∷ xs) all = (all.0, all-take P n xs all.1)

pub get-take : {X : Type 0} (n : ℕ) (xs : List X) (j : ℕ) (x : X) → slice_get (take n xs) j ≡ Some x
    → slice_get xs j ≡ Some x
get-take zero xs j x e = absurd (cc)
get-take (suc n) [] j x e = absurd (cc)
get-take (suc n) (y ∷ xs) zero x e = e
get-take (suc n) (y ∷ xs) (suc j) x e = get-take n xs j x e

-- ---- the locals of a call with its arguments

-- locals from one on have these values
abbrev set_values : ℕ → List Local → List Held → List Held → List Held
set_values k [] xs vs = vs
set_values k (l ∷ ls) [] vs = vs
set_values k (l ∷ ls) (x ∷ xs) vs = set_values (suc k) ls xs (slice_set vs k (in_type l.of x))

parameters-set : (k : ℕ) (ls : List Local) (xs : List Held) (s : source.State) (vs : List Held) (arrays : List (List ℤ))
    (others : List source.Activation)
    → with_parameters k ls xs (record s { active = record { values = vs; arrays = arrays } ∷ others })
    ≡ record s { active = record { values = set_values k ls xs vs; arrays = arrays } ∷ others }
parameters-set k [] xs s vs arrays others = refl
parameters-set k (l ∷ ls) [] s vs arrays others = refl
parameters-set k (l ∷ ls) (x ∷ xs) s vs arrays others =
    parameters-set (suc k) ls xs s (slice_set vs k (in_type l.of x)) arrays others

set-seam : (front : List Held) (x y : Held) (vs : List Held)
    → slice_set (front ++ x ∷ vs) (length front) y ≡ (front ++ y ∷ []) ++ vs
set-seam [] x y vs = refl
set-seam (z ∷ front) x y vs = ap (λ (ws : List Held). z ∷ ws) (set-seam front x y vs)

-- they have the values of the arguments, and the rest are 0 or null
values-set : (R : ValueType → Held → Type 0) (front : List Held) (n : ℕ) (ls : List Local) (xs : List Held)
    → AllZip R (map (λ l. l.of) (take n ls)) xs
    → set_values (length front) (take n ls) xs (front ++ first_values ls []) ≡ front ++ first_values ls xs
values-set R front zero ls [] are = refl
values-set R front zero ls (x ∷ xs) are = absurd are
values-set R front (suc n) [] [] are = refl
values-set R front (suc n) [] (x ∷ xs) are = absurd are
values-set R front (suc n) (l ∷ ls) [] are = absurd are
values-set R front (suc n) (l ∷ ls) (x ∷ xs) are =
    let y = in_type l.of x in
    let longer : suc (length front) ≡ length (front ++ y ∷ []) = more front y in
    ap (set_values (suc (length front)) (take n ls) xs) (set-seam front (source.zero_of l.of) y (first_values ls []))
    ∙ ap (λ (k : ℕ). set_values k (take n ls) xs ((front ++ y ∷ []) ++ first_values ls [])) longer
    ∙ values-set R (front ++ y ∷ []) n ls xs are.1
    ∙ append_assoc front (y ∷ []) (first_values ls xs)
  where
    more : (vs : List Held) (v : Held) → suc (length vs) ≡ length (vs ++ v ∷ [])
    more vs v = omega (arith, length-append vs (v ∷ []))

-- a value is the same in a type where a null constant was a null pointer before
passed-once : (of : ValueType) (x : Held) → in_type of (as_passed of x) ≡ in_type of x
passed-once Void x = refl
passed-once (Integer t) x = refl
passed-once (Pointer t) (HoldsNumber n) = refl
passed-once (Pointer t) (HoldsPointer array index) = refl

passed-same : (n : ℕ) (ls : List Local) (xs : List Held)
    → first_values ls (all_as_passed (take n ls) xs) ≡ first_values ls xs
passed-same zero ls xs = refl
passed-same (suc n) [] xs = refl
passed-same (suc n) (l ∷ ls) [] = refl
passed-same (suc n) (l ∷ ls) (x ∷ xs) =
    ap (λ (v : Held). v ∷ first_values ls (all_as_passed (take n ls) xs)) (passed-once l.of x)
    ∙ ap (λ (vs : List Held). in_type l.of x ∷ vs) (passed-same n ls xs)

-- the state of a call that has taken its parameters
pub parameters-first : (R : ValueType → Held → Type 0) (f : Function) (xs : List Held) (s : source.State)
    → AllZip R (map (λ l. l.of) (take f.parameters f.locals)) (all_as_passed (take f.parameters f.locals) xs)
    → with_parameters 0 (take f.parameters f.locals) (all_as_passed (take f.parameters f.locals) xs)
    (record s { active = first_activation f [] ∷ s.active }) ≡ record s { active = first_activation f xs ∷ s.active }
parameters-first R f xs s are =
    let ls = take f.parameters f.locals in
    let ys = all_as_passed ls xs in
    parameters-set 0 ls ys s (first_values f.locals []) (map source.first_array f.arrays) s.active
    ∙ ap (λ (vs : List Held). record s {
      active = record { values = vs; arrays = map source.first_array f.arrays } ∷ s.active;
    }) (values-set R [] f.parameters f.locals ys are ∙ passed-same f.parameters f.locals xs)

-- ---- types where a call begins

some-depth : (P : Function → Type 0) (active : List Function) (depth : ℕ)
    → IsSomeAnd (function_of_depth active depth) P → depth ≤ length active
some-depth P [] depth h = absurd h
some-depth P (f ∷ active) depth h =
    elim (eqb_tells depth (suc (length active))) [
      | inl same ↦ omega (arith, same.1)
      | inr other ↦ omega (
        arith,
        some-depth P active depth (subst (λ (b : Bool).
            IsSomeAnd (if b then Some f else function_of_depth active depth) P) other.0 h),
      )
    ]

deeper : (P : Function → Type 0) (f : Function) (active : List Function) (depth : ℕ)
    → IsSomeAnd (function_of_depth active depth) P → IsSomeAnd (function_of_depth (f ∷ active) depth) P
deeper P f active depth h =
    elim (eqb_tells depth (suc (length active))) [
      | inl same ↦ absurd (omega (arith, same.1, some-depth P active depth h))
      | inr other ↦ subst (λ (b : Bool). IsSomeAnd (if b then Some f else function_of_depth active depth) P)
          (sym other.0) h
    ]

array-younger : (p : Program) (f : Function) (active : List Function) (t : IntegerType) (array : ArrayName)
    → IsArrayOf p active t array → IsArrayOf p (f ∷ active) t array
array-younger p f active t Null is = tt
array-younger p f active t (Static k) is = is
array-younger p f active t (InFrame k depth) is =
    deeper (λ g. IsSomeAnd (slice_get g.arrays k) (λ a. a.element ≡ t)) f active depth is
array-younger p f active t Unknown is = absurd is

of-younger : (p : Program) (f : Function) (active : List Function) (of : ValueType) (x : Held) → IsOf p active of x
    → IsOf p (f ∷ active) of x
of-younger p f active Void x is = tt
of-younger p f active (Integer t) (HoldsNumber n) is = tt
of-younger p f active (Integer t) (HoldsPointer array index) is = absurd is
of-younger p f active (Pointer t) (HoldsNumber n) is = absurd is
of-younger p f active (Pointer t) (HoldsPointer array index) is = array-younger p f active t array is

-- values that are passed are of their types in the call, too
pub all-younger : (p : Program) (f : Function) (active : List Function) (ofs : List ValueType) (xs : List Held)
    → AllZip (IsOf p active) ofs xs → AllZip (IsOf p (f ∷ active)) ofs xs
all-younger p f active [] [] are = tt
all-younger p f active [] (x ∷ xs) are = absurd are
all-younger p f active (of ∷ ofs) [] are = absurd are
all-younger p f active (of ∷ ofs) (x ∷ xs) are =
    (of-younger p f active of x are.0, all-younger p f active ofs xs are.1)

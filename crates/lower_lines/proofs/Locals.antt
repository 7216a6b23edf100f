-- The first variables of an active call hold its locals: what is read of one, and what stays and what changes.
use Rattle.std.proofs.Common.{◌≡◌, ◌≢◌, ℕ, zero, suc, ◌+◌, ◌<◌, ◌≤◌, pos, List, [], ◌∷◌, length}
use Rattle.std.proofs.Common.{Some, refl, sym, ap, ◌∙◌, subst, arith, length-append}
use Rattle.std.specs.Prelude.{slice_get, slice_set, slice_index_or}
use Rattle.std.specs.List.{AllZip}
use Rattle.std.proofs.lemmas.Option.{same_Some}
use Rattle.pcc_base.specs.Outcome.{Value}
use Rattle.c_tree.specs.declared.types.IntegerType.TheVariants.{Char, Short, Int, UnsignedInt}
use Rattle.c_tree.specs.declared.types.ValueType.{ValueType}
use Rattle.c_tree.specs.declared.types.ValueType.TheVariants.{Void, Integer, Pointer}
use Rattle.c_tree.specs.Program.{Local}
use Rattle.c_tree.specs.Store.{Held, HoldsNumber, HoldsPointer}
use Rattle.lower_lines.specs.Relation.{HoldLocals, HoldsAt}
use Rattle.lower_lines.specs.Shown.{first_variable, local_widths, type_widths}
use Rattle.lower_lines.specs.Variables.{typed_spot}

-- ---- lists

pub get-set_same : {X : Type 0} (xs : List X) (i : ℕ) (x : X) → i < length xs → slice_get (slice_set xs i x) i ≡ Some x
get-set_same [] i x h = absurd (omega (arith, h))
get-set_same (y ∷ xs) zero x h = refl
get-set_same (y ∷ xs) (suc i) x h = get-set_same xs i x (omega (arith, h))

pub get-set_other : {X : Type 0} (xs : List X) (i j : ℕ) (x : X) → j ≢ i
    → slice_get (slice_set xs i x) j ≡ slice_get xs j
get-set_other [] i j x ne = refl
get-set_other (y ∷ xs) zero zero x ne = absurd (ne refl)
get-set_other (y ∷ xs) zero (suc j) x ne = refl
get-set_other (y ∷ xs) (suc i) zero x ne = refl
get-set_other (y ∷ xs) (suc i) (suc j) x ne = get-set_other xs i j x (λ e. ne (ap suc e))

pub length-slice_set : {X : Type 0} (xs : List X) (i : ℕ) (x : X) → length (slice_set xs i x) ≡ length xs
length-slice_set [] i x = refl
length-slice_set (y ∷ xs) zero x = refl
length-slice_set (y ∷ xs) (suc i) x = ap suc (length-slice_set xs i x)

-- another element on the second side, of which the relation holds
pub zip-set : {A B : Type 0} (R : A → B → Type 0) (xs : List A) (ys : List B) (k : ℕ) (x : A) (y : B)
    → AllZip R xs ys → slice_get xs k ≡ Some x → R x y → AllZip R xs (slice_set ys k y)
zip-set R [] [] k x y h e r = tt
zip-set R [] (z ∷ ys) k x y h e r = absurd h
zip-set R (w ∷ xs) [] k x y h e r = absurd h
zip-set R (w ∷ xs) (z ∷ ys) zero x y h e r = (subst (λ v. R v y) (sym (same_Some w x e)) r, h.1)
zip-set R (w ∷ xs) (z ∷ ys) (suc k) x y h e r = (h.0, zip-set R xs ys k x y h.1 e r)

-- what the relation says of the elements at one place
pub zip-index : {A B : Type 0} (R : A → B → Type 0) (xs : List A) (ys : List B) (k : ℕ) (x : A) (d : B)
    → AllZip R xs ys → slice_get xs k ≡ Some x → R x (slice_index_or ys k d)
zip-index R [] [] k x d h e = absurd (cc)
zip-index R [] (z ∷ ys) k x d h e = absurd h
zip-index R (w ∷ xs) [] k x d h e = absurd h
zip-index R (w ∷ xs) (z ∷ ys) zero x d h e = subst (λ v. R v z) (same_Some w x e) h.0
zip-index R (w ∷ xs) (z ∷ ys) (suc k) x d h e = zip-index R xs ys k x d h.1 e

-- ---- values at spots

-- a value stays where the variables that hold it do
pub holds-kept : (vs ws : List Value) (of : ValueType) (v : ℕ) (x : Held)
    → ((j : ℕ) → v ≤ j → j < v + length (type_widths of) → slice_get ws j ≡ slice_get vs j)
    → HoldsAt vs of (typed_spot of v) x → HoldsAt ws of (typed_spot of v) x
holds-kept vs ws Void v x same h = tt
holds-kept vs ws (Integer Char) v (HoldsNumber n) same h = same v (omega arith) (omega arith) ∙ h
holds-kept vs ws (Integer Short) v (HoldsNumber n) same h = same v (omega arith) (omega arith) ∙ h
holds-kept vs ws (Integer Int) v (HoldsNumber n) same h = same v (omega arith) (omega arith) ∙ h
holds-kept vs ws (Integer UnsignedInt) v (HoldsNumber n) same h = same v (omega arith) (omega arith) ∙ h
holds-kept vs ws (Integer t) v (HoldsPointer array index) same h = absurd h
holds-kept vs ws (Pointer t) v (HoldsNumber n) same h = absurd h
holds-kept vs ws (Pointer t) v (HoldsPointer array index) same h =
    (same v (omega arith) (omega arith) ∙ h.0, same (suc v) (omega arith) (omega arith) ∙ h.1)

-- ---- locals

widths-more : (l : Local) (ls : List Local) → length (local_widths (l ∷ ls))
    ≡ length (type_widths l.of) + length (local_widths ls)
widths-more l ls = length-append (type_widths l.of) (local_widths ls)

-- locals stay where their variables do
pub locals-kept : (vs ws : List Value) (v : ℕ) (ls : List Local) (xs : List Held)
    → ((j : ℕ) → v ≤ j → j < v + length (local_widths ls) → slice_get ws j ≡ slice_get vs j)
    → HoldLocals vs v ls xs → HoldLocals ws v ls xs
locals-kept vs ws v [] [] same h = tt
locals-kept vs ws v [] (x ∷ xs) same h = absurd h
locals-kept vs ws v (l ∷ ls) [] same h = absurd h
locals-kept vs ws v (l ∷ ls) (x ∷ xs) same h =
    let more = widths-more l ls in (
      holds-kept vs ws l.of v x (λ j a b. same j a (omega (arith, a, b, more))) h.0,
      locals-kept vs ws (v + length (type_widths l.of)) ls xs
          (λ j a b. same j (omega (arith, a)) (omega (arith, a, b, more))) h.1,
    )

-- what is read of a local
pub local-held : (vs : List Value) (v : ℕ) (ls : List Local) (xs : List Held) (k : ℕ) (l : Local)
    → HoldLocals vs v ls xs → slice_get ls k ≡ Some l
    → HoldsAt vs l.of (typed_spot l.of (v + first_variable ls k)) (slice_index_or xs k (HoldsNumber (pos 0)))
local-held vs v [] [] k l h e = absurd (cc)
local-held vs v [] (x ∷ xs) k l h e = absurd h
local-held vs v (m ∷ ls) [] k l h e = absurd h
local-held vs v (m ∷ ls) (x ∷ xs) zero l h e =
    let plain : v ≡ v + 0 = omega arith in
    subst (λ (i : ℕ). HoldsAt vs l.of (typed_spot l.of i) x) plain
    (subst (λ (n : Local). HoldsAt vs n.of (typed_spot n.of v) x) (same_Some m l e) h.0)
local-held vs v (m ∷ ls) (x ∷ xs) (suc k) l h e =
    let sum : v + length (type_widths m.of) + first_variable ls k
    ≡ v + (length (type_widths m.of) + first_variable ls k) = omega arith in
    subst (λ (i : ℕ). HoldsAt vs l.of (typed_spot l.of i) (slice_index_or xs k (HoldsNumber (pos 0)))) sum
    (local-held vs (v + length (type_widths m.of)) ls xs k l h.1 e)

-- a local's variables are among those of locals
pub local-within : (ls : List Local) (k : ℕ) (l : Local) → slice_get ls k ≡ Some l
    → first_variable ls k + length (type_widths l.of) ≤ length (local_widths ls)
local-within [] k l e = absurd (cc)
local-within (m ∷ ls) zero l e =
    let more = widths-more m ls in
    let same = ap (λ (n : Local). length (type_widths n.of)) (same_Some m l e) in
    omega (arith, more, same)
local-within (m ∷ ls) (suc k) l e =
    let more = widths-more m ls in
    let rest = local-within ls k l e in
    omega (arith, more, rest)

-- a local gets another value where its variables do, and all others stay
pub local-set : (vs ws : List Value) (v : ℕ) (ls : List Local) (xs : List Held) (k : ℕ) (l : Local) (x : Held)
    → HoldLocals vs v ls xs → slice_get ls k ≡ Some l
    → HoldsAt ws l.of (typed_spot l.of (v + first_variable ls k)) x
    → ((j : ℕ) → j < v + first_variable ls k → slice_get ws j ≡ slice_get vs j)
    → ((j : ℕ) → v + first_variable ls k + length (type_widths l.of) ≤ j → slice_get ws j ≡ slice_get vs j)
    → HoldLocals ws v ls (slice_set xs k x)
local-set vs ws v [] [] k l x h e new below above = tt
local-set vs ws v [] (y ∷ xs) k l x h e new below above = absurd h
local-set vs ws v (m ∷ ls) [] k l x h e new below above = absurd h
local-set vs ws v (m ∷ ls) (y ∷ xs) zero l x h e new below above =
    let plain : v + 0 ≡ v = omega arith in
    let same = ap (λ (n : Local). length (type_widths n.of)) (same_Some m l e) in (
      subst (λ (n : Local). HoldsAt ws n.of (typed_spot n.of v) x) (sym (same_Some m l e))
          (subst (λ (i : ℕ). HoldsAt ws l.of (typed_spot l.of i) x) plain new),
      locals-kept vs ws (v + length (type_widths m.of)) ls xs (λ j a b. above j (omega (arith, a, same))) h.1,
    )
local-set vs ws v (m ∷ ls) (y ∷ xs) (suc k) l x h e new below above =
    let sum : v + (length (type_widths m.of) + first_variable ls k)
    ≡ v + length (type_widths m.of) + first_variable ls k = omega arith in (
      holds-kept vs ws m.of v y (λ j a b. below j (omega (arith, b))) h.0,
      local-set vs ws (v + length (type_widths m.of)) ls xs k l x h.1 e
          (subst (λ (i : ℕ). HoldsAt ws l.of (typed_spot l.of i) x) sum new)
          (λ j a. below j (omega (arith, a))) (λ j a. above j (omega (arith, a))),
    )

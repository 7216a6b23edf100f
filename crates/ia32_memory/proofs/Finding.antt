-- What an access finds, by where the first area stands that allows it.
use Rattle.std.specs.Prelude.{◌≡◌, ℕ, suc, ◌+◌, ◌-◌, ◌<◌, ◌≤◌, Bool, true, false, List, [], ◌∷◌, length, take, drop}
use Rattle.std.specs.Prelude.{get_or, Option, Some, None, is_some, option_map, position, if◌then◌else◌, refl}
use Rattle.std.proofs.Common.{sym, ◌∙◌, ap, subst, inl, inr, arith}
use Rattle.std.proofs.lemmas.Bool.{cases_Bool, and_parts, leb-true}
use Rattle.std.proofs.lemmas.Bool.Decides.{nat_tests}
use Rattle.std.proofs.lemmas.List.Quantifiers.{position-Some}
use Rattle.std.proofs.Math.ListN.{set}
use Rattle.ia32_insn.specs.State.{Area, has_bytes, code_at, bytes_at, may_store, with_bytes, stored}
use Rattle.ia32_memory.specs.declared.area.Access.{Access}
use Rattle.ia32_memory.specs.declared.area.Access.TheVariants.{Read, Write, Run}
use Rattle.ia32_memory.specs.Areas.{allows, permits}
use Rattle.ia32_memory.specs.Loans.{IsFound}

-- ---- the first item that passes a test

position-true : {X : Type 0} (p : X → Bool) (x : X) (xs : List X) → p x ≡ true → position p (x ∷ xs) ≡ Some 0
position-true p x xs e = rw e (grind (arith, nat_tests))

position-false : {X : Type 0} (p : X → Bool) (x : X) (xs : List X) → p x ≡ false → position p (x ∷ xs)
    ≡ option_map (λ i. suc i) (position p xs)
position-false p x xs e = rw e (grind (arith, nat_tests))

-- the first item that passes, as g sees it
abbrev pub picked : {X B : Type 0} → (X → Bool) → (X → B) → List X → Option B
picked p g [] = None
picked p g (x ∷ xs) = if p x then Some (g x) else picked p g xs

-- the place is one further in a list with one more item in front
some-map : (o : Option ℕ) (i : ℕ) → option_map (λ i. suc i) o ≡ Some i → (j : ℕ) × (i ≡ suc j) × (o ≡ Some j)
some-map None i e = absurd (cc)
some-map (Some j) i e = (j, cc, refl)

none-map : (o : Option ℕ) → option_map (λ i. suc i) o ≡ None → o ≡ None
none-map None e = refl
none-map (Some j) e = absurd (cc)

-- no item passes
pub picked-None : {X B : Type 0} (p : X → Bool) (g : X → B) (xs : List X) → position p xs ≡ None → picked p g xs ≡ None
picked-None p g [] e = refl
picked-None p g (x ∷ xs) e =
    elim (cases_Bool (p x)) [
      | inl t ↦ absurd (let f = position-true p x xs t in cc)
      | inr f ↦ rw f (picked-None p g xs (none-map (position p xs) (sym (position-false p x xs f) ∙ e)))
    ]

-- the item at this place is the first
pub picked-Some : {X B : Type 0} (p : X → Bool) (g : X → B) (xs : List X) (i : ℕ) (d : X) → position p xs ≡ Some i
    → picked p g xs ≡ Some (g (get_or xs i d))
picked-Some p g [] i d e = absurd (cc)
picked-Some p g (x ∷ xs) i d e =
    elim (cases_Bool (p x)) [
      | inl t ↦ (let first : i ≡ 0 = (let f = position-true p x xs t in cc) in rw (t, first) refl)
      | inr f ↦ (let later = some-map (position p xs) i (sym (position-false p x xs f) ∙ e) in
          rw (f, later.1) (picked-Some p g xs later.0 d later.2))
    ]

is_some-map : (o : Option ℕ) → is_some o ≡ is_some (option_map (λ i. suc i) o)
is_some-map None = refl
is_some-map (Some i) = refl

-- an item passes where there is a place
pub is_some-picked : {X B : Type 0} (p : X → Bool) (g : X → B) (xs : List X) → is_some (picked p g xs)
    ≡ is_some (position p xs)
is_some-picked p g [] = refl
is_some-picked p g (x ∷ xs) =
    elim (cases_Bool (p x)) [
      | inl t ↦ rw (position-true p x xs t, t) refl
      | inr f ↦ rw (position-false p x xs f, f) (is_some-picked p g xs ∙ is_some-map (position p xs))
    ]

-- ---- areas

-- an area that allows an access has its bytes
pub has-allowed : (access : Access) (address n : ℕ) (area : Area) → allows access address n area ≡ true
    → has_bytes area address n ≡ true
has-allowed Read address n area e = (and_parts _ _ e).1
has-allowed Write address n area e = (and_parts _ _ e).1
has-allowed Run address n area e = (and_parts _ _ e).1

-- what a search over a slice of these areas answers
pub told-of : (access : Access) (address n : ℕ) (areas slice : List Area) (o found : Option ℕ) → slice ≡ areas
    → o ≡ position (λ area. allows access address n area) slice → o ≡ found
    → position (λ area. allows access address n area) areas ≡ found
told-of access address n areas slice o found same told is =
    sym (ap (λ (l : List Area). position (λ area. allows access address n area) l) same) ∙ sym told ∙ is

-- the area at the place that was found
allowed-there : (access : Access) (address n i : ℕ) (areas : List Area) (area : Area)
    → position (λ area. allows access address n area) areas ≡ Some i → area ≡ get_or areas i area
    → (i < length areas) × (allows access address n area ≡ true)
allowed-there access address n i areas area place here =
    let at = position-Some (λ area. allows access address n area) areas i area place in
    (at.0, subst (λ (a : Area). allows access address n a ≡ true) (sym here) at.1)

-- ---- loads

bytes_at-picked : (n address : ℕ) (areas : List Area)
    → bytes_at n address areas
    ≡ picked (λ area. allows Read address n area) (λ area. take n (drop (address - area.address) area.bytes)) areas
bytes_at-picked n address [] = refl
bytes_at-picked n address (area ∷ areas) =
    ap (λ (o : Option (List ℕ)). if allows Read address n area then Some
    (take n (drop (address - area.address) area.bytes)) else o) (bytes_at-picked n address areas)

-- what the first area that may be read says
pub bytes_at-Some : (n address i : ℕ) (areas memory : List Area) (area : Area)
    → position (λ area. allows Read address n area) areas ≡ Some i → area ≡ get_or areas i area → areas ≡ memory
    → IsFound address n area memory
bytes_at-Some n address i areas memory area place here same =
    let at = allowed-there Read address n i areas area place here in (
      has-allowed Read address n area at.1,
      ap (λ (l : List Area). bytes_at n address l) (sym same) ∙ bytes_at-picked n address areas
          ∙ picked-Some _ (λ (area : Area). take n (drop (address - area.address) area.bytes)) areas i area place
          ∙ ap (λ (a : Area). Some (take n (drop (address - a.address) a.bytes))) (sym here),
    )

pub bytes_at-None : (n address : ℕ) (areas memory : List Area)
    → position (λ area. allows Read address n area) areas ≡ None → areas ≡ memory → bytes_at n address memory ≡ None
bytes_at-None n address areas memory none same = ap (λ (l : List Area). bytes_at n address l) (sym same)
    ∙ bytes_at-picked n address areas ∙ picked-None _ _ areas none

-- ---- fetches

code_at-picked : (address : ℕ) (areas : List Area)
    → code_at address areas ≡ picked (λ area. allows Run address 1 area)
    (λ area. drop (address - area.address) area.bytes) areas
code_at-picked address [] = refl
code_at-picked address (area ∷ areas) =
    ap (λ (o : Option (List ℕ)). if allows Run address 1 area then Some
    (drop (address - area.address) area.bytes) else o) (code_at-picked address areas)

-- what the first area that may be run says
pub code_at-Some : (address i : ℕ) (areas memory : List Area) (area : Area)
    → position (λ area. allows Run address 1 area) areas ≡ Some i → area ≡ get_or areas i area → areas ≡ memory
    → (area.runnable ≡ true) × (has_bytes area address 1 ≡ true)
    × (code_at address memory ≡ Some (drop (address - area.address) area.bytes))
code_at-Some address i areas memory area place here same =
    let at = allowed-there Run address 1 i areas area place here in (
      (and_parts _ _ at.1).0,
      has-allowed Run address 1 area at.1,
      ap (λ (l : List Area). code_at address l) (sym same) ∙ code_at-picked address areas
          ∙ picked-Some _ (λ (area : Area). drop (address - area.address) area.bytes) areas i area place
          ∙ ap (λ (a : Area). Some (drop (address - a.address) a.bytes)) (sym here),
    )

pub code_at-None : (address : ℕ) (areas memory : List Area) → position (λ area. allows Run address 1 area) areas ≡ None
    → areas ≡ memory → code_at address memory ≡ None
code_at-None address areas memory none same = ap (λ (l : List Area). code_at address l) (sym same)
    ∙ code_at-picked address areas ∙ picked-None _ _ areas none

-- ---- stores

may_store-picked : (n address : ℕ) (areas : List Area)
    → may_store n address areas ≡ is_some (picked (λ area. allows Write address n area) (λ area. area) areas)
may_store-picked n address [] = refl
may_store-picked n address (area ∷ areas) =
    elim (cases_Bool (allows Write address n area))
    [ inl t ↦ rw t refl | inr f ↦ rw f (may_store-picked n address areas) ]

pub may_store-found : (n address : ℕ) (areas : List Area) → may_store n address areas
    ≡ is_some (position (λ area. allows Write address n area) areas)
may_store-found n address areas = may_store-picked n address areas ∙ is_some-picked _ _ areas

-- no area allows the store
stored-no_place : (address : ℕ) (bytes : List ℕ) (areas : List Area)
    → position (λ area. allows Write address (length bytes) area) areas ≡ None → stored address bytes areas ≡ None
stored-no_place address bytes [] e = refl
stored-no_place address bytes (area ∷ areas) e =
    let test : Area → Bool = λ a. allows Write address (length bytes) a in
    elim (cases_Bool (test area)) [
      | inl t ↦ absurd (let f = position-true test area areas t in cc)
      | inr f ↦ rw (f, stored-no_place address bytes areas (none-map _ (sym (position-false test area areas f) ∙ e)))
          refl
    ]

pub stored-None : (address : ℕ) (bytes : List ℕ) (areas memory : List Area)
    → position (λ area. allows Write address (length bytes) area) areas ≡ None → areas ≡ memory
    → stored address bytes memory ≡ None
stored-None address bytes areas memory none same = ap (λ (l : List Area). stored address bytes l) (sym same)
    ∙ stored-no_place address bytes areas none

-- the area at the place has other bytes
stored-place : (address : ℕ) (bytes : List ℕ) (i : ℕ) (areas : List Area) (d : Area)
    → position (λ area. allows Write address (length bytes) area) areas ≡ Some i
    → stored address bytes areas ≡ Some (set areas i (with_bytes address bytes (get_or areas i d)))
stored-place address bytes i [] d e = absurd (cc)
stored-place address bytes i (area ∷ areas) d e =
    let test : Area → Bool = λ a. allows Write address (length bytes) a in
    elim (cases_Bool (test area)) [
      | inl t ↦ (let first : i ≡ 0 = (let f = position-true test area areas t in cc) in rw (t, first) refl)
      | inr f ↦ (let later = some-map _ i (sym (position-false test area areas f) ∙ e) in
          rw (f, later.1, stored-place address bytes later.0 areas d later.2) refl)
    ]

-- the area that may be written, and the memory after the store
pub stored-Some : (address i : ℕ) (bytes : List ℕ) (areas memory : List Area) (area new : Area)
    → position (λ area. allows Write address (length bytes) area) areas ≡ Some i → area ≡ get_or areas i area
    → areas ≡ memory → new ≡ with_bytes address bytes area → stored address bytes memory ≡ Some (set areas i new)
stored-Some address i bytes areas memory area new place here same is =
    ap (λ (l : List Area). stored address bytes l) (sym same) ∙ stored-place address bytes i areas area place
    ∙ ap (λ (a : Area). Some (set areas i (with_bytes address bytes a))) (sym here)
    ∙ ap (λ (a : Area). Some (set areas i a)) (sym is)

-- the area at the place has the bytes
pub has-place : (access : Access) (address n i : ℕ) (areas : List Area) (area : Area)
    → position (λ area. allows access address n area) areas ≡ Some i → area ≡ get_or areas i area
    → has_bytes area address n ≡ true
has-place access address n i areas area place here =
    has-allowed access address n area (allowed-there access address n i areas area place here).1

-- The number of an entity, by its place in a table.
use Rattle.std.proofs.Common.{◌≡◌, ◌||◌, ◌++◌, ℕ, suc, ◌+◌, ◌≤◌, List, [], ◌∷◌, map, length, Bool, true, false, cond}
use Rattle.std.proofs.Common.{not, Option}
use Rattle.std.proofs.Common.{Some, None, refl, ap, sym, ◌∙◌, arith, IfOk, if◌then◌else◌}
use Rattle.std.specs.Prelude.{Result, Ok, Err, position, nat_lt}
use Rattle.std.specs.List.{position_or_len}
use Rattle.std.proofs.lemmas.Grind.{common_steps}
use Rattle.std.specs.List.{list_any}
use Rattle.std.proofs.lemmas.List.{map_push}
use Rattle.indexmap.specs.IndexSet.{insert_key}
use Rattle.c_typing.specs.Library.{Entity, same_entity, number_among}
use Rattle.c_check_names.specs.declared.entity.Entity.{Entity as Stored}
use Rattle.c_check_names.specs.contracts.entity.EntityPartialEq.TheImpl.{ghosts}
use Rattle.c_check_names.specs.Views.{entity_of, with_entity}
use Rattle.c_check_names.proofs.Entities.{turned}

among : {K : Type 0} (test : K → Bool) (view : K → Entity) (ks : List K) (e : Entity)
    → ((k : K) → test k ≡ same_entity (view k) e) → position_or_len test ks ≡ number_among (map view ks) e
among test view [] e same = refl
among test view (k ∷ ks) e same = by (test k) refl (among test view ks e same)
  where
    by : (b : Bool) → test k ≡ b → position_or_len test ks ≡ number_among (map view ks) e
        → position_or_len test (k ∷ ks) ≡ number_among (map view (k ∷ ks)) e
    by true h ih = ap (λ b. cond (not b) (1 + position_or_len test ks) 0) h
        ∙ sym (ap (λ b. if b then 0 else suc (number_among (map view ks) e)) (sym (same k) ∙ h))
    by false h ih = ap (λ b. cond (not b) (1 + position_or_len test ks) 0) h ∙ grind (arith, ih)
        ∙ sym (ap (λ b. if b then 0 else suc (number_among (map view ks) e)) (sym (same k) ∙ h))

within : {K : Type 0} (test : K → Bool) (ks : List K) → position_or_len test ks ≤ length ks
within test [] = omega arith
within test (k ∷ ks) = by (test k) refl (within test ks)
  where
    by : (b : Bool) → test k ≡ b → position_or_len test ks ≤ length ks → position_or_len test (k ∷ ks) ≤ length (k ∷ ks)
    by true h ih = let z : position_or_len test (k ∷ ks) ≡ 0 =
        ap (λ b. cond (not b) (1 + position_or_len test ks) 0) h in omega (arith, z)
    by false h ih = let s : position_or_len test (k ∷ ks) ≡ 1 + position_or_len test ks =
        ap (λ b. cond (not b) (1 + position_or_len test ks) 0) h in omega (arith, s, ih)

at_place : (i n p : ℕ) → cond (nat_lt i n) (Some i) None ≡ Some p → p ≡ i
at_place i n p e = grind (arith, common_steps)

past_end : (i n : ℕ) → cond (nat_lt i n) (Some i) None ≡ None → n ≤ i
past_end i n e = grind (arith, common_steps)

IfOk-is : {E : Type 0} (r : Result ℕ E) (m n : ℕ) → m ≡ n → IfOk r (λ x. x ≡ m) → IfOk r (λ x. x ≡ n)
IfOk-is (Ok x) m n e h = h ∙ e
IfOk-is (Err y) m n e h = tt

module _ {K E : Type 0} (test : K → Bool) (view : K → Entity) (ks : List K) (e : Entity) where
  pub found_at : (entities : List Entity) (r : Option ℕ) (p : ℕ) (answer : Result ℕ E)
      → r ≡ position test ks → r ≡ Some p → entities ≡ map view ks → IfOk answer (λ n. n ≡ p)
      → ((k : K) → test k ≡ same_entity (view k) e) → IfOk answer (λ n. n ≡ number_among entities e)
  found_at entities r p answer is some all says same =
      IfOk-is answer p (number_among entities e) (at_place (position_or_len test ks) (length ks) p (sym is ∙ some)
      ∙ among test view ks e same ∙ ap (λ es. number_among es e) (sym all)) says

  pub found_nowhere : (entities : List Entity) (r : Option ℕ) (m : ℕ) (answer : Result ℕ E)
      → r ≡ position test ks → r ≡ None → m ≡ length ks → entities ≡ map view ks → IfOk answer (λ n. n ≡ m)
      → ((k : K) → test k ≡ same_entity (view k) e) → IfOk answer (λ n. n ≡ number_among entities e)
  found_nowhere entities r m answer is none size all says same =
      let past : length ks ≤ position_or_len test ks = past_end (position_or_len test ks) (length ks) (sym is ∙ none) in
      let at : m ≡ position_or_len test ks = omega (arith, size, past, within test ks) in
      IfOk-is answer m (number_among entities e)
      (at ∙ among test view ks e same ∙ ap (λ es. number_among es e) (sym all)) says

-- ---- one more

listed : (a : Stored) (ks : List Stored) → list_any (ghosts.eq a) ks
    ≡ list_any (λ x. same_entity x (entity_of a)) (map entity_of ks)
listed a [] = refl
listed a (k ∷ ks) = ap (λ b. b || list_any (ghosts.eq a) ks) (turned a k)
    ∙ ap (λ b. same_entity (entity_of k) (entity_of a) || b) (listed a ks)

-- an entity is put behind those that have numbers, unless it is among them
pub with_one : (ks new : List Stored) (k : Stored) → new ≡ insert_key ghosts.eq ks k
    → map entity_of new ≡ with_entity (map entity_of ks) (entity_of k)
with_one ks new k is = ap (map entity_of) is ∙ by (list_any (ghosts.eq k) ks)
    ∙ ap (λ b. if b then map entity_of ks else map entity_of ks ++ entity_of k ∷ []) (listed k ks)
  where
    by : (b : Bool) → map entity_of (if b then ks else ks ++ k ∷ [])
        ≡ (if b then map entity_of ks else map entity_of ks ++ entity_of k ∷ [])
    by true = refl
    by false = map_push entity_of ks k

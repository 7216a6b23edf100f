-- Tables of things behind one more.
use Rattle.std.proofs.Common.{◌≡◌, ℤ, List, [], ◌∷◌, ◌++◌, Bool, true, false, ◌||◌, Some, refl, ap, sym, ◌∙◌}
use Rattle.std.proofs.Common.{true≢false, if◌then◌else◌}
use Rattle.std.specs.Prelude.{option_map}
use Rattle.std.specs.List.{list_any}
use Rattle.std.specs.Map.{lookup, KeepsOthers}
use Rattle.std.proofs.lemmas.List.Folds.{list_any-append}
use Rattle.indexmap.specs.IndexSet.{insert_key}
use Rattle.std.proofs.lemmas.Bool.{false_from_ne_true}
use Rattle.c_typing.specs.Library.{Entity, same_entity}
use Rattle.c_check_names.specs.declared.entity.Entity.{Entity as Stored}
use Rattle.c_check_names.specs.contracts.entity.EntityPartialEq.TheImpl.{ghosts}
use Rattle.c_check_names.specs.Views.{entity_of}
use Rattle.c_check_names.proofs.Declarations.{by_eq}
use Rattle.c_check_names.proofs.Entities.{turned}
use Rattle.c_check_names.proofs.Sameness.{thing_is, thing_self}
use Rattle.c_check.specs.Tables.{is_entity, among, with_thing, with_values, values_or_none}

-- the test of the table is that of the definition
pub tested : (k : Stored) (ks : List Stored) → list_any (λ j. ghosts.eq k j) ks ≡ among ks (entity_of k)
tested k ks = λ i. list_any (λ j. turned k j i) ks

pub or_last : (a b : Bool) → (a || (b || false)) ≡ (b || a)
or_last true true = refl
or_last true false = refl
or_last false true = refl
or_last false false = refl

there_already : (k : Stored) (ks : List Stored) (e : Entity) → among ks (entity_of k) ≡ true
    → among ks e ≡ (same_entity (entity_of k) e || among ks e)
there_already k ks e there = by (same_entity (entity_of k) e) refl
  where
    by : (b : Bool) → same_entity (entity_of k) e ≡ b → among ks e ≡ (b || among ks e)
    by true h = ap (among ks) (sym (thing_is (entity_of k) e h)) ∙ there
    by false h = refl

pub one_more_at : (k : Stored) (ks : List Stored) (e : Entity)
    → among (insert_key ghosts.eq ks k) e ≡ with_thing (entity_of k) (among ks) e
one_more_at k ks e = by (list_any (ghosts.eq k) ks) refl
  where
    by : (b : Bool) → list_any (ghosts.eq k) ks ≡ b
        → among (if b then ks else ks ++ k ∷ []) e ≡ (same_entity (entity_of k) e || among ks e)
    by true h = there_already k ks e (sym (tested k ks) ∙ h)
    by false h = list_any-append (is_entity e) ks (k ∷ []) ∙ or_last (among ks e) (same_entity (entity_of k) e)

-- one more thing is among them
pub one_more : (k : Stored) (ks new : List Stored) (thing : Entity) → entity_of k ≡ thing
    → new ≡ insert_key ghosts.eq ks k → (e : Entity) → among new e ≡ with_thing thing (among ks) e
one_more k ks new thing of is e = ap (λ xs. among xs e) is ∙ one_more_at k ks e
    ∙ ap (λ t. with_thing t (among ks) e) of

-- what is found of each thing behind a change of one
changed : {X : Type 0} (key : Stored) (x : X) (old new : List (Stored × X)) (e : Entity)
    → lookup (λ k. ghosts.eq key k) new ≡ Some x → KeepsOthers ghosts.eq (λ k. ghosts.eq key k) old new
    → lookup (is_entity e) new ≡ (if same_entity (entity_of key) e then Some x else lookup (is_entity e) old)
unfolding KeepsOthers
changed key x old new e at others = by (same_entity (entity_of key) e) refl
  where
    by : (b : Bool) → same_entity (entity_of key) e ≡ b
        → lookup (is_entity e) new ≡ (if b then Some x else lookup (is_entity e) old)
    by true h = ap (λ d. lookup (is_entity d) new) (sym (thing_is (entity_of key) e h)) ∙ sym (by_eq key new) ∙ at
    by false h = others (is_entity e)
        (λ x y g. ap (same_entity (entity_of y)) (sym (thing_is (entity_of x) e g)) ∙ sym (turned x y))
        (λ k g. false_from_ne_true (is_entity e k) (λ j.
        let p : entity_of key ≡ e = sym (thing_is (entity_of k) (entity_of key) (sym (turned key k) ∙ g))
        ∙ thing_is (entity_of k) e j in
        true≢false (sym (ap (λ d. same_entity d e) p ∙ thing_self e) ∙ h)))

-- a thing has values, in place of those that it had
pub with_value : {V : Type 0} (items : V → List ℤ) (key : Stored) (v : V) (old new : List (Stored × V)) (thing : Entity)
    (values : List ℤ) → entity_of key ≡ thing → items v ≡ values → lookup (λ k. ghosts.eq key k) new ≡ Some v
    → KeepsOthers ghosts.eq (λ k. ghosts.eq key k) old new → (e : Entity)
    → values_or_none (option_map items (lookup (is_entity e) new))
    ≡ with_values thing values (λ f. values_or_none (option_map items (lookup (is_entity f) old))) e
with_value items key v old new thing values of is at others e =
    ap (λ o. values_or_none (option_map items o)) (changed key v old new e at others)
    ∙ by (same_entity (entity_of key) e)
    ∙ ap (λ t. if same_entity t e then items v else values_or_none (option_map items (lookup (is_entity e) old))) of
    ∙ ap (λ vs. if same_entity thing e then vs else values_or_none (option_map items (lookup (is_entity e) old))) is
  where
    by : (b : Bool) → values_or_none (option_map items (if b then Some v else lookup (is_entity e) old))
        ≡ (if b then items v else values_or_none (option_map items (lookup (is_entity e) old)))
    by true = refl
    by false = refl

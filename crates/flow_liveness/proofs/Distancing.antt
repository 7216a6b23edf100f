-- Lists of variables with their distances, in ascending order.
use Rattle.std.proofs.Common.{ℕ, zero, suc, ◌≡◌, ◌<◌, ◌≤◌, ◌⊎◌, inl, inr, ◌↔◌, Bool, cond, List, [], ◌∷◌}
use Rattle.std.proofs.Common.{◌++◌, length}
use Rattle.std.proofs.Common.{replicate, get_or, get_or-set_same, get_or-set_other, Option, Some, None, Result, Ok, Err}
use Rattle.std.proofs.Common.{MatchResult, refl, sym, ap, subst, arith, ◌∙◌}
use Rattle.std.proofs.Math.ListN.{set}
use Rattle.std.specs.List.{slice_get}
use Rattle.std.specs.List.Sorted.{IsBinarySearchResult, IsNonDecreasingBy, IsSearchInRange}
use Rattle.std.specs.Ordering.{nat_cmp, ordering_index}
use Rattle.std.proofs.lemmas.Bool.{cases_eq}
use Rattle.std.proofs.lemmas.Bool.Decides.{eqb_tells, nat_tests}
use Rattle.std.proofs.lemmas.Cmp.{ranked}
use Rattle.std.proofs.lemmas.List.Sorted.{IsNonDecreasingBy-from_default}
use Rattle.std.proofs.lemmas.Option.{same_Some, slice_get_within}
use Rattle.flow_graph.specs.Graphs.{Flow}
use Rattle.flow_graph.specs.Liveness.{AfterUse, IsDistance, IsUsedAt}
use Rattle.flow_liveness.specs.Distances.{AreDistances, Rises, distance_at, distance_in}
use Rattle.flow_liveness.specs.Lists.{Has, list_at, with_last}
use Rattle.flow_liveness.proofs.Adding.{has-item, last-or-before}

-- the entries behind the first rise too
rises-tail : (e : ℕ × ℕ) (es : List (ℕ × ℕ)) → Rises (e ∷ es) → Rises es
rises-tail e es r i j a b l f g = r (suc i) (suc j) a b (omega arith) f g

-- the distance of an entry is the one that is read
pub in-some : (es : List (ℕ × ℕ)) (v n : ℕ) → Rises es → Has es (v, n) → distance_in es v ≡ Some n
in-some [] v n r (i, e) = absurd (cc)
in-some (e ∷ es) v n r (zero, f) =
    let same : ◌≡◌ {A = ℕ × ℕ} e (v, n) = same_Some e (v, n) f in
    elim (eqb_tells e.0 v) [
      | inl yes' ↦ ap (λ (b : Bool). cond b (Some e.1) (distance_in es v)) yes'.0 ∙ ap (λ (x : ℕ × ℕ). Some x.1) same
      | inr no' ↦ absurd (no'.1 (ap (λ (x : ℕ × ℕ). x.0) same))
    ]
in-some (e ∷ es) v n r (suc i, f) =
    elim (eqb_tells e.0 v) [
      | inl yes' ↦
          let below : e.0 < v = r 0 (suc i) e (v, n) (omega arith) refl f in
          let same : e.0 ≡ v = yes'.1 in absurd (omega arith)
      | inr no' ↦ ap (λ (b : Bool). cond b (Some e.1) (distance_in es v)) no'.0
          ∙ in-some es v n (rises-tail e es r) (i, f)
    ]

-- and the other way round
pub some-in : (es : List (ℕ × ℕ)) (v n : ℕ) → distance_in es v ≡ Some n → Has es (v, n)
some-in [] v n f = absurd (cc)
some-in (e ∷ es) v n f =
    elim (eqb_tells e.0 v) [
      | inl yes' ↦
          let steps : e.1 ≡ n = same_Some e.1 n
          (sym (ap (λ (b : Bool). cond b (Some e.1) (distance_in es v)) yes'.0) ∙ f) in
          (zero, subst (λ (x : ℕ). Some e ≡ Some (x, n)) yes'.1 (subst (λ (x : ℕ). Some e ≡ Some (e.0, x)) steps refl))
      | inr no' ↦
          let (i, g) = some-in es v n (sym (ap (λ (b : Bool). cond b (Some e.1) (distance_in es v)) no'.0) ∙ f) in
          (suc i, g)
    ]

-- an option that is no value is none
pub not-some : {X : Type 0} (o : Option X) → ((x : X) → o ≡ Some x → ⊥) → o ≡ None
not-some None h = refl
not-some (Some x) h = absurd (h x refl)

-- none is no value
pub none-not-some : {X : Type 0} (o : Option X) (x : X) → o ≡ None → o ≡ Some x → ⊥
none-not-some o x e f = cc

-- where there is no entry, there is no distance
pub in-none : (es : List (ℕ × ℕ)) (v : ℕ) → ((i n : ℕ) → slice_get es i ≡ Some (v, n) → ⊥) → distance_in es v ≡ None
in-none es v none =
    not-some (distance_in es v) (λ n f. let (i, g) = some-in es v n f in none i n g)

-- a greater variable may come last
rises-push : (es : List (ℕ × ℕ)) (e : ℕ × ℕ) → Rises es → ((v n : ℕ) → Has es (v, n) → v < e.0) → Rises (es ++ e ∷ [])
rises-push es e r smaller i j a b l f g =
    elim (last-or-before es e j b g) [
      | inl old' ↦ elim (last-or-before es e i a f) [
        | inl old ↦ r i j a b l old old'
        | inr new ↦ let at : i ≡ length es = new.0 in absurd (omega (arith, slice_get_within es j b old'))
      ]
      | inr new' ↦ elim (last-or-before es e i a f) [
        | inl old ↦ let same : e.0 ≡ b.0 = ap (λ (x : ℕ × ℕ). x.0) new'.1 in omega (arith, smaller a.0 a.1 (i, old))
        | inr new ↦
            let at : i ≡ length es = new.0 in let at' : j ≡ length es = new'.0 in absurd (omega arith)
      ]
    ]

-- so lists that rise still do
pub rises-with : (lists : List (List (ℕ × ℕ))) (point : ℕ) (e : ℕ × ℕ) → point < length lists
    → ((v n : ℕ) → Has (list_at lists point) (v, n) → v < e.0) → ((p : ℕ) → Rises (list_at lists p))
    → (p : ℕ) → Rises (list_at (with_last lists point e) p)
rises-with lists point e h smaller r p =
    elim (cases_eq p point) [
      | inl same ↦ subst (λ (q : ℕ). Rises (get_or (set lists point (get_or lists point [] ++ e ∷ [])) q [])) (sym same)
          (subst Rises (sym (get_or-set_same lists point (get_or lists point [] ++ e ∷ []) [] h))
          (rises-push (get_or lists point []) e (r point) smaller))
      | inr d ↦ subst Rises (sym (get_or-set_other lists point p (get_or lists point [] ++ e ∷ []) [] d)) (r p)
    ]

-- empty lists rise
pub rises-none : (n p : ℕ) → Rises (list_at (replicate n []) p)
rises-none zero p i j a b l f g = absurd (cc)
rises-none (suc n) zero i j a b l f g = absurd (cc)
rises-none (suc n) (suc p) i j a b l f g = rises-none n p i j a b l f g

-- of two numbers one is below the other, or it isn't
pub split : (a b : ℕ) → (a < b) ⊎ (b ≤ a)
split zero zero = inr (omega arith)
split zero (suc b) = inl (omega arith)
split (suc a) zero = inr (omega arith)
split (suc a) (suc b) = elim (split a b) [ inl l ↦ inl (omega arith) | inr l ↦ inr (omega arith) ]

module _ (es : List (ℕ × ℕ)) (rises : Rises es) (v : ℕ) where
  -- the comparisons with a variable rise along the list
  comparisons-rise : IsNonDecreasingBy (λ e. ordering_index (nat_cmp e.0 v)) es
  comparisons-rise =
      IsNonDecreasingBy-from_default (λ e. ordering_index (nat_cmp e.0 v)) es (0, 0) (λ i j le within.
      let up : (get_or es i (0, 0)).0 ≤ (get_or es j (0, 0)).0 =
      elim (cases_eq i j) [
        | inl same ↦ subst (λ (k : ℕ). (get_or es i (0, 0)).0 ≤ (get_or es k (0, 0)).0) same (omega arith)
        | inr d ↦ let below = rises i j (get_or es i (0, 0)) (get_or es j (0, 0)) (omega arith)
            (has-item es i (0, 0) (omega arith)) (has-item es j (0, 0) within) in omega arith
      ] in
      grind (arith, nat_tests))

  -- a binary search ends at the entry of the variable, or there is none
  pub searched : (r : Result ℕ ℕ) → IsSearchInRange r (length es) → IsBinarySearchResult (λ e. nat_cmp e.0 v) es r
      → MatchResult r (λ place. (n : ℕ) × (slice_get es place ≡ Some (v, n)))
      (λ _. (place n : ℕ) → slice_get es place ≡ Some (v, n) → ⊥)
  searched (Ok at) within equal =
      let same : (get_or es at (0, 0)).0 ≡ v = ranked (get_or es at (0, 0)).0 v _ (sym (equal (0, 0))) in (
        (get_or es at (0, 0)).1,
        has-item es at (0, 0) within
            ∙ ap (λ (x : ℕ). Some (x, (get_or es at (0, 0)).1)) same,
      )
  searched (Err at) within parted = none
    where
      none : (place n : ℕ) → slice_get es place ≡ Some (v, n) → ⊥
      none place n f =
          let inside = slice_get_within es place (v, n) f in
          let entry : get_or es place (0, 0) ≡ (v, n) =
          same_Some (get_or es place (0, 0)) (v, n) (sym (has-item es place (0, 0) inside) ∙ f) in
          let same : (get_or es place (0, 0)).0 ≡ v = ap (λ (x : ℕ × ℕ). x.0) entry in
          elim (split place at) [
            | inl below ↦
                let less : (get_or es place (0, 0)).0 < v =
                ranked (get_or es place (0, 0)).0 v _
                (sym ((parted comparisons-rise).0 place (0, 0) (omega arith) below)) in
                omega arith
            | inr above ↦
                let more : v < (get_or es place (0, 0)).0 =
                ranked (get_or es place (0, 0)).0 v _
                (sym ((parted comparisons-rise).1 place (0, 0) above inside)) in
                omega arith
          ]

-- a point with no distance has no path to a use
no-fewer : (flow : Flow) (v point : ℕ) → ((n : ℕ) → IsDistance flow v point n → ⊥)
    → (n m : ℕ) → m ≤ n → AfterUse flow v m point → ⊥
no-fewer flow v point none zero zero l a = a
no-fewer flow v point none zero (suc m) l a = absurd (omega arith)
no-fewer flow v point none (suc n) m l a =
    elim (cases_eq m (suc n)) [
      | inl e ↦ none (suc n) (
        none 0,
        subst (λ (k : ℕ). AfterUse flow v k point) e a,
        λ fewer less b. no-fewer flow v point none n fewer less b,
      )
      | inr d ↦ no-fewer flow v point none n m (omega arith) a
    ]

-- lists with exactly the distances are those of the graph
pub are-distances : (flow : Flow) (lists : List (List (ℕ × ℕ))) → ((p : ℕ) → Rises (list_at lists p))
    → ((p v n : ℕ) → Has (list_at lists p) (v, n) ↔ IsDistance flow v p n) → AreDistances flow lists
are-distances flow lists rises has = record {
  some = λ p v n. (there p v n, here p v n);
  none = λ p v. (
    (λ e. let none = λ (n : ℕ) (d : IsDistance flow v p n). none-not-some (distance_at lists p v) n e (here p v n d) in
        (none 0, λ n a. no-fewer flow v p none n n (omega arith) a)),
    (λ (unused, none). not-some (distance_at lists p v) (λ n e. refute n unused none (there p v n e))),
  );
}
  where
    there : (p v n : ℕ) → distance_at lists p v ≡ Some n → IsDistance flow v p n
    there p v n e = (has p v n).0 (some-in (list_at lists p) v n e)

    here : (p v n : ℕ) → IsDistance flow v p n → distance_at lists p v ≡ Some n
    here p v n d = in-some (list_at lists p) v n (rises p) ((has p v n).1 d)

    refute : {p v : ℕ} → (n : ℕ) → (IsUsedAt flow v p → ⊥) → ((m : ℕ) → AfterUse flow v m p → ⊥)
        → IsDistance flow v p n → ⊥
    refute zero unused none d = unused d
    refute (suc n) unused none d = none (suc n) d.1

-- lists rise where a greater variable was put last, or was refused
pub rises-put : {A E : Type 0} (r : Result A E) (old new : List (List (ℕ × ℕ))) (point : ℕ) (e : ℕ × ℕ)
    → point < length old → ((v n : ℕ) → Has (list_at old point) (v, n) → v < e.0)
    → ((p : ℕ) → Rises (list_at old p))
    → MatchResult r (λ _. new ≡ with_last old point e) (λ _. new ≡ old) → (p : ℕ) → Rises (list_at new p)
rises-put (Ok a) old new point e h smaller rises f p =
    subst (λ (ls : List (List (ℕ × ℕ))). Rises (list_at ls p)) (sym f) (rises-with old point e h smaller rises p)
rises-put (Err a) old new point e h smaller rises f p =
    subst (λ (ls : List (List (ℕ × ℕ))). Rises (list_at ls p)) (sym f) (rises p)

-- past all points there is no distance
pub in-past : (lists : List (List (ℕ × ℕ))) (point v : ℕ) → length lists ≤ point → distance_at lists point v ≡ None
in-past [] point v h = refl
in-past (es ∷ lists) zero v h = absurd (omega arith)
in-past (es ∷ lists) (suc point) v h = in-past lists point v (omega arith)

-- How a search begins: with the points that use the variable.
use Rattle.std.proofs.Common.{ℕ, zero, ◌≡◌, ◌<◌, ◌≤◌, ◌+◌, ◌⊎◌, inl, inr, ◌↔◌, List, [], ◌∷◌, ◌++◌, length}
use Rattle.std.proofs.Common.{Option, Some, sym, ap, subst, arith, ◌∙◌}
use Rattle.std.specs.List.{slice_get, slice_set}
use Rattle.std.proofs.lemmas.Bool.{cases_eq}
use Rattle.std.proofs.lemmas.Option.{same_Some, slice_get_within}
use Rattle.pcc_base.proofs.Lists.{get-last, get-append}
use Rattle.flow_liveness.specs.Lists.{Has}
use Rattle.flow_liveness.specs.Search.{AllEarlier, IsStart}
use Rattle.flow_liveness.specs.SearchBack.{IsMarked}
use Rattle.flow_liveness.proofs.Adding.{last-or-before}
use Rattle.flow_liveness.proofs.Marking.{mark-here, mark-later, mark-stays, mark-there, none-marked}

-- the uses told in other words
pub start-same : (v : ℕ) (U W : ℕ → Type 0) (nexts : List (ℕ × ℕ)) (used : List (Option ℕ))
    → ((p : ℕ) → U p ↔ W p) → IsStart v U nexts used → IsStart v W nexts used
start-same v U W nexts used f s = record {
  marked = λ p. ((λ m. (f p).0 ((s.marked p).0 m)), (λ w. (s.marked p).1 ((f p).1 w)));
  found = λ p w. s.found p ((f p).1 w);
  zero_each = λ i p n e. let (z, u) = s.zero_each i p n e in (z, (f p).0 u);
  once = s.once;
  none_later = s.none_later;
}

-- before any use
pub start-none : (v : ℕ) (U : ℕ → Type 0) (used : List (Option ℕ)) → ((p : ℕ) → U p → ⊥) → AllEarlier used v
    → IsStart v U [] used
start-none v U used none all = record {
  marked = λ p. ((λ m. absurd (none-marked used v all p m)), (λ u. absurd (none p u)));
  found = λ p u. absurd (none p u);
  zero_each = λ i p n e. absurd (cc);
  once = λ i j p n m e f. absurd (cc);
  none_later = λ p w m. let l = all p w m in omega arith;
}

-- a use that is marked already
pub start-again : (v : ℕ) (U : ℕ → Type 0) (nexts : List (ℕ × ℕ)) (used : List (Option ℕ)) (point : ℕ)
    → IsMarked used v point → IsStart v U nexts used → IsStart v (λ p. U p ⊎ (p ≡ point)) nexts used
start-again v U nexts used point m s =
    start-same v U (λ p. U p ⊎ (p ≡ point)) nexts used
    (λ p. ((λ u. inl u), (λ w. elim w [ inl u ↦ u | inr e ↦ subst U (sym e) ((s.marked point).0 m) ]))) s

-- a use that isn't yet
pub start-more : (v : ℕ) (U : ℕ → Type 0) (nexts : List (ℕ × ℕ)) (used : List (Option ℕ)) (point : ℕ)
    → point < length used → (IsMarked used v point → ⊥) → IsStart v U nexts used
    → IsStart v (λ p. U p ⊎ (p ≡ point)) (nexts ++ (point, 0) ∷ []) (slice_set used point (Some v))
start-more v U nexts used point h n s = record {
  marked = λ p. (there p, here p);
  found = found;
  zero_each = zero_each;
  once = once;
  none_later = mark-later used v point h s.none_later;
}
  where
    there : (p : ℕ) → IsMarked (slice_set used point (Some v)) v p → U p ⊎ (p ≡ point)
    there p m =
        elim (cases_eq p point) [
          | inl e ↦ inr e
          | inr d ↦ inl ((s.marked p).0 (mark-there used v point h v p d m))
        ]

    here : (p : ℕ) → U p ⊎ (p ≡ point) → IsMarked (slice_set used point (Some v)) v p
    here p (inl u) =
        elim (cases_eq p point) [
          | inl e ↦ subst (λ (q : ℕ). IsMarked (slice_set used point (Some v)) v q) (sym e) (mark-here used v point h)
          | inr d ↦ mark-stays used v point h v p d ((s.marked p).1 u)
        ]
    here p (inr e) = subst (λ (q : ℕ). IsMarked (slice_set used point (Some v)) v q) (sym e) (mark-here used v point h)

    found : (p : ℕ) → U p ⊎ (p ≡ point) → Has (nexts ++ (point, 0) ∷ []) (p, 0)
    found p (inl u) = let (i, e) = s.found p u in (i, get-append nexts ((point, 0) ∷ []) i (p, 0) e)
    found p (inr e) = (length nexts, get-last nexts (point, 0) ∙ ap (λ (q : ℕ). Some (q, zero)) (sym e))

    zero_each : (i p m : ℕ) → slice_get (nexts ++ (point, 0) ∷ []) i ≡ Some (p, m) → (m ≡ 0) × (U p ⊎ (p ≡ point))
    zero_each i p m e =
        elim (last-or-before nexts (point, 0) i (p, m) e) [
          | inl old ↦ let (z, u) = s.zero_each i p m old in (z, inl u)
          | inr new ↦ (sym (ap (λ (x : ℕ × ℕ). x.1) new.1), inr (sym (ap (λ (x : ℕ × ℕ). x.0) new.1)))
        ]

    apart : (i m : ℕ) → slice_get nexts i ≡ Some (point, m) → ⊥
    apart i m e = n ((s.marked point).1 ((s.zero_each i point m e).1))

    once : (i j p m k : ℕ) → slice_get (nexts ++ (point, 0) ∷ []) i ≡ Some (p, m)
        → slice_get (nexts ++ (point, 0) ∷ []) j ≡ Some (p, k) → i ≡ j
    once i j p m k e f =
        elim (last-or-before nexts (point, 0) i (p, m) e) [
          | inl old ↦ elim (last-or-before nexts (point, 0) j (p, k) f) [
            | inl old' ↦ s.once i j p m k old old'
            | inr new' ↦ absurd (apart i m (old ∙ ap (λ (q : ℕ). Some (q, m)) (sym (ap (λ (x : ℕ × ℕ). x.0) new'.1))))
          ]
          | inr new ↦ elim (last-or-before nexts (point, 0) j (p, k) f) [
            | inl old' ↦ absurd (apart j k (old' ∙ ap (λ (q : ℕ). Some (q, k)) (sym (ap (λ (x : ℕ × ℕ). x.0) new.1))))
            | inr new' ↦ new.0 ∙ sym new'.0
          ]
        ]

-- the numbers of a list, up to one place further
pub upto-more : (us : List ℕ) (n y : ℕ) → slice_get us n ≡ Some y
    → (p : ℕ) → (((i : ℕ) × (i < n) × (slice_get us i ≡ Some p)) ⊎ (p ≡ y))
    ↔ ((i : ℕ) × (i < n + 1) × (slice_get us i ≡ Some p))
upto-more us n y e p = (there, here)
  where
    there : ((i : ℕ) × (i < n) × (slice_get us i ≡ Some p)) ⊎ (p ≡ y) → (i : ℕ) × (i < n + 1)
        × (slice_get us i ≡ Some p)
    there (inl (i, l, at)) = (i, omega arith, at)
    there (inr same) = (n, omega arith, e ∙ ap Some (sym same))

    here : (i : ℕ) × (i < n + 1) × (slice_get us i ≡ Some p) → ((i : ℕ) × (i < n) × (slice_get us i ≡ Some p)) ⊎ (p ≡ y)
    here (i, l, at) =
        elim (cases_eq i n) [
          | inl same ↦ inr (same_Some p y (sym (subst (λ (j : ℕ). slice_get us j ≡ Some p) same at) ∙ e))
          | inr d ↦ inl (i, omega arith, at)
        ]

-- all numbers of a list
pub upto-end : (us : List ℕ) (n : ℕ) → length us ≤ n
    → (p : ℕ) → ((i : ℕ) × (i < n) × (slice_get us i ≡ Some p)) ↔ Has us p
upto-end us n h p =
    ((λ (i, l, at). (i, at)), (λ (i, at). (i, omega (arith, slice_get_within us i p at), at)))

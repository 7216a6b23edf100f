-- Lists that grow by at most one entry a step, where `At` tells what is to be listed at a step and where.
use Rattle.std.proofs.Common.{ℕ, ◌≡◌, ◌<◌, ◌+◌, ◌⊎◌, inl, inr, List, length, sym, subst, arith}
use Rattle.std.proofs.lemmas.Bool.{cases_eq}
use Rattle.flow_liveness.specs.Lists.{Adds, with_last}
use Rattle.flow_liveness.proofs.Adding.{adds-none, adds-push, adds-same, adds-then}

-- what is to be listed at the steps before this one
abbrev pub Before : {X : Type 0} → (ℕ → X → ℕ → Type 0) → ℕ → X → ℕ → Type 0
Before At n x p = (i : ℕ) × (i < n) × At i x p

module _ {X : Type 0} (At : ℕ → X → ℕ → Type 0) where
  -- nothing before the first step
  pub steps-start : (a : List (List X)) → Adds a a (Before At 0)
  steps-start a = adds-none a (Before At 0) (λ x p h. let (i, l, at) = h in omega arith)

  -- what this step lists, before the next one
  split : (n : ℕ) (x : X) (p : ℕ) → Before At (n + 1) x p → Before At n x p ⊎ At n x p
  split n x p (i, l, at) =
      elim (cases_eq i n) [
        | inl e ↦ inr (subst (λ (j : ℕ). At j x p) e at)
        | inr d ↦ inl (i, omega arith, at)
      ]

  -- one entry is listed
  pub steps-more : (n : ℕ) (x : X) (p : ℕ) (a b : List (List X)) → p < length b → At n x p
      → ((y : X) (q : ℕ) → At n y q → (y ≡ x) × (q ≡ p)) → Adds a b (Before At n)
      → Adds a (with_last b p x) (Before At (n + 1))
  steps-more n x p a b h at only f =
      adds-same a (with_last b p x) (λ y q. Before At n y q ⊎ ((y ≡ x) × (q ≡ p))) (Before At (n + 1)) join back
      (adds-then a b (with_last b p x) (Before At n) (λ y q. (y ≡ x) × (q ≡ p)) f (adds-push b p x h))
    where
      join : (y : X) (q : ℕ) → Before At n y q ⊎ ((y ≡ x) × (q ≡ p)) → Before At (n + 1) y q
      join y q (inl (i, l, m)) = (i, omega arith, m)
      join y q (inr (e, s)) = (n, omega arith, subst (λ z. At n z q) (sym e) (subst (λ (r : ℕ). At n x r) (sym s) at))

      back : (y : X) (q : ℕ) → Before At (n + 1) y q → Before At n y q ⊎ ((y ≡ x) × (q ≡ p))
      back y q m = elim (split n y q m) [ inl old ↦ inl old | inr new ↦ inr (only y q new) ]

  -- no entry is
  pub steps-past : (n : ℕ) (a b : List (List X)) → ((y : X) (q : ℕ) → At n y q → ⊥) → Adds a b (Before At n)
      → Adds a b (Before At (n + 1))
  steps-past n a b none f =
      adds-same a b (Before At n) (Before At (n + 1)) (λ y q m. let (i, l, at) = m in (i, omega arith, at)) back f
    where
      back : (y : X) (q : ℕ) → Before At (n + 1) y q → Before At n y q
      back y q m = elim (split n y q m) [ inl old ↦ old | inr new ↦ absurd (none y q new) ]

  -- some entries are, in one call
  pub steps-then : (n : ℕ) (a b c : List (List X)) → Adds a b (Before At n) → Adds b c (At n)
      → Adds a c (Before At (n + 1))
  steps-then n a b c f g =
      adds-same a c (λ y q. Before At n y q ⊎ At n y q) (Before At (n + 1)) join (split n)
      (adds-then a b c (Before At n) (At n) f g)
    where
      join : (y : X) (q : ℕ) → Before At n y q ⊎ At n y q → Before At (n + 1) y q
      join y q (inl (i, l, m)) = (i, omega arith, m)
      join y q (inr m) = (n, omega arith, m)

  -- all that was to be listed is, told in other words
  pub steps-end : (n : ℕ) (a b : List (List X)) (All : X → ℕ → Type 0)
      → ((i : ℕ) (x : X) (p : ℕ) → At i x p → All x p) → ((x : X) (p : ℕ) → All x p → Before At n x p)
      → Adds a b (Before At n) → Adds a b All
  steps-end n a b All to from f = adds-same a b (Before At n) All (λ x p m. let (i, l, at) = m in to i x p at) from f

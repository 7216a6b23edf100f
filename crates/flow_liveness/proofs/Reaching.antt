-- A search that is done with all that it found has found all.
use Rattle.std.proofs.Common.{ℕ, zero, suc, ◌≡◌, ◌≤◌, ◌⊎◌, inl, inr, List, length, Option, Some, refl, sym}
use Rattle.std.proofs.Common.{ap, subst}
use Rattle.std.proofs.Common.{arith, ◌∙◌}
use Rattle.std.specs.List.{slice_get}
use Rattle.std.proofs.lemmas.Bool.{cases_eq}
use Rattle.std.proofs.lemmas.Option.{same_Some, slice_get_within}
use Rattle.flow_graph.specs.Graphs.{Flow}
use Rattle.flow_graph.specs.Liveness.{AfterUse, IsDefinedAt, IsDistance, IsSuccessor, ReachesUse}
use Rattle.flow_liveness.specs.Lists.{Has}
use Rattle.flow_liveness.specs.Search.{IsDone, IsPassed, IsReach, IsSearch}
use Rattle.flow_liveness.specs.SearchBack.{IsNext}

module _ (flow : Flow) (v head : ℕ) (nexts : List (ℕ × ℕ)) (after : List ℕ) (used passed : List (Option ℕ))
    (s : IsSearch flow v head nexts after used passed) (all : length nexts ≤ head) where
  -- what leads to a point that is found, and that is a use or doesn't define the variable, is passed
  passed-before : (i point n : ℕ) → slice_get nexts i ≡ Some (point, n) → (n ≡ 0) ⊎ (IsDefinedAt flow v point → ⊥)
      → (before : ℕ) → IsSuccessor flow before point → IsPassed nexts after (suc n) before
  passed-before i point n e goes before leads =
      go (s.done i point n (omega (arith, slice_get_within nexts i (point, n) e)) e) goes
    where
      go : IsDone flow v nexts after point n → (n ≡ 0) ⊎ (IsDefinedAt flow v point → ⊥)
          → IsPassed nexts after (suc n) before
      go (inr f) goes = f before leads
      go (inl (more, d)) (inl none) = absurd (omega arith)
      go (inl (more, d)) (inr free) = absurd (free d)

  -- each path to a use is found, or a shorter one
  found : (n point : ℕ) → ReachesUse flow v n point
      → (m i : ℕ) × (m ≤ n) × (slice_get nexts i ≡ Some (point, m)) × ((m ≡ 0) ⊎ (IsDefinedAt flow v point → ⊥))
  found zero point used = let (i, e) = s.uses point used in (0, i, omega arith, e, inl refl)
  found (suc n) point (free, next, leads, reaches) =
      let (m, i, less, e, goes) = found n next reaches in
      let (has, k, near, (j, f)) = passed-before i next m e goes point leads in
      (k, j, omega arith, f, inr free)

  -- also from behind a point
  found-after : (n point : ℕ) → AfterUse flow v (suc n) point → IsPassed nexts after (suc n) point
  found-after n point (next, leads, reaches) =
      let (m, i, less, e, goes) = found n next reaches in
      let (has, k, near, (j, f)) = passed-before i next m e goes point leads in
      (has, k, omega arith, (j, f))

  -- no point is found at two distances
  one-distance : (i j point n m : ℕ) → slice_get nexts i ≡ Some (point, n) → slice_get nexts j ≡ Some (point, m) → n ≡ m
  one-distance i j point n m e f =
      let same : i ≡ j = s.nexts_once i j point n m e f in
      let entry : ◌≡◌ {A = ℕ × ℕ} (point, n) (point, m) = same_Some (point, n) (point, m)
      (sym e ∙ subst (λ (k : ℕ). slice_get nexts k ≡ Some (point, m)) (sym same) f) in
      ap (λ (x : ℕ × ℕ). x.1) entry

  -- what is found is the distance
  is-distance : (point n : ℕ) → Has nexts (point, n) → IsDistance flow v point n
  is-distance point zero (i, e) = s.sound i point zero e
  is-distance point (suc n) (i, e) =
      let (unused, reaches) = s.sound i point (suc n) e in (unused, reaches, least)
    where
      least : (fewer : ℕ) → fewer ≤ n → AfterUse flow v fewer point → ⊥
      least zero l a = a
      least (suc f) l a =
          let (has, k, near, (j, g)) = found-after f point a in
          let same : suc n ≡ k = one-distance i j point (suc n) k e g in omega arith

  -- and the distance is found
  has-distance : (point n : ℕ) → IsDistance flow v point n → Has nexts (point, n)
  has-distance point zero used = s.uses point used
  has-distance point (suc n) (unused, reaches, least) =
      let (has, k, near, (j, g)) = found-after n point reaches in go k j near g (s.sound j point k g)
    where
      go : (k j : ℕ) → k ≤ suc n → slice_get nexts j ≡ Some (point, k) → IsNext flow v point k
          → Has nexts (point, suc n)
      go zero j l g next = absurd (unused next)
      go (suc k) j l g next =
          elim (cases_eq k n) [
            | inl e ↦ (j, subst (λ (m : ℕ). slice_get nexts j ≡ Some (point, suc m)) e g)
            | inr d ↦ absurd (least (suc k) (omega arith) next.1)
          ]

  -- so the search found what it was to find
  pub search-end : IsReach flow v nexts after
  search-end = record {
    distances = λ p n. (is-distance p n, has-distance p n);
    nexts_once = s.nexts_once;
    live = λ p. (s.live p, (λ (next, leads, (n, reaches)). (found-after n p (next, leads, reaches)).0));
    after_once = s.after_once;
    reached = λ p (next, leads, (n, reaches)).
        let (has, k, near, h) = found-after n p (next, leads, reaches) in (k, h);
  }

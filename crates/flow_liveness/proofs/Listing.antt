-- What is listed of a variable is where it is live.
use Rattle.std.proofs.Common.{ℕ, zero, suc, ◌≡◌, ◌<◌, ◌≤◌, ◌+◌, inl, inr, List, length, Some}
use Rattle.std.proofs.Common.{refl, sym, ap, arith, ◌∙◌}
use Rattle.std.specs.List.{AllByRecursion, slice_get}
use Rattle.std.proofs.lemmas.Option.{same_Some, slice_get_within}
use Rattle.flow_graph.specs.Graphs.{Flow, IsPlaced}
use Rattle.flow_graph.specs.Liveness.{IsDefinedAt, IsDistance, IsLiveAfter, IsLiveBefore}
use Rattle.flow_graph.proofs.LivePaths.{live_step}
use Rattle.flow_liveness.specs.Lists.{Adds, Has, list_at, with_last}
use Rattle.flow_liveness.specs.Search.{IsReach}
use Rattle.flow_liveness.specs.SearchBack.{IsNext}
use Rattle.flow_liveness.proofs.Stepping.{Before, steps-end, steps-more}
use Rattle.flow_liveness.proofs.Adding.{has-every}

-- the point is found at a place
abbrev pub FoundAt : List (ℕ × ℕ) → ℕ → ℕ → Type 0
FoundAt nexts i point = (steps : ℕ) × (slice_get nexts i ≡ Some (point, steps))

-- the variable is to be listed where a point stands at a place and it is live
abbrev pub ListedAt : ℕ → (ℕ → ℕ → Type 0) → (ℕ → Type 0) → ℕ → ℕ → ℕ → Type 0
ListedAt v At Live i w point = (w ≡ v) × At i point × Live point

module _ (v : ℕ) (At : ℕ → ℕ → Type 0) (Live : ℕ → Type 0) where
  -- a point of this place is listed
  pub listing-more : (n point : ℕ) (a b : List (List ℕ)) → point < length b → Live point → At n point
      → ((p : ℕ) → At n p → p ≡ point) → Adds a b (Before (ListedAt v At Live) n)
      → Adds a (with_last b point v) (Before (ListedAt v At Live) (n + 1))
  listing-more n point a b h live at only f =
      steps-more (ListedAt v At Live) n v point a b h (refl, at, live) (λ w p m. (m.0, only p m.1)) f

  -- all are listed, where each point at which the variable is live stands at some place
  pub listing-end : (n : ℕ) (a b : List (List ℕ)) → ((p : ℕ) → Live p → (i : ℕ) × (i < n) × At i p)
      → Adds a b (Before (ListedAt v At Live) n) → Adds a b (λ w p. (w ≡ v) × Live p)
  listing-end n a b each f =
      steps-end (ListedAt v At Live) n a b (λ w p. (w ≡ v) × Live p) (λ i w p m. (m.0, m.2))
      (λ w p m. let (i, l, at) = each p m.1 in (i, l, (m.0, at, m.1))) f

-- no variable is live before a point that defines it and doesn't use it
pub next-dead : (flow : Flow) (v point n : ℕ) → IsNext flow v point n → (0 < n) × IsDefinedAt flow v point
    → IsLiveBefore flow v point → ⊥
next-dead flow v point zero next (l, d) live = absurd (omega arith)
next-dead flow v point (suc n) (unused, after) (l, d) live =
    elim ((live_step flow v point).0 live) [ inl used ↦ unused used | inr free ↦ free.0 d ]

-- a point before which the variable is live is found
pub live-found : (flow : Flow) (v : ℕ) (nexts : List (ℕ × ℕ)) (after : List ℕ) → IsReach flow v nexts after
    → (point : ℕ) → IsLiveBefore flow v point → (n : ℕ) × Has nexts (point, n)
live-found flow v nexts after r point live =
    elim ((live_step flow v point).0 live) [
      | inl used ↦ (0, (r.distances point 0).1 used)
      | inr free ↦ r.reached point free.1
    ]

-- what is found is what a search would find
pub distance-next : (flow : Flow) (v point n : ℕ) → IsDistance flow v point n → IsNext flow v point n
distance-next flow v point zero used = used
distance-next flow v point (suc n) (unused, after, least) = (unused, after)

-- no point is found at two places
pub found-once : (flow : Flow) (v : ℕ) (nexts : List (ℕ × ℕ)) (after : List ℕ) → IsReach flow v nexts after
    → (i : ℕ) (e : ℕ × ℕ) → slice_get nexts i ≡ Some e → (j : ℕ) → j < i → FoundAt nexts j e.0 → ⊥
found-once flow v nexts after r i e here j l (k, at) =
    let same : j ≡ i = r.nexts_once j i e.0 k e.1 at here in omega arith

-- one point is found at a place
pub found-only : (nexts : List (ℕ × ℕ)) (i : ℕ) (e : ℕ × ℕ) → slice_get nexts i ≡ Some e → (p : ℕ)
    → FoundAt nexts i p → p ≡ e.0
found-only nexts i e here p (k, at) = ap (λ (x : ℕ × ℕ). x.0) (same_Some (p, k) e (sym at ∙ here))

-- So far the list of this point has smaller variables alone: the next is the greatest.
pub all-smaller : (v : ℕ) (At : ℕ → ℕ → Type 0) (Live : ℕ → Type 0) (n point : ℕ) (a b : List (List ℕ))
    → ((w p : ℕ) → Has (list_at a p) w → w < v) → ((j : ℕ) → j < n → At j point → ⊥)
    → Adds a b (Before (ListedAt v At Live) n) → AllByRecursion (λ w. w < v) (list_at b point)
all-smaller v At Live n point a b smaller none f =
    has-every (λ w. w < v) (list_at b point) (λ w h. elim ((f.has w point).0 h) [
      | inl old ↦ smaller w point old
      | inr (i, l, (s, at, live)) ↦ absurd (none i l at)
    ])

-- a point after which a variable is live is in a block
pub live-placed : (flow : Flow) (v point : ℕ) → IsLiveAfter flow v point → IsPlaced flow point
live-placed flow v point (next, leads, live) = leads.0

-- the entry of the variable and its distance that is found at a place
abbrev pub DistanceAt : List (ℕ × ℕ) → ℕ → ℕ → ℕ × ℕ → ℕ → Type 0
DistanceAt nexts v i entry point = (entry.0 ≡ v) × (slice_get nexts i ≡ Some (point, entry.1))

-- one entry is found at a place
pub distance-only : (nexts : List (ℕ × ℕ)) (v i : ℕ) (e : ℕ × ℕ) → slice_get nexts i ≡ Some e
    → (entry : ℕ × ℕ) (p : ℕ) → DistanceAt nexts v i entry p → (entry ≡ (v, e.1)) × (p ≡ e.0)
distance-only nexts v i e here (w, n) p (same, at) =
    let equal : ◌≡◌ {A = ℕ × ℕ} (p, n) e = same_Some (p, n) e (sym at ∙ here) in
    let steps : n ≡ e.1 = ap (λ (x : ℕ × ℕ). x.1) equal in
    (ap (λ (x : ℕ). (x, n)) same ∙ ap (λ (x : ℕ). (v, x)) steps, ap (λ (x : ℕ × ℕ). x.0) equal)

-- all distances are found
pub distance-found : (flow : Flow) (v : ℕ) (nexts : List (ℕ × ℕ)) (after : List ℕ) → IsReach flow v nexts after
    → (n : ℕ) → length nexts ≤ n → (entry : ℕ × ℕ) (p : ℕ) → (entry.0 ≡ v) × IsDistance flow v p entry.1
    → Before (DistanceAt nexts v) n entry p
distance-found flow v nexts after r n h entry p (same, d) =
    let (i, at) = (r.distances p entry.1).1 d in
    (i, omega (arith, slice_get_within nexts i (p, entry.1) at), (same, at))

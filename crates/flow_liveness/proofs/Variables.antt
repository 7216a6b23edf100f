-- One variable after another is listed where something holds of it.
use Rattle.std.proofs.Common.{ℕ, zero, suc, ◌≡◌, ◌<◌, ◌+◌, ◌⊎◌, inl, inr, ◌↔◌, List, [], length, replicate}
use Rattle.std.proofs.Common.{Option, None, sym, subst, arith}
use Rattle.std.proofs.lemmas.Bool.{cases_eq}
use Rattle.flow_graph.specs.Graphs.{Flow, IsFlow, IsIn}
use Rattle.flow_graph.specs.Liveness.{IsDistance, IsLiveAfter, IsLiveBefore, ReachesUse}
use Rattle.flow_liveness.specs.Lists.{Adds, Has, list_at}
use Rattle.flow_liveness.specs.Search.{AllEarlier, NoneLater}
use Rattle.flow_liveness.specs.SearchBack.{IsMarked}
use Rattle.flow_liveness.proofs.Adding.{adds-none, adds-same, adds-then, has-in, has-none, in-has}
use Rattle.flow_liveness.proofs.Using.{used-within}

-- no point is marked at first
pub no-mark : (n w point : ℕ) → IsMarked (replicate n None) w point → ⊥
no-mark zero w point e = absurd (cc)
no-mark (suc n) w zero e = absurd (cc)
no-mark (suc n) w (suc point) e = no-mark n w point e

-- so all marks are of earlier variables
pub earlier-none : (n v : ℕ) → AllEarlier (replicate n None) v
earlier-none n v point w e = absurd (no-mark n w point e)

-- marks that are of no later variable are of earlier ones than the next
pub earlier-next : (marks : List (Option ℕ)) (v : ℕ) → NoneLater marks v → AllEarlier marks (v + 1)
earlier-next marks v none point w e = let l = none point w e in omega arith

-- entries of variables, each with what holds of its variable at a place
module _ {X : Type 0} (key : X → ℕ) (Live : ℕ → X → ℕ → Type 0) where
  -- no variable is listed at first
  pub vars-start : (a : List (List X)) → Adds a a (λ x p. (key x < 0) × Live (key x) x p)
  vars-start a = adds-none a (λ x p. (key x < 0) × Live (key x) x p) (λ x p h. let l = h.0 in omega arith)

  -- then those below a variable are
  pub vars-smaller : (places v : ℕ) (b : List (List X))
      → Adds (replicate places []) b (λ x p. (key x < v) × Live (key x) x p)
      → (x : X) (p : ℕ) → Has (list_at b p) x → key x < v
  vars-smaller places v b f x p h =
      elim ((f.has x p).0 h) [ inl none ↦ absurd (has-none places p x none) | inr m ↦ m.0 ]

  -- then the variable itself
  pub vars-more : (v : ℕ) (a b c : List (List X)) → Adds a b (λ x p. (key x < v) × Live (key x) x p)
      → Adds b c (λ x p. (key x ≡ v) × Live v x p) → Adds a c (λ x p. (key x < v + 1) × Live (key x) x p)
  vars-more v a b c f g =
      adds-same a c (λ x p. ((key x < v) × Live (key x) x p) ⊎ ((key x ≡ v) × Live v x p))
      (λ x p. (key x < v + 1) × Live (key x) x p) join split
      (adds-then a b c (λ x p. (key x < v) × Live (key x) x p) (λ x p. (key x ≡ v) × Live v x p) f g)
    where
      join : (x : X) (p : ℕ) → ((key x < v) × Live (key x) x p) ⊎ ((key x ≡ v) × Live v x p)
          → (key x < v + 1) × Live (key x) x p
      join x p (inl (l, live)) = (omega arith, live)
      join x p (inr (e, live)) = (omega arith, subst (λ (w : ℕ). Live w x p) (sym e) live)

      split : (x : X) (p : ℕ) → (key x < v + 1) × Live (key x) x p
          → ((key x < v) × Live (key x) x p) ⊎ ((key x ≡ v) × Live v x p)
      split x p (l, live) =
          elim (cases_eq (key x) v) [
            | inl e ↦ inr (e, subst (λ (w : ℕ). Live w x p) e live)
            | inr d ↦ inl (omega arith, live)
          ]

  -- in the end all are
  pub vars-end : (places v : ℕ) (b : List (List X)) → ((x : X) (p : ℕ) → Live (key x) x p → key x < v)
      → Adds (replicate places []) b (λ x p. (key x < v) × Live (key x) x p)
      → (x : X) (p : ℕ) → Has (list_at b p) x ↔ Live (key x) x p
  vars-end places v b within f x p = (
    (λ h. elim ((f.has x p).0 h) [ inl none ↦ absurd (has-none places p x none) | inr m ↦ m.1 ]),
    (λ live. (f.has x p).1 (inr (within x p live, live))),
  )

-- so also as `flow_graph` tells what is in a list
pub vars-in : (Live : ℕ → ℕ → Type 0) (b : List (List ℕ)) (p w : ℕ) → (Has (list_at b p) w ↔ Live w p)
    → IsIn w (list_at b p) ↔ Live w p
vars-in Live b p w f =
    ((λ i. f.0 (in-has w (list_at b p) i)), (λ live. has-in w (list_at b p) (f.1 live)))

-- a variable that some path uses is there
reaches-within : (flow : Flow) (homes : List ℕ) → IsFlow flow homes → (n v point : ℕ) → ReachesUse flow v n point
    → v < length flow.widths
reaches-within flow homes is zero v point used = used-within flow homes is v point used
reaches-within flow homes is (suc n) v point (free, next, leads, reaches) =
    reaches-within flow homes is n v next reaches

pub before-within : (flow : Flow) (homes : List ℕ) → IsFlow flow homes → (v point : ℕ) → IsLiveBefore flow v point
    → v < length flow.widths
before-within flow homes is v point (n, reaches) = reaches-within flow homes is n v point reaches

pub after-within : (flow : Flow) (homes : List ℕ) → IsFlow flow homes → (v point : ℕ) → IsLiveAfter flow v point
    → v < length flow.widths
after-within flow homes is v point (next, leads, (n, reaches)) = reaches-within flow homes is n v next reaches

pub distance-within : (flow : Flow) (homes : List ℕ) → IsFlow flow homes → (v point n : ℕ) → IsDistance flow v point n
    → v < length flow.widths
distance-within flow homes is v point zero used = used-within flow homes is v point used
distance-within flow homes is v point (suc n) (unused, (next, leads, reaches), least) =
    reaches-within flow homes is n v next reaches

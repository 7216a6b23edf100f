-- Walks over lists and over blocks, where each step lists what holds of what it comes to.
use Rattle.std.proofs.Common.{ℕ, ◌≡◌, ◌≤◌, ◌+◌, inl, inr, ◌↔◌, List, [], length, replicate, Some}
use Rattle.std.proofs.Common.{sym, subst, ap, arith, ◌∙◌}
use Rattle.std.specs.List.{slice_get}
use Rattle.std.proofs.lemmas.Option.{same_Some, slice_get_within}
use Rattle.flow_graph.specs.Graphs.{Flow, IsIn, IsPlaced, Stands}
use Rattle.flow_liveness.specs.Lists.{Adds, Has, list_at}
use Rattle.flow_liveness.proofs.Adding.{adds-same, has-in, has-none, in-has}
use Rattle.flow_liveness.proofs.Placed.{block-within}
use Rattle.flow_liveness.proofs.Stepping.{Before, steps-end, steps-then}

-- what holds of a point that stands in a block
abbrev pub AlongBlocks : Flow → (ℕ → ℕ → Type 0) → ℕ → ℕ → ℕ → Type 0
AlongBlocks flow R block x p = Stands flow x block × R x p

-- the walk over all blocks is over: the lists have what holds of points that are in a block
pub blocks-end : (flow : Flow) (R : ℕ → ℕ → Type 0) (n places : ℕ) (lists : List (List ℕ)) → length flow.blocks ≤ n
    → ((x p : ℕ) → R x p → IsPlaced flow x)
    → Adds (replicate places []) lists (Before (AlongBlocks flow R) n)
    → (x p : ℕ) → Has (list_at lists p) x ↔ R x p
blocks-end flow R n places lists h placed f x p = (there, here)
  where
    there : Has (list_at lists p) x → R x p
    there has =
        elim ((f.has x p).0 has) [
          | inl none ↦ absurd (has-none places p x none)
          | inr (b, l, (stands, r)) ↦ r
        ]

    here : R x p → Has (list_at lists p) x
    here r =
        let (b, stands) = placed x p r in
        (f.has x p).1 (inr (b, omega (arith, block-within flow.blocks b x stands), (stands, r)))

-- what holds of each point of a list
abbrev pub AlongPoints : List ℕ → (ℕ → ℕ → Type 0) → ℕ → ℕ → ℕ → Type 0
AlongPoints xs R i x p = (slice_get xs i ≡ Some x) × R x p

-- a step further along a list of points
pub list-step : (R : ℕ → ℕ → Type 0) (xs : List ℕ) (n y : ℕ) (a b c : List (List ℕ)) → slice_get xs n ≡ Some y
    → Adds a b (Before (AlongPoints xs R) n) → Adds b c (λ x p. (x ≡ y) × R y p)
    → Adds a c (Before (AlongPoints xs R) (n + 1))
list-step R xs n y a b c e f g =
    steps-then (AlongPoints xs R) n a b c f
    (adds-same b c (λ x p. (x ≡ y) × R y p) (AlongPoints xs R n)
    (λ x p m. (e ∙ ap Some (sym m.0), subst (λ z. R z p) (sym m.0) m.1))
    (λ x p m. let same = same_Some x y (sym m.0 ∙ e) in (same, subst (λ z. R z p) same m.1))
    g)

-- the walk along a list of points is over
pub list-end : (R : ℕ → ℕ → Type 0) (xs : List ℕ) (n : ℕ) (a b : List (List ℕ)) → length xs ≤ n
    → Adds a b (Before (AlongPoints xs R) n) → Adds a b (λ x p. IsIn x xs × R x p)
list-end R xs n a b h f =
    steps-end (AlongPoints xs R) n a b (λ x p. IsIn x xs × R x p)
    (λ i x p m. (has-in x xs (i, m.0), m.1))
    (λ x p m. let (i, e) = in-has x xs m.0 in (i, omega (arith, slice_get_within xs i x e), (e, m.1)))
    f

-- What distinct points weigh together is no more than all points do.
use Rattle.std.specs.List.{AllByRecursion}
use Rattle.std.proofs.Common.{◌≡◌, ◌≢◌, ℕ, zero, suc, ◌+◌, ◌*◌, ◌<◌, ◌≤◌, Bool, List, [], ◌∷◌, ◌++◌, length}
use Rattle.std.proofs.Common.{sym, subst, inl, inr, arith, cond, eqb}
use Rattle.std.specs.Prelude.{slice_index_or, sum_by}
use Rattle.std.proofs.lemmas.Bool.Decides.{eqb_tells}
use Rattle.std.proofs.lemmas.List.Sums.{sum_by-cons}
use Rattle.flow_graph.specs.declared.op.Op.{Op}
use Rattle.flow_graph.specs.declared.op.Op.TheVariants as op
use Rattle.flow_graph.specs.Graphs.{IsDistinct, without}
use Rattle.flow_graph.specs.Sizes.{words_of}
use Rattle.flow_graph.proofs.Points.{choose, distinct-without, every-without}

-- the sum over these numbers
abbrev pub total : (ℕ → ℕ) → List ℕ → ℕ
total f [] = 0
total f (p ∷ ps) = f p + total f ps

pub total-append : (f : ℕ → ℕ) (ps qs : List ℕ) → total f (ps ++ qs) ≡ total f ps + total f qs
total-append f [] qs = omega arith
total-append f (p ∷ ps) qs = omega (arith, total-append f ps qs)

-- and over all below one
abbrev pub below : (ℕ → ℕ) → ℕ → ℕ
below f zero = 0
below f (suc n) = f n + below f n

-- a number that is taken away is at most the difference
total-without : (f : ℕ → ℕ) (n : ℕ) (ps : List ℕ) → total f ps ≤ f n + total f (without n ps)
total-without f n [] = omega arith
total-without f n (p ∷ ps) =
    choose p n (λ (l : List ℕ). total f (p ∷ ps) ≤ f n + total f l) ps (p ∷ without n ps)
    (λ e. subst (λ (q : ℕ). f p + total f ps ≤ f q + total f ps) e (omega arith))
    (more (f p) (f n) (total f ps) (total f (without n ps)) (total-without f n ps))
  where
    more : (a b x y : ℕ) → x ≤ b + y → a + x ≤ b + (a + y)
    more a b x y h = omega arith

-- distinct numbers without one of them don't have it
absent : (n : ℕ) (ps : List ℕ) → IsDistinct ps → AllByRecursion (λ q. q ≢ n) (without n ps)
absent n [] d = tt
absent n (p ∷ ps) d = chosen (absent n ps d.1)
  where
    chosen : AllByRecursion (λ q. q ≢ n) (without n ps)
        → AllByRecursion (λ q. q ≢ n) (cond (eqb p n) ps (p ∷ without n ps))
    chosen rest = elim (eqb_tells p n) [
      | inl (t, e) ↦ let P : Bool → Type 0 = λ b. AllByRecursion (λ q. q ≢ n) (cond b ps (p ∷ without n ps)) in
          subst P (sym t) (subst (λ (m : ℕ). AllByRecursion (λ q. q ≢ m) ps) e d.0)
      | inr (f, ne) ↦ let P : Bool → Type 0 = λ b. AllByRecursion (λ q. q ≢ n) (cond b ps (p ∷ without n ps)) in
          subst P (sym f) (ne, rest)
    ]

both : (n : ℕ) (ps : List ℕ) → AllByRecursion (λ q. q < suc n) ps → AllByRecursion (λ q. q ≢ n) ps
    → AllByRecursion (λ q. q < n) ps
both n [] a b = tt
both n (p ∷ ps) a b = (less p n a.0 b.0, both n ps a.1 b.1)
  where
    less : (p n : ℕ) → p < suc n → p ≢ n → p < n
    less p n h k = omega arith

pub few : (f : ℕ → ℕ) (n : ℕ) (ps : List ℕ) → IsDistinct ps → AllByRecursion (λ q. q < n) ps → total f ps ≤ below f n
few f zero [] d h = omega arith
few f zero (p ∷ ps) d h = let none = h.0 in absurd (omega arith)
few f (suc n) ps d h =
    let less = every-without (λ q. q < suc n) n ps h in
    let rest = few f n (without n ps) (distinct-without n ps d) (both n (without n ps) less (absent n ps d)) in
    let one = total-without f n ps in
    omega arith

-- ---- over ops

below-first : (f : ℕ → ℕ) (n : ℕ) → below f (suc n) ≡ f 0 + below (λ i. f (suc i)) n
below-first f zero = omega arith
below-first f (suc n) = omega (arith, below-first f n)

-- so much for each op, and 8 for each word that it passes
abbrev pub weight : List Op → ℕ → ℕ
weight ops p = 640 + 8 * words_of (slice_index_or ops p op.Turn)

pub weights : (ops : List Op) → below (weight ops) (length ops) ≡ 640 * length ops + 8 * sum_by words_of ops
weights [] = omega arith
weights (o ∷ ops) =
    let first = below-first (weight (o ∷ ops)) (length ops) in
    let rest = weights ops in
    let s = sum_by-cons words_of o ops in
    omega (arith, first, rest, s)

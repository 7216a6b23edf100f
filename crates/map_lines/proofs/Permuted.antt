-- Numbers of elements that are distinct are so in any order, and those in front are too.
use Rattle.std.proofs.Common.{◌≡◌, ◌≢◌, ◌≤◌, ℕ, zero, suc, ◌+◌, Bool, true, false, List, [], ◌∷◌, eqb, map, take}
use Rattle.std.proofs.Common.{refl, sym, ap, ◌∙◌, subst, arith, inl, inr}
use Rattle.std.specs.Prelude.{sum_by}
use Rattle.std.specs.List.{AllByRecursion}
use Rattle.std.specs.List.Sorted.{IsPermutation}
use Rattle.std.proofs.lemmas.Bool.{eq-eqb, ne_eqb}
use Rattle.std.proofs.lemmas.Bool.Decides.{eqb_tells}
use Rattle.std.proofs.lemmas.List.Sorted.{sum_by-IsPermutation}
use Rattle.std.proofs.lemmas.List.Sums.{sum_by-cons}
use Rattle.flow_graph.specs.Graphs.{IsDistinct}

-- ---- how often a number occurs

abbrev one_if : Bool → ℕ
one_if true = 1
one_if false = 0

abbrev occurs : ℕ → List ℕ → ℕ
occurs v [] = 0
occurs v (w ∷ ws) = one_if (eqb w v) + occurs v ws

none-occurs : (v : ℕ) (ws : List ℕ) → AllByRecursion (λ q. q ≢ v) ws → occurs v ws ≡ 0
none-occurs v [] away = refl
none-occurs v (w ∷ ws) away =
    let first : one_if (eqb w v) ≡ 0 = ap (λ (b : Bool). one_if b) (ne_eqb w v away.0) in
    let rest = none-occurs v ws away.1 in
    omega (arith, first, rest)

once-occurs : (vs : List ℕ) → IsDistinct vs → (v : ℕ) → occurs v vs ≤ 1
once-occurs [] once v = omega arith
once-occurs (w ∷ ws) once v =
    elim (eqb_tells w v) [
      | inl same ↦
          let first : one_if (eqb w v) ≡ 1 = ap (λ (b : Bool). one_if b) same.0 in
          let rest = none-occurs v ws (subst (λ (x : ℕ). AllByRecursion (λ q. q ≢ x) ws) same.1 once.0) in
          omega (arith, first, rest)
      | inr other ↦
          let first : one_if (eqb w v) ≡ 0 = ap (λ (b : Bool). one_if b) other.0 in
          let rest = once-occurs ws once.1 v in
          omega (arith, first, rest)
    ]

away-from : (v : ℕ) (ws : List ℕ) → occurs v ws ≡ 0 → AllByRecursion (λ q. q ≢ v) ws
away-from v [] none = tt
away-from v (w ∷ ws) none = (
  λ same. (let first : one_if (eqb w v) ≡ 1 = ap (λ (b : Bool). one_if b) (eq-eqb w v same) in
      absurd (omega (arith, first, none))),
  away-from v ws (omega (arith, none)),
)

occurs-once : (vs : List ℕ) → ((v : ℕ) → occurs v vs ≤ 1) → IsDistinct vs
occurs-once [] once = tt
occurs-once (w ∷ ws) once =
    let first : one_if (eqb w w) ≡ 1 = ap (λ (b : Bool). one_if b) (eq-eqb w w refl) in
    let own = once w in (
      away-from w ws (omega (arith, first, own)),
      occurs-once ws (λ v. let all = once v in omega (arith, all)),
    )

-- ---- in any order

occurs-sum : {X : Type 0} (xs : List X) (f : X → ℕ) (v : ℕ)
    → occurs v (map f xs) ≡ sum_by (λ x. one_if (eqb (f x) v)) xs
occurs-sum [] f v = refl
occurs-sum {X} (x ∷ xs) f v =
    ap (λ (n : ℕ). one_if (eqb (f x) v) + n) (occurs-sum xs f v)
    ∙ sym (sum_by-cons (λ (y : X). one_if (eqb (f y) v)) x xs)

pub permuted-once : {X : Type 0} (xs ys : List X) (f : X → ℕ) → IsPermutation xs ys → IsDistinct (map f xs)
    → IsDistinct (map f ys)
permuted-once {X} xs ys f permuted once =
    occurs-once (map f ys)
    (λ v.
    let same : occurs v (map f ys) ≡ occurs v (map f xs) = occurs-sum ys f v
    ∙ (sum_by-IsPermutation (λ (y : X). one_if (eqb (f y) v)) xs ys permuted ∙ sym (occurs-sum xs f v)) in
    let all = once-occurs (map f xs) once v in
    omega (arith, same, all))

-- ---- in front

every-front : (P : ℕ → Type 0) (n : ℕ) (vs : List ℕ) → AllByRecursion P vs → AllByRecursion P (take n vs)
every-front P zero [] all = tt
every-front P zero (v ∷ vs) all = tt
every-front P (suc n) [] all = tt
every-front P (suc n) (v ∷ vs) all = (all.0, every-front P n vs all.1)

pub distinct-front : (n : ℕ) (vs : List ℕ) → IsDistinct vs → IsDistinct (take n vs)
distinct-front zero [] once = tt
distinct-front zero (v ∷ vs) once = tt
distinct-front (suc n) [] once = tt
distinct-front (suc n) (v ∷ vs) once = (every-front (λ q. q ≢ v) n vs once.0, distinct-front n vs once.1)

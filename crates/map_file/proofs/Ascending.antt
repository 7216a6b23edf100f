-- Numbers that ascend, and numbers that are distinct in any order.
use Rattle.std.proofs.Common.{◌≡◌, ◌≢◌, ◌↔◌, ◌≤◌, ◌<◌, ℕ, suc, ◌+◌, Bool, true, false, List, [], ◌∷◌, eqb}
use Rattle.std.proofs.Common.{length, get_or, refl, sym, ap, ◌∙◌, subst, arith, inl, inr, true≢false}
use Rattle.std.specs.Bool.{Decides}
use Rattle.std.specs.Prelude.{sum_by}
use Rattle.std.specs.List.{AllByRecursion}
use Rattle.std.specs.List.Sorted.{IsNonDecreasing, IsPermutation}
use Rattle.std.proofs.lemmas.Bool.{eq-eqb, ne_eqb}
use Rattle.std.proofs.lemmas.Bool.Decides.{eqb_tells}
use Rattle.std.proofs.lemmas.List.Sorted.{IsPermutation-sym, sum_by-IsPermutation}
use Rattle.std.proofs.lemmas.List.Sums.{sum_by-cons}
use Rattle.flow_graph.specs.Graphs.{IsDistinct}
use Rattle.flow_graph.specs.Lives.{IsAscending}

-- ---- numbers that ascend

-- each is at least so much, and they ascend
abbrev pub Follow : ℕ → List ℕ → Type 0
Follow least vs = AllByRecursion (λ w. least ≤ w) vs × IsAscending vs

-- numbers ascend exactly where those that are left follow
abbrev pub Ascends : List ℕ → ℕ → List ℕ → Type 0
Ascends all least left = IsAscending all ↔ Follow least left

from-none : (vs : List ℕ) → AllByRecursion (λ w. 0 ≤ w) vs
from-none [] = tt
from-none (v ∷ vs) = (omega arith, from-none vs)

-- at first all are left
pub all_left : (vs : List ℕ) → Ascends vs 0 vs
all_left vs = (λ up. (from-none vs, up), λ follow. follow.1)

above : (x : ℕ) (vs : List ℕ) → AllByRecursion (λ w. x < w) vs → AllByRecursion (λ w. x + 1 ≤ w) vs
above x [] all = tt
above x (v ∷ vs) all = (let first = all.0 in omega (arith, first), above x vs all.1)

below : (x : ℕ) (vs : List ℕ) → AllByRecursion (λ w. x + 1 ≤ w) vs → AllByRecursion (λ w. x < w) vs
below x [] all = tt
below x (v ∷ vs) all = (let first = all.0 in omega (arith, first), below x vs all.1)

least-all : (least x : ℕ) (vs : List ℕ) → least ≤ x → AllByRecursion (λ w. x < w) vs
    → AllByRecursion (λ w. least ≤ w) vs
least-all least x [] le all = tt
least-all least x (v ∷ vs) le all = (let first = all.0 in omega (arith, le, first), least-all least x vs le all.1)

-- the next is no smaller than the least that may follow
pub one_follows : (all : List ℕ) (least x : ℕ) (left rest : List ℕ) → left ≡ x ∷ rest → least ≤ x
    → Ascends all least left → Ascends all (x + 1) rest
one_follows all least x left rest is le so =
    let told : Ascends all least (x ∷ rest) = subst (λ (vs : List ℕ). Ascends all least vs) is so in (
      λ up. (let f = told.0 up in (above x rest f.1.0, f.1.1)),
      λ f. (let up = below x rest f.0 in told.1 ((le, least-all least x rest le up), (up, f.1))),
    )

-- it is smaller
pub none_follows : (all : List ℕ) (least x : ℕ) (left rest : List ℕ) → left ≡ x ∷ rest → x < least
    → Ascends all least left → Decides false (IsAscending all)
none_follows all least x left rest is lt so =
    let told : Ascends all least (x ∷ rest) = subst (λ (vs : List ℕ). Ascends all least vs) is so in (
      λ e. absurd (true≢false (sym e)),
      λ up. (let first = (told.0 up).0.0 in absurd (omega (arith, first, lt))),
    )

-- none is left
pub all_follow : (all : List ℕ) (least : ℕ) (left : List ℕ) → left ≡ [] → Ascends all least left
    → Decides true (IsAscending all)
all_follow all least left is so =
    let told : Ascends all least [] = subst (λ (vs : List ℕ). Ascends all least vs) is so in
    (λ e. told.1 (tt, tt), λ up. refl)

-- ---- how often a number occurs

abbrev one_if : Bool → ℕ
one_if true = 1
one_if false = 0

abbrev occurs : ℕ → List ℕ → ℕ
occurs v [] = 0
occurs v (w ∷ ws) = one_if (eqb w v) + occurs v ws

none-occurs : (v : ℕ) (ws : List ℕ) → AllByRecursion (λ q. q ≢ v) ws → occurs v ws ≡ 0
none-occurs v [] away = refl
none-occurs v (w ∷ ws) away =
    let first : one_if (eqb w v) ≡ 0 = ap (λ (b : Bool). one_if b) (ne_eqb w v away.0) in
    let rest = none-occurs v ws away.1 in
    omega (arith, first, rest)

once-occurs : (vs : List ℕ) → IsDistinct vs → (v : ℕ) → occurs v vs ≤ 1
once-occurs [] once v = omega arith
once-occurs (w ∷ ws) once v =
    elim (eqb_tells w v) [
      | inl same ↦
          let first : one_if (eqb w v) ≡ 1 = ap (λ (b : Bool). one_if b) same.0 in
          let rest = none-occurs v ws (subst (λ (x : ℕ). AllByRecursion (λ q. q ≢ x) ws) same.1 once.0) in
          omega (arith, first, rest)
      | inr other ↦
          let first : one_if (eqb w v) ≡ 0 = ap (λ (b : Bool). one_if b) other.0 in
          let rest = once-occurs ws once.1 v in
          omega (arith, first, rest)
    ]

away-from : (v : ℕ) (ws : List ℕ) → occurs v ws ≡ 0 → AllByRecursion (λ q. q ≢ v) ws
away-from v [] none = tt
away-from v (w ∷ ws) none = (
  λ same. (let first : one_if (eqb w v) ≡ 1 = ap (λ (b : Bool). one_if b) (eq-eqb w v same) in
      absurd (omega (arith, first, none))),
  away-from v ws (omega (arith, none)),
)

occurs-once : (vs : List ℕ) → ((v : ℕ) → occurs v vs ≤ 1) → IsDistinct vs
occurs-once [] once = tt
occurs-once (w ∷ ws) once =
    let first : one_if (eqb w w) ≡ 1 = ap (λ (b : Bool). one_if b) (eq-eqb w w refl) in
    let own = once w in (
      away-from w ws (omega (arith, first, own)),
      occurs-once ws (λ v. let all = once v in omega (arith, all)),
    )

occurs-sum : (ws : List ℕ) (v : ℕ) → occurs v ws ≡ sum_by (λ w. one_if (eqb w v)) ws
occurs-sum [] v = refl
occurs-sum (w ∷ ws) v =
    ap (λ (n : ℕ). one_if (eqb w v) + n) (occurs-sum ws v) ∙ sym (sum_by-cons (λ (y : ℕ). one_if (eqb y v)) w ws)

-- ---- numbers that are distinct

permuted-once : (xs ys : List ℕ) → IsPermutation xs ys → IsDistinct xs → IsDistinct ys
permuted-once xs ys permuted once =
    occurs-once ys
    (λ v.
    let same : occurs v ys ≡ occurs v xs = occurs-sum ys v
    ∙ (sum_by-IsPermutation (λ (y : ℕ). one_if (eqb y v)) xs ys permuted ∙ sym (occurs-sum xs v)) in
    let all = once-occurs xs once v in
    omega (arith, same, all))

apart : (v : ℕ) (ws : List ℕ) → AllByRecursion (λ w. v < w) ws → AllByRecursion (λ q. q ≢ v) ws
apart v [] up = tt
apart v (w ∷ ws) up = ((λ e. let first = up.0 in absurd (omega (arith, first, e))), apart v ws up.1)

ascending-once : (vs : List ℕ) → IsAscending vs → IsDistinct vs
ascending-once [] up = tt
ascending-once (v ∷ vs) up = (apart v vs up.0, ascending-once vs up.1)

rising : (v : ℕ) (ws : List ℕ) → ((k d : ℕ) → k < length ws → v ≤ get_or ws k d) → AllByRecursion (λ q. q ≢ v) ws
    → AllByRecursion (λ w. v < w) ws
rising v [] up away = tt
rising v (w ∷ ws) up away = (
  let first : v ≤ w = up 0 w (omega arith) in
      let other = away.0 in
      omega (arith, first, other),
  rising v ws (λ k d inside. up (suc k) d (omega (arith, inside))) away.1,
)

once-ascending : (vs : List ℕ) → IsNonDecreasing vs → IsDistinct vs → IsAscending vs
once-ascending [] up once = tt
once-ascending (v ∷ vs) up once = (
  rising v vs (λ k d inside. up 0 (suc k) d (omega arith) (omega (arith, inside))) once.0,
  once-ascending vs (λ i j d le inside. up (suc i) (suc j) d (omega (arith, le)) (omega (arith, inside))) once.1,
)

-- numbers are distinct exactly where they ascend when they are in order
pub sorted_once : (old new : List ℕ) (r : Bool) → IsPermutation old new → IsNonDecreasing new
    → Decides r (IsAscending new) → Decides r (IsDistinct old)
sorted_once old new r moved up told = (
  λ e. permuted-once new old (IsPermutation-sym old new moved) (ascending-once new (told.0 e)),
  λ once. told.1 (once-ascending new up (permuted-once old new moved once)),
)

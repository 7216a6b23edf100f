-- Variables in ascending order, with one more.
use Rattle.std.proofs.Common.{ℕ, zero, suc, ◌≡◌, ◌≢◌, ◌<◌, ◌≤◌, ◌+◌, ◌⊎◌, inl, inr, Bool, true, false, cond, List}
use Rattle.std.proofs.Common.{[], ◌∷◌, length, get_or, Option, Some, None, refl, sym, ap, subst, arith, ltb, eqb}
use Rattle.std.proofs.Common.{Result, Ok, Err}
use Rattle.std.specs.List.{AllByRecursion, insert}
use Rattle.std.specs.List.Sorted.{IsBinarySearchResult}
use Rattle.std.specs.Ordering.{nat_cmp}
use Rattle.std.proofs.lemmas.Bool.{eq-eqb, eqb-true, eqb-false, ne_eqb, le-ltb, lt-ltb, ltb-true, ltb-false}
use Rattle.std.proofs.lemmas.List.Sorted.{searched}
use Rattle.flow_graph.specs.Graphs.{IsIn}
use Rattle.flow_graph.specs.Lives.{IsAscending}
use Rattle.flow_graph.proofs.Points.{every-in}
use Rattle.allocator.specs.PointBoards.{with_one, with_result}
use Rattle.allocator.proofs.Placing.{at-in}
pub use Rattle.allocator.proofs.Placing.{every-get, rises}

above-other : (m n : ℕ) → m < n → n ≢ m
above-other m n h e = absurd (omega (arith, h, e))

-- ---- one more

one-there : (v : ℕ) (vs : List ℕ) → IsAscending vs → IsIn v vs → with_one v vs ≡ vs
one-there v [] a i = absurd i
one-there v (w ∷ ws) a (inl same) = rw (le-ltb v w (omega (arith, same)), eq-eqb v w (sym same)) refl
one-there v (w ∷ ws) a (inr h) =
    let low : w < v = every-in (λ x. w < x) v ws a.0 h in
    rw (le-ltb v w (omega (arith, low)), ne_eqb v w (above-other w v low))
    (ap (λ (more : List ℕ). w ∷ more) (one-there v ws a.1 h))

one-new :
    (v i : ℕ) (vs : List ℕ) → i ≤ length vs → ((k : ℕ) → k < i → get_or vs k 0 < v)
    → ((k : ℕ) → i ≤ k → k < length vs → v < get_or vs k 0) → insert vs i v ≡ with_one v vs
one-new v zero [] within below above = refl
one-new v (suc i) [] within below above = absurd (omega (arith, within))
one-new v zero (w ∷ ws) within below above =
    let high : v < w = above 0 (omega arith) (omega arith) in rw (lt-ltb v w high) refl
one-new v (suc i) (w ∷ ws) within below above =
    let low : w < v = below 0 (omega arith) in
    rw (le-ltb v w (omega (arith, low)), ne_eqb v w (above-other w v low))
    (ap (λ (more : List ℕ). w ∷ more)
    (one-new v i ws (omega (arith, within)) (λ k h. below (suc k) (omega (arith, h)))
    (λ k h g. above (suc k) (omega (arith, h)) (omega (arith, g)))))

-- what a binary search finds: the variable is there, or a place for it
pub one-found :
    (v i : ℕ) (vs ws : List ℕ) (r : Result ℕ ℕ) → ws ≡ vs → r ≡ Ok i → IsAscending vs
    → IsBinarySearchResult (λ y. nat_cmp y v) ws r → vs ≡ with_one v vs
one-found v i vs ws r same is a found =
    let at : IsBinarySearchResult (λ y. nat_cmp y v) vs (Ok i) =
    subst (λ (xs : List ℕ). IsBinarySearchResult (λ y. nat_cmp y v) xs (Ok i)) same
    (subst (λ (q : Result ℕ ℕ). IsBinarySearchResult (λ y. nat_cmp y v) ws q) is found) in
    let (lt, e) = searched vs v (Ok i) at (rises vs a) in
    sym (one-there v vs a (subst (λ (w : ℕ). IsIn w vs) e (at-in vs i lt)))

pub one-put :
    (v i : ℕ) (vs ws : List ℕ) (r : Result ℕ ℕ) → ws ≡ vs → r ≡ Err i → IsAscending vs
    → IsBinarySearchResult (λ y. nat_cmp y v) ws r → insert vs i v ≡ with_one v vs
one-put v i vs ws r same is a found =
    let at : IsBinarySearchResult (λ y. nat_cmp y v) vs (Err i) =
    subst (λ (xs : List ℕ). IsBinarySearchResult (λ y. nat_cmp y v) xs (Err i)) same
    (subst (λ (q : Result ℕ ℕ). IsBinarySearchResult (λ y. nat_cmp y v) ws q) is found) in
    let (within, below, above) = searched vs v (Err i) at (rises vs a) in
    one-new v i vs within below above

-- ---- what the variables with one more have

one-by : ℕ → ℕ → List ℕ → List ℕ → Bool → Bool → List ℕ
one-by v w ws more b c = cond b (v ∷ w ∷ ws) (cond c (w ∷ ws) (w ∷ more))

every-by :
    (P : ℕ → Type 0) (v w : ℕ) (ws more : List ℕ) (b c : Bool) → P v → AllByRecursion P (w ∷ ws)
    → AllByRecursion P more → AllByRecursion P (one-by v w ws more b c)
unfolding one-by
every-by P v w ws more true c p all rest = (p, all)
every-by P v w ws more false true p all rest = all
every-by P v w ws more false false p all rest = (all.0, rest)

pub every-one :
    (P : ℕ → Type 0) (v : ℕ) (vs : List ℕ) → P v → AllByRecursion P vs → AllByRecursion P (with_one v vs)
unfolding one-by
every-one P v [] p all = (p, tt)
every-one P v (w ∷ ws) p all =
    every-by P v w ws (with_one v ws) (ltb v w) (eqb v w) p all (every-one P v ws p all.1)

every-above : (v w : ℕ) (ws : List ℕ) → v < w → AllByRecursion (λ x. w < x) ws → AllByRecursion (λ x. v < x) ws
every-above v w [] low all = tt
every-above v w (x ∷ ws) low all = (let first = all.0 in omega (arith, first, low), every-above v w ws low all.1)

ascending-by :
    (v w : ℕ) (ws more : List ℕ) (b c : Bool) → ltb v w ≡ b → eqb v w ≡ c → IsAscending (w ∷ ws)
    → IsAscending more → (w < v → AllByRecursion (λ x. w < x) more) → IsAscending (one-by v w ws more b c)
unfolding one-by
ascending-by v w ws more true c test same a rest all =
    let low = ltb-true v w test in ((low, every-above v w ws low a.0), a)
ascending-by v w ws more false true test same a rest all = a
ascending-by v w ws more false false test other a rest all =
    let least = ltb-false v w test in
    let apart = eqb-false v w other in
    (all (omega (arith, least, apart)), rest)

pub ascending-one : (v : ℕ) (vs : List ℕ) → IsAscending vs → IsAscending (with_one v vs)
unfolding one-by
ascending-one v [] a = (tt, tt)
ascending-one v (w ∷ ws) a =
    ascending-by v w ws (with_one v ws) (ltb v w) (eqb v w) refl refl a (ascending-one v ws a.1)
    (λ low. every-one (λ x. w < x) v ws low a.0)

pub ascending-result : (d : Option ℕ) (vs : List ℕ) → IsAscending vs → IsAscending (with_result d vs)
ascending-result None vs a = a
ascending-result (Some v) vs a = ascending-one v vs a

-- ---- members

self-by : (v w : ℕ) (ws more : List ℕ) (b c : Bool) → eqb v w ≡ c → IsIn v more → IsIn v (one-by v w ws more b c)
unfolding one-by
self-by v w ws more true c same h = inl refl
self-by v w ws more false true same h = inl (sym (eqb-true v w same))
self-by v w ws more false false same h = inr h

pub in-one-self : (v : ℕ) (vs : List ℕ) → IsIn v (with_one v vs)
unfolding one-by
in-one-self v [] = inl refl
in-one-self v (w ∷ ws) = self-by v w ws (with_one v ws) (ltb v w) (eqb v w) refl (in-one-self v ws)

old-by :
    (x v w : ℕ) (ws more : List ℕ) (b c : Bool) → IsIn x (w ∷ ws) → (IsIn x ws → IsIn x more)
    → IsIn x (one-by v w ws more b c)
unfolding one-by
old-by x v w ws more true c i rest = inr i
old-by x v w ws more false true i rest = i
old-by x v w ws more false false (inl e) rest = inl e
old-by x v w ws more false false (inr h) rest = inr (rest h)

pub in-one-old : (x v : ℕ) (vs : List ℕ) → IsIn x vs → IsIn x (with_one v vs)
unfolding one-by
in-one-old x v [] i = absurd i
in-one-old x v (w ∷ ws) i = old-by x v w ws (with_one v ws) (ltb v w) (eqb v w) i (in-one-old x v ws)

new-by :
    (x v w : ℕ) (ws more : List ℕ) (b c : Bool) → (IsIn x more → (v ≡ x) ⊎ IsIn x ws)
    → IsIn x (one-by v w ws more b c) → (v ≡ x) ⊎ IsIn x (w ∷ ws)
unfolding one-by
new-by x v w ws more true c rest (inl e) = inl e
new-by x v w ws more true c rest (inr h) = inr h
new-by x v w ws more false true rest i = inr i
new-by x v w ws more false false rest (inl e) = inr (inl e)
new-by x v w ws more false false rest (inr h) = elim (rest h) [ inl e ↦ inl e | inr g ↦ inr (inr g) ]

pub in-one : (x v : ℕ) (vs : List ℕ) → IsIn x (with_one v vs) → (v ≡ x) ⊎ IsIn x vs
unfolding one-by
in-one x v [] (inl e) = inl e
in-one x v [] (inr h) = absurd h
in-one x v (w ∷ ws) i = new-by x v w ws (with_one v ws) (ltb v w) (eqb v w) (in-one x v ws) i

-- ---- how many

few-from :
    (v n : ℕ) (vs : List ℕ) → AllByRecursion (λ w. v < w) vs → IsAscending vs → AllByRecursion (λ w. w < n) vs
    → v < n → length vs + v < n
few-from v n [] above a below lt = omega (arith, lt)
few-from v n (w ∷ ws) above a below lt =
    let rest = few-from w n ws a.0 a.1 below.1 below.0 in
    let low = above.0 in
    omega (arith, rest, low)

-- ascending numbers below n are no more than n
pub few : (vs : List ℕ) (n : ℕ) → IsAscending vs → AllByRecursion (λ w. w < n) vs → length vs ≤ n
few [] n a below = omega arith
few (v ∷ vs) n a below = let rest = few-from v n vs a.0 a.1 below.1 below.0 in omega (arith, rest)

-- The places of points, and which variables are listed.
use Rattle.std.proofs.Common.{◌≡◌, ◌≢◌, ◌<◌, ◌≤◌, ◌+◌, ℕ, zero, suc, Bool, true, false, List, [], ◌∷◌, ◌++◌, length}
use Rattle.std.proofs.Common.{get_or, take, replicate, Option, Some, None, IfSome, ◌↔◌, inl, inr, refl, sym, ap, ◌∙◌}
use Rattle.std.proofs.Common.{subst, true≢false}
use Rattle.std.proofs.Common.{append_assoc, arith, ◌⊎◌, Result, Ok, Err}
use Rattle.std.specs.Prelude.{◌==◌, slice_get, slice_set, is_ok, is_some, IsTrue, MatchResult}
use Rattle.std.specs.List.{AllByRecursion}
use Rattle.std.specs.List.Sorted.{IsBinarySearchResult}
use Rattle.std.specs.Ordering.{nat_cmp}
use Rattle.std.proofs.lemmas.Bool.{cases_eq}
use Rattle.std.proofs.lemmas.List.{append-nil, get_or-set_other, get_or-set_same, length-append, length-take-le}
use Rattle.std.proofs.lemmas.List.{take_more}
use Rattle.std.proofs.lemmas.List.Sorted.{searched}
use Rattle.std.proofs.lemmas.Option.{none-some, same_Some, slice_get_within}
use Rattle.flow_graph.specs.Graphs.{Flow, IsFlow, IsIn, IsPlaced, Stands, has_point}
use Rattle.flow_graph.specs.Lives.{IsAscending}
use Rattle.flow_liveness.proofs.Placed.{placed-within}
use Rattle.flow_liveness.specs.Names.{joined, one_further, place_in, place_of}
use Rattle.allocator.specs.SplitForms.{ArePlaces, placed_count}
use Rattle.flow_liveness.proofs.Naming.{equal-test, in-either, in-test, other-test, place-at}
use Rattle.flow_liveness.proofs.Naming.{placed-place, test-in}
use Rattle.flow_liveness.proofs.Distancing.{split}

-- ---- members by place

pub at-in : (vs : List ℕ) (k : ℕ) → k < length vs → IsIn (get_or vs k 0) vs
at-in [] k lt = absurd (omega (arith, lt))
at-in (v ∷ vs) zero lt = inl refl
at-in (v ∷ vs) (suc k) lt = inr (at-in vs k (omega (arith, lt)))

in-at : (v : ℕ) (vs : List ℕ) → IsIn v vs → (k : ℕ) × (k < length vs) × (get_or vs k 0 ≡ v)
in-at v [] i = absurd i
in-at v (w ∷ vs) (inl e) = (0, omega arith, e)
in-at v (w ∷ vs) (inr h) = let (k, lt, e) = in-at v vs h in (suc k, omega (arith, lt), e)

got-in : (vs : List ℕ) (k p : ℕ) → slice_get vs k ≡ Some p → IsIn p vs
got-in [] k p e = absurd (none-some p e)
got-in (v ∷ vs) zero p e = inl (same_Some v p e)
got-in (v ∷ vs) (suc k) p e = inr (got-in vs k p e)

not-in : (v : ℕ) (vs : List ℕ) → (IsIn v vs → ⊥) → has_point v vs ≡ false
not-in v vs n = by (has_point v vs) (λ e. n (test-in v vs e))
  where
    by : (b : Bool) → (b ≡ true → ⊥) → b ≡ false
    by true h = absurd (h refl)
    by false h = refl

-- ---- binary search

pub every-get : (P : ℕ → Type 0) (vs : List ℕ) (k : ℕ) → AllByRecursion P vs → k < length vs → P (get_or vs k 0)
every-get P [] k h lt = absurd (omega (arith, lt))
every-get P (v ∷ vs) zero h lt = h.0
every-get P (v ∷ vs) (suc k) h lt = every-get P vs k h.1 (omega (arith, lt))

pub rises : (vs : List ℕ) → IsAscending vs → (i j : ℕ) → i ≤ j → j < length vs → get_or vs i 0 ≤ get_or vs j 0
rises [] h i j le lt = absurd (omega (arith, lt))
rises (v ∷ vs) h zero zero le lt = omega arith
rises (v ∷ vs) h zero (suc j) le lt =
    let less = every-get (λ w. v < w) vs j h.0 (omega (arith, lt)) in omega (arith, less)
rises (v ∷ vs) h (suc i) zero le lt = absurd (omega (arith, le))
rises (v ∷ vs) h (suc i) (suc j) le lt = rises vs h.1 i j (omega (arith, le)) (omega (arith, lt))

-- a binary search tells whether a variable is listed
pub listed-told : (vs : List ℕ) (v : ℕ) (r : Result ℕ ℕ) → IsAscending vs
    → IsBinarySearchResult (λ y. nat_cmp y v) vs r → is_ok r ≡ has_point v vs
listed-told vs v r h found = by r (searched vs v r found (rises vs h))
  where
    by : (r : Result ℕ ℕ)
        → MatchResult r (λ i. (i < length vs) × (get_or vs i 0 ≡ v))
        (λ i. (i ≤ length vs) × ((k : ℕ) → k < i → get_or vs k 0 < v)
        × ((k : ℕ) → i ≤ k → k < length vs → v < get_or vs k 0))
        → is_ok r ≡ has_point v vs
    by (Ok i) (lt, e) = sym (in-test v vs (subst (λ (w : ℕ). IsIn w vs) e (at-in vs i lt)))
    by (Err i) (le, below, above) = sym (not-in v vs none)
      where
        none : IsIn v vs → ⊥
        none here =
            let (k, lt, e) = in-at v vs here in
            elim (split k i) [
              | inl less ↦ let l = below k less in absurd (omega (arith, l, e))
              | inr more ↦ let l = above k more lt in absurd (omega (arith, l, e))
            ]

-- ---- places

placed-joined : (p : ℕ) (blocks : List (List ℕ)) → IsIn p (joined blocks) → (b : ℕ) × IsIn p (get_or blocks b [])
placed-joined p [] i = absurd i
placed-joined p (ps ∷ blocks) i =
    elim (in-either p ps (joined blocks) i) [
      | inl here ↦ (0, here)
      | inr later ↦ let (b, h) = placed-joined p blocks later in (suc b, h)
    ]

-- a point that has a place is in a block, and its place is below their points' number
pub place-there : (flow : Flow) (p : ℕ) (o : Option ℕ) → o ≡ place_of flow p → placed_count flow < 0x80000000
    → IfSome o (λ place. (place < 0x80000000) × IsPlaced flow p)
place-there flow p None e few = tt
place-there flow p (Some i) e few =
    let at = place-at p (joined flow.blocks) i (sym e) in
    let below = slice_get_within (joined flow.blocks) i p at in
    (omega (arith, below, few), placed-joined p flow.blocks (got-in (joined flow.blocks) i p at))

-- a point has a place exactly where it is in a block
pub placed-told : (flow : Flow) (p : ℕ) (o : Option ℕ) → o ≡ place_of flow p
    → IfSome o (λ place. (place < 0x80000000) × IsPlaced flow p) → IsTrue (is_some o) ↔ IsPlaced flow p
placed-told flow p None e there = (
  λ f. absurd (true≢false (sym f)),
  λ placed. let (i, h) = placed-place flow p placed in absurd (none-some i (e ∙ h)),
)
placed-told flow p (Some i) e there = (λ f. there.1, λ placed. refl)

-- a point behind others has the next place
last-place : (q : ℕ) (done : List ℕ) → place_in q (done ++ q ∷ []) ≡ Some (length done)
last-place q [] = ap (one_further None) (equal-test q q refl)
last-place q (x ∷ done) =
    ap (λ (o : Option ℕ). one_further o (x == q)) (last-place q done)
    ∙ (let e : suc (length done) ≡ length (x ∷ done) = omega arith in ap Some e)

-- and the others keep theirs
other-place : (p q : ℕ) (done : List ℕ) → q ≢ p → place_in p (done ++ q ∷ []) ≡ place_in p done
other-place p q [] n = ap (one_further None) (other-test q p n)
other-place p q (x ∷ done) n = ap (λ (o : Option ℕ). one_further o (x == p)) (other-place p q done n)

pub place-push : (done : List ℕ) (places : List (Option ℕ)) (q n : ℕ) → ArePlaces done places → q < length places
    → n ≡ length done → ArePlaces (done ++ q ∷ []) (slice_set places q (Some n))
place-push done places q n h lt e p =
    elim (cases_eq p q) [
      | inl same ↦ ap (λ (x : ℕ). get_or (slice_set places q (Some n)) x None) same
          ∙ (get_or-set_same places q (Some n) None lt ∙ (ap Some e
          ∙ (sym (last-place q done) ∙ ap (λ (x : ℕ). place_in x (done ++ q ∷ [])) (sym same))))
      | inr other ↦ get_or-set_other places q p (Some n) None other
          ∙ (h p ∙ sym (other-place p q done (λ s. other (sym s))))
    ]

-- one point more
pub place-more : (done points : List ℕ) (i first : ℕ) (places : List (Option ℕ))
    → ArePlaces (done ++ take i points) places → i < length points → length done ≡ first
    → get_or points i 0 < length places
    → ArePlaces (done ++ take (i + 1) points) (slice_set places (get_or points i 0) (Some (first + i)))
place-more done points i first places h lt e within =
    let q = get_or points i 0 in
    let front : length (take i points) ≡ i = length-take-le i points (omega (arith, lt)) in
    let count : first + i ≡ length (done ++ take i points) =
    omega (arith, length-append done (take i points), front, e) in
    subst (λ (ps : List ℕ). ArePlaces ps (slice_set places q (Some (first + i))))
    (append_assoc done (take i points) (q ∷ []) ∙ ap (λ (ps : List ℕ). done ++ ps) (sym (take_more points i 0 lt)))
    (place-push (done ++ take i points) places q (first + i) h within count)

-- no point has a place at first
pub no-place : (n : ℕ) → ArePlaces [] (replicate n None)
no-place zero p = refl
no-place (suc n) zero = refl
no-place (suc n) (suc p) = no-place n p

-- ---- the points of the blocks so far

joined-append : (xs ys : List (List ℕ)) → joined (xs ++ ys) ≡ joined xs ++ joined ys
joined-append [] ys = refl
joined-append (x ∷ xs) ys =
    ap (λ (ps : List ℕ). x ++ ps) (joined-append xs ys) ∙ sym (append_assoc x (joined xs) (joined ys))

pub joined-more : (blocks : List (List ℕ)) (b : ℕ) → b < length blocks
    → joined (take (b + 1) blocks) ≡ joined (take b blocks) ++ get_or blocks b []
joined-more blocks b lt =
    ap joined (take_more blocks b [] lt)
    ∙ (joined-append (take b blocks) (get_or blocks b [] ∷ [])
    ∙ ap (λ (ps : List ℕ). joined (take b blocks) ++ ps) (append-nil (get_or blocks b [])))

-- and how many there are
pub joined-few : (blocks : List (List ℕ)) (b : ℕ) → b < length blocks
    → length (joined (take b blocks)) + length (get_or blocks b []) ≤ length (joined blocks)
joined-few [] b lt = absurd (omega (arith, lt))
joined-few (ps ∷ blocks) zero lt = let e = length-append ps (joined blocks) in omega (arith, e)
joined-few (ps ∷ blocks) (suc b) lt =
    let more = joined-few blocks b (omega (arith, lt)) in
    let e = length-append ps (joined (take b blocks)) in
    let f = length-append ps (joined blocks) in
    omega (arith, more, e, f)

-- the points of a block are points that were made
pub points-within : (flow : Flow) (homes : List ℕ) → IsFlow flow homes → (block p : ℕ) → Stands flow p block
    → p < length flow.ops
points-within flow homes is block p stands = placed-within flow homes is p (block, stands)

-- what is put back in front is all
pub take-front : {A : Type 0} (n : ℕ) (xs ys : List A) → n ≡ length xs → take n (xs ++ ys) ≡ xs
take-front n [] ys e = ap (λ (k : ℕ). take k ys) e
take-front zero (x ∷ xs) ys e = absurd (omega (arith, e))
take-front (suc n) (x ∷ xs) ys e = ap (λ (zs : List _). x ∷ zs) (take-front n xs ys (omega (arith, e)))

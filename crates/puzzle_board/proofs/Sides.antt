-- Places of variables in ascending order: what is found of them, and what they are with one more.
use Rattle.std.proofs.Common.{ℕ, zero, suc, ◌≡◌, ◌≢◌, ◌<◌, ◌≤◌, ◌==◌, Bool, true, false, cond, List, [], ◌∷◌}
use Rattle.std.proofs.Common.{length, set, get_or, Option, Some, None, refl, sym, ap, subst, arith, ◌∙◌, ltb}
use Rattle.std.specs.List.{AllByRecursion, slice_get, insert}
use Rattle.std.specs.List.Sorted.{IsNonDecreasingBy, IsPartitionPoint}
use Rattle.std.proofs.lemmas.Bool.{eq-eqb, eqb-true, eqb-false, ne_eqb, le-ltb, lt-ltb, ltb-false, ltb-true}
use Rattle.std.proofs.lemmas.Option.{get_or_from_slice_get, slice_get-get_or, slice_get_past}
use Rattle.std.proofs.lemmas.Option.{slice_get_within}
use Rattle.puzzle_board.specs.declared.place.Place.{Place}
use Rattle.puzzle_board.specs.Places.{Entry, IsPosition, IsRising, is_entry_of, place_in, with_place}

-- ---- ascending

-- entries that ascend by recursion do so by number
rising-far :
    (n : ℕ) (entries : List Entry) (j : ℕ) (d : Entry) → AllByRecursion (λ f. n < f.0) entries → j < length entries
    → n < (get_or entries j d).0
rising-far n [] j d h within = absurd (omega arith)
rising-far n (e ∷ entries) zero d h within = h.0
rising-far n (e ∷ entries) (suc j) d h within = rising-far n entries j d h.1 (omega arith)

pub rising-by :
    (entries : List Entry) → IsRising entries → IsNonDecreasingBy (λ (e : Entry). e.0) entries
rising-by [] h i j d le within = absurd (omega arith)
rising-by (e ∷ entries) h zero zero d le within = omega arith
rising-by (e ∷ entries) h zero (suc j) d le within =
    let far = rising-far e.0 entries j d h.0 (omega arith) in omega arith
rising-by (e ∷ entries) h (suc i) zero d le within = absurd (omega arith)
rising-by (e ∷ entries) h (suc i) (suc j) d le within = rising-by entries h.1 i j d (omega arith) (omega arith)

-- where the others end and begin
pub position-of :
    (entries : List Entry) (v i : ℕ) → i ≤ length entries
    → IsPartitionPoint (λ (e : Entry). ltb e.0 v ≡ true) (λ (e : Entry). ltb e.0 v ≡ false) entries i
    → IsPosition entries v i
position-of entries v i within point = record {
  within = within;
  below = λ k e is h.
      let low = ltb-true (get_or entries k e).0 v (point.0 k e (omega arith) h) in
      subst (λ (f : Entry). f.0 < v) (get_or_from_slice_get entries k e e is) low;
  above = λ k e is h.
      let high = ltb-false (get_or entries k e).0 v (point.1 k e h (slice_get_within entries k e is)) in
      subst (λ (f : Entry). v ≤ f.0) (get_or_from_slice_get entries k e e is) high;
}

-- ---- what is found

less-suc : (k i : ℕ) → k < i → suc k < suc i
less-suc k i h = omega arith

le-suc : (k i : ℕ) → i ≤ k → suc i ≤ suc k
le-suc k i h = omega arith

position-rest :
    (e : Entry) (entries : List Entry) (v i : ℕ) → IsPosition (e ∷ entries) v (suc i) → IsPosition entries v i
position-rest e entries v i p = record {
  within = let w = p.within in omega arith;
  below = λ k f is h. p.below (suc k) f is (less-suc k i h);
  above = λ k f is h. p.above (suc k) f is (le-suc k i h);
}

smaller-other : (m n : ℕ) → m < n → m ≢ n
smaller-other m n h e = absurd (omega (arith, h, e))

greater-other : (m n : ℕ) → m < n → n ≢ m
greater-other m n h e = absurd (omega (arith, h, e))

-- the first entry is smaller than what comes behind it
first-smaller :
    (e : Entry) (entries : List Entry) (v i : ℕ) → IsPosition (e ∷ entries) v (suc i) → e.0 < v
first-smaller e entries v i p = p.below zero e refl (omega arith)

-- a variable whose entry is there has its place
pub place-here :
    (entries : List Entry) (v i : ℕ) (d : Entry) → IsPosition entries v i → i < length entries
    → (get_or entries i d).0 ≡ v → place_in entries v ≡ Some (get_or entries i d).1
place-here [] v i d p within is = absurd (omega arith)
place-here (e ∷ entries) v zero d p within is = ap (λ b. cond b (Some e.1) (place_in entries v)) (eq-eqb e.0 v is)
place-here (e ∷ entries) v (suc i) d p within is =
    ap (λ b. cond b (Some e.1) (place_in entries v))
    (ne_eqb e.0 v (smaller-other e.0 v (first-smaller e entries v i p)))
    ∙ place-here entries v i d (position-rest e entries v i p) (omega arith) is

place-beyond :
    (entries : List Entry) (v : ℕ) → AllByRecursion (λ f. v < f.0) entries → place_in entries v ≡ None
place-beyond [] v h = refl
place-beyond (e ∷ entries) v h =
    ap (λ b. cond b (Some e.1) (place_in entries v)) (ne_eqb e.0 v (greater-other v e.0 h.0))
    ∙ place-beyond entries v h.1

all-beyond :
    (entries : List Entry) (m n : ℕ) → m < n → AllByRecursion (λ f. n < f.0) entries
    → AllByRecursion (λ f. m < f.0) entries
all-beyond [] m n h all = tt
all-beyond (e ∷ entries) m n h all = (let first = all.0 in omega arith, all-beyond entries m n h all.1)

-- the first entry is greater, where it is no smaller and not the variable's
first-greater :
    (e : Entry) (entries : List Entry) (v : ℕ) → IsPosition (e ∷ entries) v zero → (e.0 == v) ≡ false → v < e.0
first-greater e entries v p other =
    let least = p.above zero e refl (omega arith) in
    let apart = eqb-false e.0 v other in
    omega (arith, least, apart)

-- a variable whose entry isn't there has none
pub place-nowhere :
    (entries : List Entry) (v i : ℕ) → IsRising entries → IsPosition entries v i
    → is_entry_of (slice_get entries i) v ≡ false → place_in entries v ≡ None
place-nowhere [] v i rising p other = refl
place-nowhere (e ∷ entries) v zero rising p other =
    place-beyond (e ∷ entries) v (
      first-greater e entries v p other,
      all-beyond entries v e.0 (first-greater e entries v p other) rising.0,
    )
place-nowhere (e ∷ entries) v (suc i) rising p other =
    ap (λ b. cond b (Some e.1) (place_in entries v))
    (ne_eqb e.0 v (smaller-other e.0 v (first-smaller e entries v i p)))
    ∙ place-nowhere entries v i rising.1 (position-rest e entries v i p) other

-- ---- with a place

-- the entry that is there changes
pub with-here :
    (entries : List Entry) (v i : ℕ) (d : Entry) (place : Place) → IsPosition entries v i → i < length entries
    → (get_or entries i d).0 ≡ v → set entries i (v, place) ≡ with_place entries v place
with-here [] v i d place p within is = absurd (omega arith)
with-here (e ∷ entries) v zero d place p within is = rw (eq-eqb e.0 v is) refl
with-here (e ∷ entries) v (suc i) d place p within is =
    let low = first-smaller e entries v i p in
    rw (ne_eqb e.0 v (smaller-other e.0 v low), le-ltb v e.0 (omega arith))
    (ap (λ more. e ∷ more) (with-here entries v i d place (position-rest e entries v i p) (omega arith) is))

-- or one comes in
pub with-new :
    (entries : List Entry) (v i : ℕ) (place : Place) → IsPosition entries v i
    → is_entry_of (slice_get entries i) v ≡ false → insert entries i (v, place) ≡ with_place entries v place
with-new [] v zero place p other = refl
with-new [] v (suc i) place p other = let w = p.within in absurd (omega arith)
with-new (e ∷ entries) v zero place p other =
    rw (other, lt-ltb v e.0 (first-greater e entries v p other)) refl
with-new (e ∷ entries) v (suc i) place p other =
    let low = first-smaller e entries v i p in
    rw (ne_eqb e.0 v (smaller-other e.0 v low), le-ltb v e.0 (omega arith))
    (ap (λ more. e ∷ more) (with-new entries v i place (position-rest e entries v i p) other))

-- what with_place makes, by its two tests
pub with-by : Entry → List Entry → ℕ → Place → List Entry → Bool → Bool → List Entry
with-by e entries v place more b c = cond b ((v, place) ∷ entries) (cond c ((v, place) ∷ e ∷ entries) (e ∷ more))

all-with-by :
    (e : Entry) (entries : List Entry) (m v : ℕ) (place : Place) (more : List Entry) (b c : Bool) → m < v
    → AllByRecursion (λ f. m < f.0) (e ∷ entries) → AllByRecursion (λ f. m < f.0) more
    → AllByRecursion (λ f. m < f.0) (with-by e entries v place more b c)
unfolding with-by
all-with-by e entries m v place more true c low all rest = (low, all.1)
all-with-by e entries m v place more false true low all rest = (low, all)
all-with-by e entries m v place more false false low all rest = (all.0, rest)

all-with :
    (entries : List Entry) (m v : ℕ) (place : Place) → m < v → AllByRecursion (λ f. m < f.0) entries
    → AllByRecursion (λ f. m < f.0) (with_place entries v place)
unfolding with-by
all-with [] m v place low all = (low, tt)
all-with (e ∷ entries) m v place low all =
    all-with-by e entries m v place (with_place entries v place) (e.0 == v) (ltb v e.0) low all
    (all-with entries m v place low all.1)

rising-with-by :
    (e : Entry) (entries : List Entry) (v : ℕ) (place : Place) (more : List Entry) (b c : Bool) → (e.0 == v) ≡ b
    → ltb v e.0 ≡ c → IsRising (e ∷ entries) → IsRising more
    → (e.0 < v → AllByRecursion (λ f. e.0 < f.0) more) → IsRising (with-by e entries v place more b c)
unfolding with-by
rising-with-by e entries v place more true c same test h rest all =
    (subst (λ (n : ℕ). AllByRecursion (λ f. n < f.0) entries) (eqb-true e.0 v same) h.0, h.1)
rising-with-by e entries v place more false true other test h rest all =
    let low = ltb-true v e.0 test in
    ((low, all-beyond entries v e.0 low h.0), h)
rising-with-by e entries v place more false false other test h rest all =
    let least = ltb-false v e.0 test in
    let apart = eqb-false e.0 v other in
    (all (omega (arith, least, apart)), rest)

-- the entries still ascend
pub rising-with :
    (entries : List Entry) (v : ℕ) (place : Place) → IsRising entries → IsRising (with_place entries v place)
unfolding with-by
rising-with [] v place h = (tt, tt)
rising-with (e ∷ entries) v place h =
    rising-with-by e entries v place (with_place entries v place) (e.0 == v) (ltb v e.0) refl refl h
    (rising-with entries v place h.1) (λ low. all-with entries e.0 v place low h.0)

-- ---- an entry that is read

-- the test of an entry that is there
pub entry-is :
    (entries : List Entry) (v i : ℕ) (d : Entry) → i < length entries
    → ((get_or entries i d).0 == v) ≡ is_entry_of (slice_get entries i) v
entry-is entries v i d within =
    ap (λ (o : Option Entry). is_entry_of o v) (sym (slice_get-get_or entries i d within))

pub entry-past :
    (entries : List Entry) (v i : ℕ) → length entries ≤ i → false ≡ is_entry_of (slice_get entries i) v
entry-past entries v i past = ap (λ (o : Option Entry). is_entry_of o v) (sym (slice_get_past entries i past))

-- an entry of the variable is there
pub entry-within :
    (entries : List Entry) (v i : ℕ) → is_entry_of (slice_get entries i) v ≡ true → i < length entries
entry-within [] v i is = absurd (cc)
entry-within (e ∷ entries) v zero is = omega arith
entry-within (e ∷ entries) v (suc i) is = let w = entry-within entries v i is in omega arith

pub entry-named :
    (entries : List Entry) (v i : ℕ) (d : Entry) → is_entry_of (slice_get entries i) v ≡ true
    → (get_or entries i d).0 ≡ v
entry-named [] v i d is = absurd (cc)
entry-named (e ∷ entries) v zero d is = eqb-true e.0 v is
entry-named (e ∷ entries) v (suc i) d is = entry-named entries v i d is

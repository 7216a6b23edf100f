-- The arrays of active calls by their names: where they stand among all, and what is read and written there.
use Rattle.std.proofs.Common.{◌≡◌, ◌∙◌, ℕ, zero, suc, ◌+◌, ◌<◌, ◌≤◌, ℤ, List, [], ◌∷◌, length, take, drop, refl, sym}
use Rattle.std.proofs.Common.{ap, subst, arith, inl, inr}
use Rattle.std.specs.Prelude.{true, false, nat_lt, slice_index_or, slice_set, Some, None}
use Rattle.std.proofs.lemmas.Bool.{cases_Bool}
use Rattle.std.proofs.lemmas.Bool.Decides.{nat_tests}
use Rattle.std.proofs.lemmas.List.{set_past, length-drop}
use Rattle.std.proofs.lemmas.Option.{same_Some}
use Rattle.c_tree.specs.Store.{Held, Activation, call_of_depth, arrays_in, with_array_in}
use Rattle.c_eval_state.specs.declared.calls.Call.{Call}
use Rattle.c_eval_state.specs.Kept.{active_in, AreCalls, call_at, frame_array, array_in}
use Rattle.c_eval_state.proofs.Pieces.{piece-at, piece-past}
use Rattle.c_eval_state.proofs.Active.{active-length, frame-arrays, frame-set, depth-zero, deeper-none, set-here}

-- the test of std for numbers in order
in-order : (a b : ℕ) → nat_lt a b ≡ true → a < b
in-order a b e = grind (arith, nat_tests, e)

not-in-order : (a b : ℕ) → nat_lt a b ≡ false → b ≤ a
not-in-order a b e = grind (arith, nat_tests, e)

-- where an array stands that is there
array-in : (c : Call) (k at : ℕ) → array_in c k ≡ Some at → (k < c.count) × (c.arrays + k ≡ at)
array-in c k at e =
    elim (cases_Bool (nat_lt k c.count)) [
      | inl t ↦ (in-order k c.count t, same_Some _ _ (rw t at e))
      | inr f ↦ absurd (not_some (rw f at e))
    ]
  where
    not_some : None ≡ Some at → ⊥
    not_some x = absurd (cc)

array-absent : (c : Call) (k : ℕ) → array_in c k ≡ None → c.count ≤ k
array-absent c k e =
    elim (cases_Bool (nat_lt k c.count)) [
      | inl t ↦ absurd (not_none (rw t at e))
      | inr f ↦ not-in-order k c.count f
    ]
  where
    not_none : Some (c.arrays + k) ≡ None → ⊥
    not_none x = absurd (cc)

-- an array of an active call is read
pub frame-read : (calls : List Call) (values : List Held) (arrays : List (List ℤ)) (count k depth at : ℕ)
    → AreCalls calls (length calls) count (length arrays) → frame_array calls k depth ≡ Some at
    → slice_index_or (arrays_in (call_of_depth (active_in calls (length calls) values arrays) depth)) k []
    ≡ slice_index_or arrays at []
frame-read calls values arrays count k zero at h e = absurd (cc)
frame-read calls values arrays count k (suc place) at h e =
    elim (cases_Bool (nat_lt place (length calls))) [
      | inl t ↦ (let found = array-in (call_at calls place) k at (rw t at e) in
          ap (λ rows. slice_index_or rows k [])
          (frame-arrays calls (length calls) values arrays count (length arrays) place h refl (in-order place
          (length calls) t))
          ∙ (piece-at arrays (call_at calls place).arrays (call_at calls place).count k [] found.0
          ∙ ap (λ n. slice_index_or arrays n []) found.1))
      | inr f ↦ absurd (not_some (rw f at e))
    ]
  where
    not_some : None ≡ Some at → ⊥
    not_some x = absurd (cc)

-- and one that isn't there has no elements
pub frame-unread : (calls : List Call) (values : List Held) (arrays : List (List ℤ)) (count k depth : ℕ)
    → AreCalls calls (length calls) count (length arrays) → frame_array calls k depth ≡ None
    → slice_index_or (arrays_in (call_of_depth (active_in calls (length calls) values arrays) depth)) k [] ≡ []
frame-unread calls values arrays count k zero h e =
    ap (λ found. slice_index_or (arrays_in found) k []) (depth-zero calls (length calls) values arrays)
frame-unread calls values arrays count k (suc place) h e =
    elim (cases_Bool (nat_lt place (length calls))) [
      | inl t ↦ (let absent = array-absent (call_at calls place) k (rw t at e) in
          ap (λ rows. slice_index_or rows k [])
          (frame-arrays calls (length calls) values arrays count (length arrays) place h refl (in-order place
          (length calls) t))
          ∙ piece-past arrays (call_at calls place).arrays (call_at calls place).count k [] absent)
      | inr f ↦ ap (λ found. slice_index_or (arrays_in found) k [])
          (deeper-none calls (length calls) values arrays (suc place)
          (omega (arith, not-in-order place (length calls) f)))
    ]

-- an array of an active call has other elements
pub frame-written : (calls : List Call) (values : List Held) (arrays : List (List ℤ)) (count k depth at : ℕ)
    (elements : List ℤ) → AreCalls calls (length calls) count (length arrays) → frame_array calls k depth ≡ Some at
    → active_in calls (length calls) values (slice_set arrays at elements)
    ≡ with_array_in k depth elements (active_in calls (length calls) values arrays)
frame-written calls values arrays count k zero at elements h e = absurd (cc)
frame-written calls values arrays count k (suc place) at elements h e =
    elim (cases_Bool (nat_lt place (length calls))) [
      | inl t ↦ (let found = array-in (call_at calls place) k at (rw t at e) in
          ap (λ n. active_in calls (length calls) values (slice_set arrays n elements)) (sym found.1)
          ∙ frame-set calls (length calls) values arrays count (length arrays) place k elements h
          (in-order place (length calls) t) found.0)
      | inr f ↦ absurd (not_some (rw f at e))
    ]
  where
    not_some : None ≡ Some at → ⊥
    not_some x = absurd (cc)

-- the youngest call has no such array: nothing is changed
own-unwritten-in : (calls : List Call) (n : ℕ) (values : List Held) (arrays : List (List ℤ)) (count all k : ℕ)
    (elements : List ℤ) → AreCalls calls n count all → length arrays ≡ all
    → ((place : ℕ) → n ≡ suc place → (call_at calls place).count ≤ k)
    → with_array_in k n elements (active_in calls n values arrays) ≡ active_in calls n values arrays
own-unwritten-in calls zero values arrays count all k elements h l absent = refl
own-unwritten-in calls (suc n) values arrays count all k elements h l absent =
    let c = call_at calls n in
    let rest = active_in calls n (take c.locals values) (take c.arrays arrays) in
    let head : List (List ℤ) → Activation = λ zs. record { values = drop c.locals values; arrays = zs } in
    set-here (head (drop c.arrays arrays)) rest n k elements (active-length calls n _ _)
    ∙ ap (λ zs. head zs ∷ rest) (set_past (drop c.arrays arrays) k elements
    (omega (arith, h.1, l, absent n refl, length-drop c.arrays arrays)))

pub own-unwritten : (calls : List Call) (values : List Held) (arrays : List (List ℤ)) (count k : ℕ)
    (elements : List ℤ) → AreCalls calls (length calls) count (length arrays)
    → frame_array calls k (length calls) ≡ None
    → with_array_in k (length calls) elements (active_in calls (length calls) values arrays)
    ≡ active_in calls (length calls) values arrays
own-unwritten calls values arrays count k elements h e =
    own-unwritten-in calls (length calls) values arrays count (length arrays) k elements h refl
    (λ place is. absent place is)
  where
    absent : (place : ℕ) → length calls ≡ suc place → (call_at calls place).count ≤ k
    absent place is =
        let told : frame_array calls k (suc place) ≡ None = subst (λ d. frame_array calls k d ≡ None) is e in
        elim (cases_Bool (nat_lt place (length calls))) [
          | inl t ↦ array-absent (call_at calls place) k (rw t at told)
          | inr f ↦ absurd (omega (arith, is, not-in-order place (length calls) f))
        ]

-- The active calls that vectors stand for: what is read of them, and what stays when one of them changes.
use Rattle.std.proofs.Common.{◌≡◌, ◌∙◌, ℕ, zero, suc, ◌+◌, ◌<◌, ◌≤◌, ℤ, List, [], ◌∷◌, ◌++◌, length, take, drop, refl}
use Rattle.std.proofs.Common.{sym, ap, ap₂}
use Rattle.std.proofs.Common.{arith, slice_set, subst, inl, inr}
use Rattle.std.specs.Prelude.{◌==◌, true, false, slice_index_or, Some, None}
use Rattle.std.proofs.lemmas.Bool.{cases_eq}
use Rattle.std.proofs.lemmas.Bool.Decides.{eqb_tells}
use Rattle.c_eval_state.proofs.Pieces.{piece-take, take-set}
use Rattle.std.proofs.lemmas.List.{drop_at, take_at, take_all, take-set-le, drop-set-lt, drop-set-add}
use Rattle.std.proofs.lemmas.List.{length-take-le, length-drop, get_or-take, get_or-drop}
use Rattle.std.proofs.lemmas.List.{get_or_append_left, get_or_at}
use Rattle.c_tree.specs.Store.{Held, Activation, youngest, with_youngest, call_of_depth, arrays_in, with_own}
use Rattle.c_tree.specs.Store.{with_array_in}
use Rattle.c_tree.specs.Evaluation.{older}
use Rattle.c_eval_state.specs.declared.calls.Call.{Call}
use Rattle.c_eval_state.specs.Kept.{active_in, AreCalls, call_at, no_call}

-- ---- how many

pub active-length : (calls : List Call) (n : ℕ) (values : List Held) (arrays : List (List ℤ))
    → length (active_in calls n values arrays) ≡ n
active-length calls zero values arrays = refl
active-length calls (suc n) values arrays = ap suc (active-length calls n _ _)

-- ---- other calls behind these

pub active-same : (calls other : List Call) (n : ℕ) (values : List Held) (arrays : List (List ℤ))
    → ((i : ℕ) → i < n → call_at other i ≡ call_at calls i)
    → active_in other n values arrays ≡ active_in calls n values arrays
active-same calls other zero values arrays same = refl
active-same calls other (suc n) values arrays same =
    let e = same n (omega arith) in
    let call : Activation = record {
      values = drop (call_at calls n).locals values;
      arrays = drop (call_at calls n).arrays arrays;
    } in
    rw e (ap (λ rest. call ∷ rest) (active-same calls other n _ _ (λ i w. same i (omega (arith, w)))))

pub calls-same : (calls other : List Call) (n values arrays : ℕ)
    → ((i : ℕ) → i < n → call_at other i ≡ call_at calls i)
    → AreCalls calls n values arrays → AreCalls other n values arrays
calls-same calls other zero values arrays same h = tt
calls-same calls other (suc n) values arrays same h =
    let e = same n (omega arith) in
    rw e (h.0, h.1, calls-same calls other n _ _ (λ i w. same i (omega (arith, w))) h.2)

pushed-below : (calls : List Call) (c : Call) (i : ℕ) → i < length calls
    → call_at (calls ++ c ∷ []) i ≡ call_at calls i
pushed-below calls c i w = get_or_append_left calls (c ∷ []) no_call i w

pushed-last : (calls : List Call) (c : Call) → call_at (calls ++ c ∷ []) (length calls) ≡ c
pushed-last calls c = get_or_at calls c [] no_call (length calls) refl

-- ---- a call begins

pub active-push : (calls : List Call) (c : Call) (values more : List Held) (arrays added : List (List ℤ))
    → c.locals ≡ length values → c.arrays ≡ length arrays
    → active_in (calls ++ c ∷ []) (suc (length calls)) (values ++ more) (arrays ++ added)
    ≡ record { values = more; arrays = added } ∷ active_in calls (length calls) values arrays
active-push calls c values more arrays added at from =
    let last = pushed-last calls c in
    let locals = drop_at values more (length values) refl in
    let rows = drop_at arrays added (length arrays) refl in
    let older_locals = take_at values more (length values) refl in
    let older_rows = take_at arrays added (length arrays) refl in
    rw (last, at, from, locals, rows, older_locals, older_rows)
    (ap (λ rest. record { values = more; arrays = added } ∷ rest)
    (active-same calls (calls ++ c ∷ []) (length calls) values arrays (pushed-below calls c)))

pub calls-push : (calls : List Call) (c : Call) (values arrays : ℕ) (locals : ℕ)
    → c.locals ≡ values → c.arrays ≡ arrays → AreCalls calls (length calls) values arrays
    → AreCalls (calls ++ c ∷ []) (suc (length calls)) (values + locals) (arrays + c.count)
calls-push calls c values arrays locals at from h =
    let last = pushed-last calls c in
    rw last (
      omega (arith, at),
      ap (λ n. n + c.count) from,
      rw (at, from) (calls-same calls (calls ++ c ∷ []) (length calls) values arrays (pushed-below calls c) h),
    )

-- ---- a call ends

taken-below : (calls : List Call) (n i : ℕ) → i < n → call_at (take n calls) i ≡ call_at calls i
taken-below calls n i w = get_or-take n calls i no_call w

pub active-pop : (calls : List Call) (n : ℕ) (values : List Held) (arrays : List (List ℤ))
    → active_in (take n calls) n (take (call_at calls n).locals values) (take (call_at calls n).arrays arrays)
    ≡ older (active_in calls (suc n) values arrays)
active-pop calls n values arrays = active-same calls (take n calls) n _ _ (taken-below calls n)

pub calls-pop : (calls : List Call) (n values arrays : ℕ) → AreCalls calls (suc n) values arrays
    → AreCalls (take n calls) n (call_at calls n).locals (call_at calls n).arrays
calls-pop calls n values arrays h = calls-same calls (take n calls) n _ _ (taken-below calls n) h.2

-- ---- the locals of the youngest call

pub local-read : (calls : List Call) (n : ℕ) (values : List Held) (arrays : List (List ℤ)) (local : ℕ) (d : Held)
    → slice_index_or (youngest (active_in calls (suc n) values arrays)).values local d
    ≡ slice_index_or values ((call_at calls n).locals + local) d
local-read calls n values arrays local d = get_or-drop (call_at calls n).locals values local d

pub local-set : (calls : List Call) (n : ℕ) (values : List Held) (arrays : List (List ℤ)) (local : ℕ) (v : Held)
    → active_in calls (suc n) (slice_set values ((call_at calls n).locals + local) v) arrays
    ≡ with_youngest (record {
      values = slice_set (youngest (active_in calls (suc n) values arrays)).values local v;
      arrays = (youngest (active_in calls (suc n) values arrays)).arrays;
    }) (active_in calls (suc n) values arrays)
local-set calls n values arrays local v =
    let c = call_at calls n in
    rw (drop-set-add c.locals values local v, take-set-le c.locals values (c.locals + local) v (omega arith)) refl

-- ---- the arrays of an active call

-- the test of std for numbers that differ, and for a number and itself
differ : (a b : ℕ) → (a ≡ b → ⊥) → (a == b) ≡ false
differ a b n = elim (eqb_tells a b) [ inl p ↦ absurd (n p.1) | inr q ↦ q.0 ]

equal : (a : ℕ) → (a == a) ≡ true
equal a = elim (eqb_tells a a) [ inl p ↦ p.0 | inr q ↦ absurd (q.1 refl) ]

-- the first call that is looked at, where it has the depth and where it hasn't
call-here : (a : Activation) (others : List Activation) (n : ℕ) → length others ≡ n
    → call_of_depth (a ∷ others) (suc n) ≡ Some a
call-here a others n e = rw (e, equal (suc n)) refl

call-deeper : (a : Activation) (others : List Activation) (n depth : ℕ) → length others ≡ n → (depth ≡ suc n → ⊥)
    → call_of_depth (a ∷ others) depth ≡ call_of_depth others depth
call-deeper a others n depth e d = rw (e, differ depth (suc n) d) refl

pub set-here : (a : Activation) (others : List Activation) (n k : ℕ) (elements : List ℤ) → length others ≡ n
    → with_array_in k (suc n) elements (a ∷ others) ≡ with_own k elements a ∷ others
set-here a others n k elements e = rw (e, equal (suc n)) refl

set-deeper : (a : Activation) (others : List Activation) (n k depth : ℕ) (elements : List ℤ) → length others ≡ n
    → (depth ≡ suc n → ⊥)
    → with_array_in k depth elements (a ∷ others) ≡ a ∷ with_array_in k depth elements others
set-deeper a others n k depth elements e d = rw (e, differ depth (suc n) d) refl

-- no call is deeper than the youngest, and none is at depth 0
pub deeper-none : (calls : List Call) (n : ℕ) (values : List Held) (arrays : List (List ℤ)) (depth : ℕ)
    → n < depth → call_of_depth (active_in calls n values arrays) depth ≡ None
deeper-none calls zero values arrays depth w = refl
deeper-none calls (suc n) values arrays depth w =
    call-deeper _ _ n depth (active-length calls n _ _) (λ e. omega (arith, e, w))
    ∙ deeper-none calls n _ _ depth (omega (arith, w))

pub depth-zero : (calls : List Call) (n : ℕ) (values : List Held) (arrays : List (List ℤ))
    → call_of_depth (active_in calls n values arrays) 0 ≡ None
depth-zero calls zero values arrays = refl
depth-zero calls (suc n) values arrays =
    call-deeper _ _ n 0 (active-length calls n _ _) (λ e. omega (arith, e)) ∙ depth-zero calls n _ _

-- an active call's arrays stand among all
pub calls-within : (calls : List Call) (n values arrays place : ℕ) → AreCalls calls n values arrays → place < n
    → (call_at calls place).arrays + (call_at calls place).count ≤ arrays
calls-within calls zero values arrays place h w = absurd (omega (arith, w))
calls-within calls (suc n) values arrays place h w =
    elim (cases_eq place n) [
      | inl e ↦ subst (λ p. (call_at calls p).arrays + (call_at calls p).count ≤ arrays) (sym e) (omega (arith, h.1))
      | inr e ↦ (let deeper = calls-within calls n _ _ place h.2 (omega (arith, w, e)) in omega (arith, h.1, deeper))
    ]

-- the arrays of an active call
pub frame-arrays : (calls : List Call) (n : ℕ) (values : List Held) (arrays : List (List ℤ)) (count all place : ℕ)
    → AreCalls calls n count all → length arrays ≡ all → place < n
    → arrays_in (call_of_depth (active_in calls n values arrays) (suc place))
    ≡ take (call_at calls place).count (drop (call_at calls place).arrays arrays)
frame-arrays calls zero values arrays count all place h l w = absurd (omega (arith, w))
frame-arrays calls (suc n) values arrays count all place h l w =
    let rest = active_in calls n (take (call_at calls n).locals values) (take (call_at calls n).arrays arrays) in
    let long = active-length calls n (take (call_at calls n).locals values) (take (call_at calls n).arrays arrays) in
    elim (cases_eq place n) [
      | inl e ↦ subst (λ p. arrays_in (call_of_depth (active_in calls (suc n) values arrays) (suc p))
          ≡ take (call_at calls p).count (drop (call_at calls p).arrays arrays)) (sym e)
          (ap arrays_in (call-here _ rest n long)
          ∙ sym (take_all (call_at calls n).count (drop (call_at calls n).arrays arrays)
          (omega (arith, l, h.1, length-drop (call_at calls n).arrays arrays))))
      | inr e ↦ (let less : place < n = omega (arith, w, e) in
          let within = calls-within calls n _ _ place h.2 less in
          let short : (call_at calls n).arrays ≤ length arrays = omega (arith, h.1, l) in
          ap arrays_in (call-deeper _ rest n (suc place) long (λ d. omega (arith, d, e)))
          ∙ (frame-arrays calls n _ (take (call_at calls n).arrays arrays) _ _ place h.2
          (length-take-le (call_at calls n).arrays arrays short) less
          ∙ piece-take arrays (call_at calls place).arrays (call_at calls place).count (call_at calls n).arrays within))
    ]

-- other elements in an array of an active call
pub frame-set : (calls : List Call) (n : ℕ) (values : List Held) (arrays : List (List ℤ)) (count all place k : ℕ)
    (elements : List ℤ) → AreCalls calls n count all → place < n → k < (call_at calls place).count
    → active_in calls n values (slice_set arrays ((call_at calls place).arrays + k) elements)
    ≡ with_array_in k (suc place) elements (active_in calls n values arrays)
frame-set calls zero values arrays count all place k elements h w less = absurd (omega (arith, w))
frame-set calls (suc n) values arrays count all place k elements h w less =
    let c = call_at calls n in
    let at = (call_at calls place).arrays + k in
    let rest = active_in calls n (take c.locals values) (take c.arrays arrays) in
    let long = active-length calls n (take c.locals values) (take c.arrays arrays) in
    let head : List (List ℤ) → Activation = λ zs. record { values = drop c.locals values; arrays = zs } in
    let below : List (List ℤ) → List Activation = λ zs. active_in calls n (take c.locals values) zs in
    elim (cases_eq place n) [
      | inl e ↦ subst (λ p. active_in calls (suc n) values (slice_set arrays ((call_at calls p).arrays + k) elements)
          ≡ with_array_in k (suc p) elements (active_in calls (suc n) values arrays)) (sym e)
          (ap₂ (λ a b. head a ∷ below b) (drop-set-add c.arrays arrays k elements)
          (take-set-le c.arrays arrays (c.arrays + k) elements (omega arith))
          ∙ sym (set-here (head (drop c.arrays arrays)) rest n k elements long))
      | inr e ↦ (let lower : place < n = omega (arith, w, e) in
          let within = calls-within calls n _ _ place h.2 lower in
          ap₂ (λ a b. head a ∷ below b) (drop-set-lt c.arrays arrays at elements (omega (arith, within, less)))
          (take-set c.arrays arrays at elements)
          ∙ (ap (λ b. head (drop c.arrays arrays) ∷ b)
          (frame-set calls n (take c.locals values) (take c.arrays arrays) _ _ place k elements h.2 lower less)
          ∙ sym (set-deeper (head (drop c.arrays arrays)) rest n k (suc place) elements long
          (λ d. omega (arith, d, e)))))
    ]

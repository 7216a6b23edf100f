-- What the calls of a store do, over what a contract sees.
use Rattle.std.proofs.Common.{◌≡◌, ◌∙◌, ℕ, zero, suc, ◌+◌, ◌<◌, ◌≤◌, ℤ, pos, negsuc, List, [], ◌∷◌, ◌++◌, length, map}
use Rattle.std.proofs.Common.{take, drop, refl, sym, ap, subst, arith, length-append}
use Rattle.std.specs.Prelude.{Bool, true, false, slice_get, slice_index_or, slice_set, Some, None, Option}
use Rattle.std.proofs.lemmas.List.{length-map, take-map, length-take-le, map_push, append_assoc, take-append-le}
use Rattle.std.proofs.lemmas.List.{length-take, get_or_read}
use Rattle.std.proofs.lemmas.Option.{slice_get_past, same_Some}
use Rattle.pcc_base.specs.Outcome as outcome
use Rattle.pcc_base.specs.declared.run.Trap.TheVariants.{Check}
use Rattle.pcc_base.proofs.Lists.{element-at}
use Rattle.c_tree.specs.declared.program.Local.{Local}
use Rattle.c_tree.specs.Erased.{local_of}
use Rattle.c_tree.specs.Store.{Held, HoldsNumber, Gives, Ends, Activation, State, youngest, with_youngest}
use Rattle.c_tree.specs.Store.{call_of_depth, arrays_in, with_array_in, array_named, element_at, first_values}
use Rattle.c_tree.specs.Evaluation.{older, element_read, element_written, number_in}
use Rattle.c_eval_state.specs.declared.calls.Call.{Call}
use Rattle.c_eval_state.specs.declared.value.Value.{Value}
use Rattle.c_eval_state.specs.Values.{held_of}
use Rattle.c_eval_state.specs.Spans.{SetsElement}
use Rattle.c_eval_state.specs.Kept.{index_of, over, active_in, AreCalls, IsKept, call_at, no_call, first_value}
use Rattle.c_eval_state.specs.Kept.{frame_array, Written, stored}
use Rattle.c_eval_state.proofs.Active.{active-length, active-push, calls-push, active-pop, calls-pop, local-set}
use Rattle.c_eval_state.proofs.Named.{frame-read, frame-unread, frame-written, own-unwritten}

-- other active calls, and other objects
pub active-changed : (s : State) (objects : List (List ℤ)) (a b : List Activation) → a ≡ b
    → over s (record { objects = objects; active = a }) ≡ over s (record { objects = objects; active = b })
active-changed s objects a b e =
    let state : List Activation → State = λ x. over s (record { objects = objects; active = x }) in ap state e

pub objects-changed : (s : State) (a b : List (List ℤ)) (active : List Activation) → a ≡ b
    → over s (record { objects = a; active = active }) ≡ over s (record { objects = b; active = active })
objects-changed s a b active e =
    let state : List (List ℤ) → State = λ x. over s (record { objects = x; active = active }) in ap state e

-- ---- a call begins

drop-none : (i : ℕ) → drop {A = Held} i [] ≡ []
drop-none zero = refl
drop-none (suc i) = refl

-- the first local that is left has its value, and then come the others
first-more : (ls : List Local) (arguments : List Held) (i : ℕ) (l : Local) → i < length ls
    → l ≡ slice_index_or ls i l
    → first_values (drop i (map local_of ls)) (drop i arguments)
    ≡ first_value l.of (slice_get arguments i)
    ∷ first_values (drop (suc i) (map local_of ls)) (drop (suc i) arguments)
first-more [] arguments i l w e = absurd (omega (arith, w))
first-more (m ∷ ls) [] zero l w e = rw e refl
first-more (m ∷ ls) (a ∷ others) zero l w e = rw e refl
first-more (m ∷ ls) [] (suc i) l w e =
    ap (first_values (drop i (map local_of ls))) (sym (drop-none i))
    ∙ (first-more ls [] i l (omega (arith, w)) e
    ∙ ap (λ rest. first_value l.of None ∷ first_values (drop (suc i) (map local_of ls)) rest) (drop-none (suc i)))
first-more (m ∷ ls) (a ∷ others) (suc i) l w e = first-more ls others i l (omega (arith, w)) e

pub first-step : (ls : List Local) (arguments : List Held) (i : ℕ) (l : Local) → i < length ls
    → l ≡ slice_index_or ls i l
    → first_values (drop i (map local_of ls)) (drop i arguments)
    ≡ first_value l.of (slice_get arguments i)
    ∷ first_values (drop (i + 1) (map local_of ls)) (drop (i + 1) arguments)
first-step ls arguments i l w e =
    let n : suc i ≡ i + 1 = omega arith in
    subst (λ m. first_values (drop i (map local_of ls)) (drop i arguments)
    ≡ first_value l.of (slice_get arguments i)
    ∷ first_values (drop m (map local_of ls)) (drop m arguments)) n (first-more ls arguments i l w e)

-- one more local is put behind the others
pub local-pushed : (f : Value → Held) (values new : List Value) (v : Value) (all first others : List Held) (h : Held)
    → map f values ++ first ≡ all → first ≡ h ∷ others → new ≡ values ++ v ∷ [] → f v ≡ h
    → map f new ++ others ≡ all
local-pushed f values new v all first others h whole is are holds =
    ap (λ xs. map f xs ++ others) are
    ∙ (ap (λ xs. xs ++ others) (map_push f values v)
    ∙ (append_assoc (map f values) (f v ∷ []) others
    ∙ (ap (λ x. map f values ++ x ∷ others) holds ∙ (ap (λ xs. map f values ++ xs) (sym is) ∙ whole))))

-- those that were there stay in front
pub kept-pushed : (old values new : List Value) (v : Value) → take (length old) values ≡ old → new ≡ values ++ v ∷ []
    → take (length old) new ≡ old
kept-pushed old values new v kept are =
    let short : length old ≤ length values = omega (arith, ap length kept, length-take (length old) values) in
    ap (take (length old)) are ∙ (take-append-le (length old) values (v ∷ []) short ∙ kept)

-- a call that was read is the one that stands there
pub call-read : (calls : List Call) (n : ℕ) (call : Call) → length calls ≡ suc n → call ≡ slice_index_or calls n call
    → call ≡ call_at calls n
call-read calls n call long e = get_or_read calls n call (omega (arith, long)) e no_call

pub entered-kept : (calls : List Call) (call : Call) (values new : List Value) (more : List Held)
    (arrays added : List (List ℤ)) → IsKept calls (length values) (length arrays) → length calls < 4096
    → call.locals ≡ length values → call.arrays ≡ length arrays → call.count ≡ length added
    → map held_of new ≡ map held_of values ++ more
    → IsKept (calls ++ call ∷ []) (length new) (length (arrays ++ added))
entered-kept calls call values new more arrays added h few at from count is =
    let long : length (calls ++ call ∷ []) ≡ suc (length calls) =
    omega (arith, length-append calls (call ∷ [])) in
    let locals : length new ≡ length values + length more =
    omega (
      arith,
      ap length is,
      length-map new held_of,
      length-map values held_of,
      length-append (map held_of values) more,
    ) in
    let all : length (arrays ++ added) ≡ length arrays + call.count =
    omega (arith, length-append arrays added, count) in
    let nested = calls-push calls call (length values) (length arrays) (length more) at from h.nested in
    record {
      nested = rw (long, locals, all) nested;
      few = omega (arith, long, few);
    }

pub entered-active : (calls : List Call) (call : Call) (values new : List Value) (more : List Held)
    (arrays added : List (List ℤ)) → call.locals ≡ length values → call.arrays ≡ length arrays
    → map held_of new ≡ map held_of values ++ more
    → active_in (calls ++ call ∷ []) (length (calls ++ call ∷ [])) (map held_of new) (arrays ++ added)
    ≡ record { values = more; arrays = added } ∷ active_in calls (length calls) (map held_of values) arrays
entered-active calls call values new more arrays added at from is =
    let long : length (calls ++ call ∷ []) ≡ suc (length calls) =
    omega (arith, length-append calls (call ∷ [])) in
    rw (long, is) (active-push calls call (map held_of values) more arrays added
    (at ∙ sym (length-map values held_of)) from)

-- ---- a call ends

pub left-kept : (calls new : List Call) (n : ℕ) (call : Call) (values others : List Value)
    (arrays fewer : List (List ℤ)) → length calls ≡ suc n → call ≡ call_at calls n
    → IsKept calls (length values) (length arrays) → new ≡ take n calls → others ≡ take call.locals values
    → fewer ≡ take call.arrays arrays → IsKept new (length others) (length fewer)
left-kept calls new n call values others arrays fewer long is h are locals rest =
    let nested : AreCalls calls (suc n) (length values) (length arrays) =
    subst (λ m. AreCalls calls m (length values) (length arrays)) long h.nested in
    let size : length (take n calls) ≡ n = length-take-le n calls (omega (arith, long)) in
    let held : length (take (call_at calls n).locals values) ≡ (call_at calls n).locals =
    length-take-le (call_at calls n).locals values nested.0 in
    let kept : length (take (call_at calls n).arrays arrays) ≡ (call_at calls n).arrays =
    length-take-le (call_at calls n).arrays arrays (omega (arith, nested.1)) in
    rw (are, locals, rest, is) (record {
      nested = rw (size, held, kept) (calls-pop calls n (length values) (length arrays) nested);
      few = omega (arith, size, long, h.few);
    })

pub left-active : (calls new : List Call) (n : ℕ) (call : Call) (values others : List Value)
    (arrays fewer : List (List ℤ)) → length calls ≡ suc n → call ≡ call_at calls n → new ≡ take n calls
    → others ≡ take call.locals values → fewer ≡ take call.arrays arrays
    → active_in new (length new) (map held_of others) fewer
    ≡ older (active_in calls (length calls) (map held_of values) arrays)
left-active calls new n call values others arrays fewer long is are locals rest =
    let size : length (take n calls) ≡ n = length-take-le n calls (omega (arith, long)) in
    rw (are, locals, rest, is, size, ← take-map held_of (call_at calls n).locals values, long)
    (active-pop calls n (map held_of values) arrays)

-- ---- a local of the youngest call

pub local-kept : (calls : List Call) (n first local : ℕ) (values new : List Held) (arrays : List (List ℤ)) (v : Held)
    → length calls ≡ suc n → first ≡ (call_at calls n).locals → new ≡ slice_set values (first + local) v
    → active_in calls (length calls) new arrays
    ≡ with_youngest (record {
      values = slice_set (youngest (active_in calls (length calls) values arrays)).values local v;
      arrays = (youngest (active_in calls (length calls) values arrays)).arrays;
    }) (active_in calls (length calls) values arrays)
local-kept calls n first local values new arrays v long is are =
    rw (are, is, long) (local-set calls n values arrays local v)

-- ---- an element

pub static-written : (s : State) (objects new : List (List ℤ)) (active : List Activation) (object i : ℕ) (v : ℤ)
    (b : Bool)
    → SetsElement objects new object i v b
    → Written (over s (record { objects = objects; active = active })) (over s
    (record { objects = new; active = active }))
    (outcome.Static object) (pos i) v b
static-written s objects new active object i v true h =
    let found = element-at (slice_index_or objects object []) i h.0 in
    (found.0, found.1, objects-changed s _ _ active h.1)
static-written s objects new active object i v false h =
    (slice_get_past (slice_index_or objects object []) i h.0, objects-changed s _ _ active h.1)

pub frame-element-written : (s : State) (objects : List (List ℤ)) (calls : List Call) (values : List Held)
    (arrays new : List (List ℤ)) (count k depth at i : ℕ) (v : ℤ) (b : Bool)
    → AreCalls calls (length calls) count (length arrays) → frame_array calls k depth ≡ Some at
    → SetsElement arrays new at i v b
    → Written (over s (record { objects = objects; active = active_in calls (length calls) values arrays }))
    (over s (record { objects = objects; active = active_in calls (length calls) values new }))
    (outcome.InFrame k depth) (pos i) v b
frame-element-written s objects calls values arrays new count k depth at i v true h is sets =
    let read = frame-read calls values arrays count k depth at h is in
    let found = element-at (slice_index_or arrays at []) i sets.0 in (
      found.0,
      ap (λ row. slice_get row i) read ∙ found.1,
      active-changed s objects _ _ (ap (active_in calls (length calls) values) sets.1
          ∙ (frame-written calls values arrays count k depth at _ h is
          ∙ ap (λ row. with_array_in k depth (slice_set row i v) (active_in calls (length calls) values arrays))
          (sym read))),
    )
frame-element-written s objects calls values arrays new count k depth at i v false h is sets = (
  ap (λ row. slice_get row i) (frame-read calls values arrays count k depth at h is)
      ∙ slice_get_past (slice_index_or arrays at []) i sets.0,
  active-changed s objects _ _ (ap (active_in calls (length calls) values) sets.1),
)

pub frame-element-none : (s : State) (objects : List (List ℤ)) (calls : List Call) (values : List Held)
    (arrays : List (List ℤ)) (count k depth i : ℕ) (v : ℤ) → AreCalls calls (length calls) count (length arrays)
    → frame_array calls k depth ≡ None
    → Written (over s (record { objects = objects; active = active_in calls (length calls) values arrays }))
    (over s (record { objects = objects; active = active_in calls (length calls) values arrays }))
    (outcome.InFrame k depth) (pos i) v false
frame-element-none s objects calls values arrays count k depth i v h is =
    (ap (λ row. slice_get row i) (frame-unread calls values arrays count k depth h is), refl)

-- the same, of equal indices and numbers
pub written-same : (s t : State) (array : outcome.ArrayName) (i n m : ℤ) (b : Bool) → n ≡ m
    → Written s t array i n b → Written s t array i m b
written-same s t array i n m b e h = subst (λ x. Written s t array i x b) e h

-- an index that is a place, and one that is none
pub written-at : (s t : State) (array : outcome.ArrayName) (index : ℤ) (i : ℕ) (n m : ℤ) (b : Bool)
    → index_of index ≡ Some i → n ≡ m → Written s t array (pos i) n b → Written s t array index m b
written-at s t array (pos j) i n m b is e h =
    let same : j ≡ i = same_Some j i is in
    subst (λ k. Written s t array (pos k) m b) (sym same) (written-same s t array (pos i) n m b e h)
written-at s t array (negsuc j) i n m b is e h = absurd (cc)

pub written-nowhere : (s : State) (array : outcome.ArrayName) (index n : ℤ) → index_of index ≡ None
    → Written s s array index n false
written-nowhere s array (pos j) n is = absurd (cc)
written-nowhere s array (negsuc j) n is = (refl, refl)

-- what a load of an element gives
pub read-some : (s : State) (found r : Option ℤ) (n m : ℤ) → r ≡ found → r ≡ Some n → m ≡ n
    → element_read s found ≡ Gives (HoldsNumber m) s
read-some s found r n m e is same = rw (← e, is, same) refl

pub read-none : (s : State) (found r : Option ℤ) → r ≡ found → r ≡ None
    → element_read s found ≡ Ends (outcome.Trapped Check) s
read-none s found r e is = rw (← e, is) refl

-- what a store of an element gives
pub written-stored : (s t : State) (array : outcome.ArrayName) (index n : ℤ) (value : Held) (b : Bool)
    → n ≡ number_in value → Written s t array index n b
    → element_written array index value s (element_at (array_named s array) index) ≡ stored b value t
written-stored s t array index n value true is h =
    let old : element_at (array_named s array) index ≡ Some h.0 = h.1 in
    rw (old, h.2, is) refl
written-stored s t array index n value false is h = rw (h.0, h.1) refl

-- ---- all elements of an array of the youngest call

pub own-changed : (f : List ℤ → List ℤ) (calls : List Call) (values : List Held) (arrays : List (List ℤ))
    (count k at : ℕ)
    → AreCalls calls (length calls) count (length arrays) → frame_array calls k (length calls) ≡ Some at
    → active_in calls (length calls) values (slice_set arrays at (f (slice_index_or arrays at [])))
    ≡ with_array_in k (length (active_in calls (length calls) values arrays))
    (f (slice_index_or (arrays_in (call_of_depth (active_in calls (length calls) values arrays)
    (length (active_in calls (length calls) values arrays)))) k [])) (active_in calls (length calls) values arrays)
own-changed f calls values arrays count k at h is =
    rw (active-length calls (length calls) values arrays)
    (frame-written calls values arrays count k (length calls) at _ h is
    ∙ ap (λ row. with_array_in k (length calls) (f row) (active_in calls (length calls) values arrays))
    (sym (frame-read calls values arrays count k (length calls) at h is)))

pub own-unchanged : (f : List ℤ → List ℤ) (calls : List Call) (values : List Held) (arrays : List (List ℤ))
    (count k : ℕ)
    → AreCalls calls (length calls) count (length arrays) → frame_array calls k (length calls) ≡ None
    → active_in calls (length calls) values arrays
    ≡ with_array_in k (length (active_in calls (length calls) values arrays))
    (f (slice_index_or (arrays_in (call_of_depth (active_in calls (length calls) values arrays)
    (length (active_in calls (length calls) values arrays)))) k [])) (active_in calls (length calls) values arrays)
own-unchanged f calls values arrays count k h is =
    rw (active-length calls (length calls) values arrays)
    (sym (own-unwritten calls values arrays count k _ h is))

-- What calls keep, and calls with more turns.
use Rattle.std.proofs.Common.{◌≡◌, ℕ, zero, suc, ◌+◌, ◌≤◌, Bool, true, false, List, [], ◌∷◌, length, Option}
use Rattle.std.proofs.Common.{Some, None, refl, arith}
use Rattle.std.specs.Prelude.{nat_le, slice_get, if◌then◌else◌}
use Rattle.pcc_base.specs.Outcome.{Trapped, Goes, Listing}
use Rattle.pcc_base.specs.declared.run.Trap.TheVariants.{Check}
use Rattle.c_tree.specs.Evaluation.{Calls, Left, Runs, older, type_at, call_over, first_activation, enter}
use Rattle.c_tree.specs.Evaluation.{run_function, call_within, value_left, most_active}
use Rattle.c_tree.specs.Program.{Function}
use Rattle.c_tree.specs.Store.{Held, Activation, State, Evaluated, Gives, Ends, and_then}
use Rattle.c_eval_laws.specs.Bounds.{CallsExtend, ComesAfter, Extending, Extends, Keeps, sizes, state_of, with_more}
use Rattle.c_eval_laws.specs.Laws.{CallBoundsAgree, CallsUnfold, GoesWithoutTurns, ProgramsExtend, ProgramsKeep}
use Rattle.c_eval_laws.proofs.After.{after-same}
use Rattle.c_eval_laws.proofs.Keeping.{gives-keeps, ends-keeps, lower-keeps, either-keeps}
use Rattle.c_eval_laws.proofs.Extending.{gives-extends, same-both, none-both, then-extends, turn-both, ends-both}
use Rattle.c_eval_laws.proofs.Trees.{statements_both}
use Rattle.c_eval_laws.proofs.Agreeing.{both-agree, same-agree}

-- a call begins
abbrev pushed : Activation → State → State
pushed a s = record s { active = a ∷ s.active }

-- the calls below hold as much as before
older-sizes : (active others : List Activation) (a : Activation) → sizes active ≡ sizes (a ∷ others)
    → sizes (older active) ≡ sizes others
older-sizes [] others a e = cc
older-sizes (b ∷ active) others a e = cc

-- what comes after a state with one more call comes after it, with any calls
after-push : (a : Activation) (s t : State) (active : List Activation) → ComesAfter (pushed a s) t
    → ComesAfter s (record t { active = active })
after-push a s t active h = record {
  turns = h.turns;
  visits = h.visits;
  written = h.written;
  input = h.input;
  objects = h.objects;
}

-- what a call keeps that runs and is over
over-keeps : (k : ℕ) (a : Activation) (s : State) (r : Evaluated Left) → Keeps k (pushed a s) r
    → Keeps k s (and_then r call_over)
over-keeps k a s (Gives left t) h = gives-keeps k s (record t { active = older t.active }) (value_left left) (record {
  after = after-push a s t (older t.active) h.after;
  same = older-sizes t.active s.active a (h.gives left t refl);
})
over-keeps k a s (Ends end t) h = record {
  after = after-push a s t t.active h.after;
  gives = λ v u e. cc;
  goes = λ u e lt. h.goes u (cc) lt;
}

-- the state after a call is over comes after the one before
over-after : (left : Left) (t : State) → ComesAfter t (state_of (call_over left t))
over-after left t = let h = after-same t in record {
  turns = h.turns;
  visits = h.visits;
  written = h.written;
  input = h.input;
  objects = h.objects;
}

-- a call runs and is over
over-both : {body body' : Runs} (k d : ℕ) (a : Activation) → Extending k d body body' → Extending k d
    (λ s. and_then (body (pushed a s)) call_over) (λ s. and_then (body' (pushed a s)) call_over)
over-both {body} {body'} k d a h = record {
  keeps = λ s. over-keeps k a s (body (pushed a s)) (h.keeps (pushed a s));
  keeps_too = λ s. over-keeps 0 a s (body' (pushed a s)) (h.keeps_too (pushed a s));
  extends = λ s lt. then-extends k d (pushed a s) (body (pushed a s)) (body' (with_more d (pushed a s)))
      call_over call_over (h.keeps (pushed a s)) lt (h.extends (pushed a s) lt)
      (λ left t lt'. gives-extends d (value_left left) (record t { active = older t.active })) over-after;
}

-- a test that more turns don't change
tested-both : {A : Type 0} {f g f' g' : State → Evaluated A} (k d : ℕ) (test : State → Bool)
    → ((s : State) → test (with_more d s) ≡ test s) → Extending k d f g → Extending k d f' g'
    → Extending k d (λ s. if test s then f s else f' s) (λ s. if test s then g s else g' s)
tested-both {A} {f} {g} {f'} {g'} k d test same h h' = record {
  keeps = λ s. either-keeps (test s) (h.keeps s) (h'.keeps s);
  keeps_too = λ s. either-keeps (test s) (h.keeps_too s) (h'.keeps_too s);
  extends = λ s lt. rw (same s) (chosen (test s) (h.extends s lt) (h'.extends s lt));
}
  where
    -- one of two
    chosen : {r o r' o' : Evaluated A} (b : Bool) → Extends d r o → Extends d r' o'
        → Extends d (if b then r else r') (if b then o else o')
    chosen true e e' = e
    chosen false e e' = e'

-- a call begins with a turn
enter-both : {body body' : Runs} (k d : ℕ) (f : Function) (arguments : List Held) → Extending k d body body'
    → Extending (suc k) d (enter f arguments body) (enter f arguments body')
enter-both k d f arguments h = tested-both (suc k) d (λ s. nat_le most_active (length s.active)) (λ s. refl)
    (ends-both (Trapped Check) (λ e. cc)) (turn-both k d (over-both k d (first_activation f arguments) h))

-- a function that is there runs, and one that is none gives 0
function-both : (k d bound other : ℕ) (calls others : Calls) → CallsExtend k d calls others → k ≤ bound → k + d ≤ other
    → (listing : Listing) (f : Option Function) (arguments : List Held)
    → Extending (suc k) d (run_function calls bound listing f arguments) (run_function others other listing f arguments)
function-both k d bound other calls others h le le' listing None arguments = same-both
function-both k d bound other calls others h le le' listing (Some f) arguments = enter-both k d f arguments
    (statements_both k d calls others h bound other le le' listing (type_at f) f.result f.body 0)

-- what calls keep, by the bound
pub calls_keep : ProgramsKeep
calls_keep program listing zero f arguments s = ends-keeps 0 s Goes (λ e lt. absurd (omega (arith, lt)))
calls_keep program listing (suc k) f arguments s =
    let calls : Calls = call_within k program listing in
    let h : CallsExtend k 0 calls calls = λ g xs. same-agree k (calls_keep program listing k g xs) in
    (function-both k 0 (suc k) (suc k) calls calls h (omega arith) (omega arith) listing
    (slice_get program.functions f) arguments).keeps s

-- calls over two bounds, by both
pub calls_extend : ProgramsExtend
calls_extend program listing zero d calls others le le' f arguments = none-both d
    (λ s. lower-keeps 0 calls (omega arith) (calls_keep program listing calls f arguments s))
    (λ s. lower-keeps 0 others (omega arith) (calls_keep program listing others f arguments s))
calls_extend program listing (suc k) d zero others le le' f arguments = absurd (omega (arith, le))
calls_extend program listing (suc k) d (suc calls) zero le le' f arguments = absurd (omega (arith, le'))
calls_extend program listing (suc k) d (suc calls) (suc others) le le' f arguments =
    function-both k d (suc calls) (suc others) (call_within calls program listing) (call_within others program listing)
    (calls_extend program listing k d calls others (omega (arith, le)) (omega (arith, le')))
    (omega (arith, le)) (omega (arith, le')) listing (slice_get program.functions f) arguments

-- what ends and still goes has no turn left
pub goes_without_turns : GoesWithoutTurns
goes_without_turns program listing bound f arguments s t lt e =
    (calls_keep program listing bound f arguments s).goes t e lt

-- a call over two bounds above the turns
pub call_bounds_agree : CallBoundsAgree
call_bounds_agree program listing bound other f arguments s lt lt' = both-agree (suc s.turns)
    (calls_extend program listing (suc s.turns) 0 bound other (omega arith) (omega arith) f arguments) s (omega arith)

-- a call over a bound, and its calls over the next lower one
pub calls_unfold : CallsUnfold
calls_unfold program listing zero f arguments s lt = absurd (omega (arith, lt))
calls_unfold program listing (suc bound) f arguments s lt =
    let k : ℕ = s.turns in
    both-agree (suc k) (function-both k 0 (suc bound) (suc bound) (call_within bound program listing)
    (call_within (suc bound) program listing)
    (calls_extend program listing k 0 bound (suc bound) (omega (arith, lt)) (omega (arith, lt)))
    (omega (arith, lt)) (omega (arith, lt)) listing (slice_get program.functions f) arguments) s (omega arith)

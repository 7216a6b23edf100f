-- Arguments are evaluated one after another, and functions are called.
use Rattle.std.proofs.Common.{◌≡◌, ℕ, suc, Bool, true, false, List, [], ◌∷◌, length, Option, Some, None, refl, ap, ◌<◌}
use Rattle.std.proofs.Common.{arith, ◌∙◌}
use Rattle.std.specs.Prelude.{if◌then◌else◌, nat_le, slice_get}
use Rattle.pcc_base.specs.Outcome.{Listing, Outcome, Trapped}
use Rattle.pcc_base.specs.declared.run.Trap.TheVariants.{Check}
use Rattle.c_tree.specs.Evaluation.{Found, Left, Falls, Breaks, Continues, Returns, call_over, call_within, evaluate}
use Rattle.c_tree.specs.Evaluation.{evaluate_all, execute_from, first_activation, most_active, run_function, type_at}
use Rattle.c_tree.specs.Program.{NoMore, Argument, Function, Program}
use Rattle.c_tree.specs.Store.{Held, State, Evaluated, Ends, Gives, and_then, take_turn}
use Rattle.c_eval_laws.specs.Laws.{within}
use Rattle.c_eval_laws.proofs.Calls.{calls_unfold}
use Rattle.c_eval_laws.specs.Tasks.{Task, Ahead, Follows, ReturnsTo, below_by, calls_of, executed_from, finish}
use Rattle.c_eval_laws.specs.Tasks.{behind, put_before, rest}
use Rattle.c_eval_laws.specs.Steps.{call_step, go_on, rest_after}
use Rattle.c_eval_laws.specs.TasksLaws.{CallsStep}
use Rattle.c_eval_laws.proofs.Finishing.{finish-same, finish-then, finish-turn}
use Rattle.c_eval_laws.proofs.Settling.{body-settles}

module _ (p : Program) (l : Listing) (f : Function) (ts : List Task) (vs : List Held) (fs : List Found) where
  -- what comes of the tasks behind a call
  abbrev called : Held → State → Outcome
  called v t = rest p l f Ahead ts (v ∷ vs) fs t

  -- a call is over
  over-kept : (g : Function) (left : Left) (t : State) → finish (call_over left t) called
      ≡ behind (λ way ws u. rest p l g way (ReturnsTo f ∷ ts) ws fs u) vs left t
  unfolding rest
  over-kept g Falls t = refl
  over-kept g Breaks t = refl
  over-kept g Continues t = refl
  over-kept g (Returns value) t = refl

  -- the body of a function runs, and the call is over
  body-kept : (g : Function) (bound : ℕ) (s : State) → s.turns < bound → finish (and_then
      (execute_from (within (call_within bound p l) bound l (type_at g) g.result) g.body 0 s) call_over) called
      ≡ rest p l g Ahead (Follows g.body ∷ ReturnsTo f ∷ ts) vs fs s
  unfolding rest
  body-kept g bound s lt =
      ap (λ (r : Evaluated Left). finish (and_then r call_over) called) (body-settles p l g bound s lt)
      ∙ finish-then (executed_from p l g g.body 0 s) call_over called
      ∙ finish-same (executed_from p l g g.body 0 s) _ _ (over-kept g)

  -- a call too many traps, and any other takes a turn
  enter-kept : (g : Function) (arguments : List Held) (s : State) (full : Bool)
      → finish (if full then Ends (Trapped Check) s else take_turn s (λ t. and_then
      (execute_from (within (call_within (suc s.turns) p l) (suc s.turns) l (type_at g) g.result) g.body 0
      (record t { active = first_activation g arguments ∷ t.active })) call_over)) called
      ≡ rest_after p l (if full then Ends (Trapped Check) s
      else take_turn s (λ t. Gives (go_on g (Follows g.body ∷ ReturnsTo f ∷ ts) vs fs)
      (record t { active = first_activation g arguments ∷ t.active })))
  unfolding rest
  enter-kept g arguments s true = refl
  enter-kept g arguments s false = finish-turn s _ _ _ _ (λ n e.
      body-kept g (suc s.turns) (record s { turns = n; active = first_activation g arguments ∷ s.active })
      (omega (arith, e)))

  -- a function that is there is called, and one that is none gives 0
  function-kept : (g : Option Function) (arguments : List Held) (s : State)
      → finish (run_function (call_within (suc s.turns) p l) (suc s.turns) l g arguments s) called
      ≡ rest_after p l (call_step f g arguments ts vs fs s)
  unfolding rest
  function-kept None arguments s = refl
  function-kept (Some g) arguments s = enter-kept g arguments s (nat_le most_active (length s.active))

  -- a function is called
  call-kept : (k : ℕ) (arguments : List Held) (s : State) → finish (calls_of p l k arguments s) called
      ≡ rest_after p l (call_step f (slice_get p.functions k) arguments ts vs fs s)
  unfolding rest
  call-kept k arguments s =
      ap (λ (r : Evaluated Held). finish r called) (calls_unfold p l (suc s.turns) k arguments s (omega arith))
      ∙ function-kept (slice_get p.functions k) arguments s

-- the next argument is evaluated, or the function is called
pub calls_step : CallsStep
unfolding rest
calls_step p l f k NoMore count ts vs fs s =
    call-kept p l f ts (below_by count vs) fs k (put_before count vs []) s
calls_step p l f k (Argument e others) count ts vs fs s =
    finish-then (evaluate (calls_of p l) e s) _ _
    ∙ finish-same (evaluate (calls_of p l) e s) _ _ (λ v t. finish-then (evaluate_all (calls_of p l) others t) _ _)

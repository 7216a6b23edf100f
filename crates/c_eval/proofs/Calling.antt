-- The first step of a turn that is a call.
use Rattle.std.proofs.Common.{◌≡◌, ◌≢◌, ◌-◌, ℕ, suc, Bool, false, [], length}
use Rattle.std.proofs.Common.{sym, ap, ◌∙◌, arith, Ok}
use Rattle.std.specs.Prelude.{nat_le, slice_get, Option, Some, if◌then◌else◌}
use Rattle.pcc_base.specs.Outcome.{Trapped, nothing_listed}
use Rattle.pcc_base.specs.declared.run.Trap.TheVariants.{Check}
use Rattle.c_tree.specs.Evaluation.{most_active}
use Rattle.c_tree.specs.Program.{NoMore, Function, Program}
use Rattle.c_tree.specs.Store.{State, Evaluated, Gives, Ends, take_turn, turn_with}
use Rattle.c_eval_laws.specs.Steps.{Configuration, call_step}
use Rattle.c_eval_laws.specs.Tasks.{Task, Passes, below_by, put_before}
use Rattle.c_eval_state.specs.Kept.{Kept, entered, over}
use Rattle.c_eval_state.specs.Changes.{calling, done}
use Rattle.c_eval.specs.Turns.{Begun}

-- a turn that is left is taken
turn_taken : {A : Type 0} (s : State) (n : ℕ) (go : State → Evaluated A) → s.turns ≡ suc n
    → take_turn s go ≡ go (record s { turns = n })
turn_taken s n go e = ap (λ (m : ℕ). turn_with m s go) e

-- a call where there is room for it
pub call_step_is : (p : Program) (k count n : ℕ) (g : Function) (old : Configuration) (s : State)
    → slice_get p.functions k ≡ Some g → nat_le most_active (length s.active) ≡ false → s.turns ≡ suc n
    → done p nothing_listed (Passes k NoMore count) old s
    ≡ Gives (calling g count old) (entered g (put_before count old.values []) (record s { turns = n }))
call_step_is p k count n g old s there room turns =
    ap (λ (f : Option Function). call_step old.function f (put_before count old.values []) old.tasks
    (below_by count old.values) old.places s) there
    ∙ ap (λ (b : Bool). if b then Ends (Trapped Check) s
    else take_turn s (λ t. Gives (calling g count old) (entered g (put_before count old.values []) t))) room
    ∙ turn_taken s n (λ t. Gives (calling g count old) (entered g (put_before count old.values []) t)) turns

pub call_begun : (p : Program) (rest k count : ℕ) (g : Function) (task : Task) (old new : Configuration)
    (kept kept' : Kept) → task ≡ Passes k NoMore count → slice_get p.functions k ≡ Some g
    → nat_le most_active (length kept.active) ≡ false → rest ≢ 0 → new ≡ calling g count old
    → ((s : State) → over s kept' ≡ entered g (put_before count old.values []) (over s kept))
    → Begun rest p task old kept new kept' (Ok tt)
call_begun p rest k count g task old new kept kept' is there room some left held = (
  omega arith,
  λ s turns.
      let e : s.turns ≡ suc (rest - 1) = turns ∙ omega arith in
      ap (λ (x : Task). done p nothing_listed x old (over s kept)) is
      ∙ call_step_is p k count (rest - 1) g old (over s kept) there room e
      ∙ ap (λ (t : State). Gives (calling g count old) t) (sym (held (record s { turns = rest - 1 })))
      ∙ ap (λ (c : Configuration). Gives c (over (record s { turns = rest - 1 }) kept')) (sym left),
)

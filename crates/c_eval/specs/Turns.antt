-- What takes a turn, what it finds, and what its first step leaves.
use Rattle.std.specs.Prelude.{◌≡◌, ◌≤◌, ◌<◌, ◌-◌, ℕ, length, Some, Result, Ok, Err, slice_get}
use Rattle.pcc_base.specs.Outcome.{nothing_listed}
use Rattle.c_tree.specs.Erased.{function_of, statement_of}
use Rattle.c_tree.specs.Program.{Program, NoMore}
use Rattle.c_tree.specs.Store.{State, Gives}
use Rattle.c_eval_laws.specs.Steps.{Configuration}
use Rattle.c_eval_laws.specs.Tasks.{Task, Passes}
use Rattle.c_eval_state.specs.Kept.{Kept, over}
use Rattle.c_eval_state.specs.Changes.{Comes, IsLoop, done}
use Rattle.c_eval_state.specs.Views.{part_task}
use Rattle.c_eval_state.specs.declared.end.EvalEnd.{EvalEnd}
use Rattle.c_eval_state.specs.declared.task.StatementPart.TheVariants as parts
use Rattle.c_eval.specs.declared.next.Turn.{Turn}
use Rattle.c_eval.specs.declared.next.Turn.TheVariants.{Call, Loop}

-- a turn is that of this task: a call of a function whose arguments are evaluated, or a loop's
abbrev pub IsTurn : Program → Turn → Task → Type 0
IsTurn p (Call f count) task =
    (k : ℕ) × (task ≡ Passes k NoMore count) × (slice_get p.functions k ≡ Some (function_of f.now))
IsTurn p (Loop x) task = (task ≡ part_task parts.Turn (statement_of x.now)) × IsLoop (statement_of x.now)

-- what a turn finds where it begins: the arguments, or a loop
abbrev pub IsReady : Turn → Configuration → Type 0
IsReady (Call f count) c = count ≤ length c.values
IsReady (Loop x) c = IsLoop (statement_of x.now)

-- a turn was taken from so many, and its task began; or it ends the program
abbrev pub Begun : ℕ → Program → Task → Configuration → Kept → Configuration → Kept → Result Unit EvalEnd → Type 0
Begun rest p task old kept new kept' (Ok it) = (0 < rest) × ((s : State) → s.turns ≡ rest
    → done p nothing_listed task old (over s kept) ≡ Gives new (over (record s { turns = rest - 1 }) kept'))
Begun rest p task old kept new kept' (Err end) = (s : State) → s.turns ≡ rest
    → Comes (Err end) (done p nothing_listed task old (over s kept)) new (over s kept')

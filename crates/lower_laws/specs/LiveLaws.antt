-- Laws on what is live in the graphs of functions.
use Rattle.std.specs.Prelude.{◌≡◌, ◌≤◌, ℕ, false, List, [], slice_get, Some}
use Rattle.c_tree.specs.Program.{Expression, Function, Program, value_type}
use Rattle.c_tree.specs.WellTyped.{IsTyped, WellTyped}
use Rattle.flow_graph.specs.declared.op.Op.{Op}
use Rattle.flow_graph.specs.declared.op.Op.TheVariants.{Mark}
use Rattle.flow_graph.specs.Graphs.{Flow, IsIn}
use Rattle.flow_graph.specs.Liveness.{BeginsWith, FixedDies, IsLiveBefore}
use Rattle.lower_lines.specs.Expressions.{part_of}
use Rattle.lower_lines.specs.Following.{Closes}
use Rattle.lower_lines.specs.Parts.{Wanted}
use Rattle.lower_lines.specs.Programs.{graph_of_function, lines_of_function}
use Rattle.lower_lines.specs.Variables.{local_variables}
use Rattle.lower_laws.specs.Flows.{Flows}
use Rattle.lower_laws.specs.Settled.{HasLocals, LowTarget, Settled, context_in, reached}

-- no temporary is live at a mark, where the variables below the first temporary are those of locals
abbrev pub NoneAtMarks : ℕ → Flow → Type 0
NoneAtMarks locals flow = (point statement v : ℕ) → slice_get flow.ops point ≡ Some (Mark statement)
    → locals ≤ v → IsLiveBefore flow v point → ⊥

-- fixed operands die at their ops, and are no other operand
abbrev pub AllFixedDie : Flow → Type 0
AllFixedDie flow = (point : ℕ) (i : Op) → slice_get flow.ops point ≡ Some i → FixedDies flow point i

-- what is live at the first point is in the set
abbrev pub FirstWithin : List ℕ → Flow → Type 0
FirstWithin set flow = (point v : ℕ) → BeginsWith flow 0 point → IsLiveBefore flow v point → IsIn v set

-- Sets for the lines of a function say what is live in its graph: nothing but what is in them.
abbrev pub FlowsSuffice : Type 0
FlowsSuffice = (p : Program) (f : Function) (at_block : ℕ → List ℕ)
    → Closes false (lines_of_function (record { program = p; function = f })) false
    → Flows (local_variables f) at_block [] (lines_of_function (record { program = p; function = f })) []
    → FirstWithin (at_block 0) (graph_of_function p f) × NoneAtMarks (local_variables f) (graph_of_function p f)
    × AllFixedDie (graph_of_function p f)

-- The lines of every typed expression have sets, whatever is wanted of it: of the temporaries of its level and of
-- higher ones it uses none before it writes it, and behind it there is its value, and what was there before.
abbrev pub ExpressionsSettle : Type 0
ExpressionsSettle = (p : Program) → WellTyped p → (k : ℕ) (f : Function) → slice_get p.functions k ≡ Some f
    → (e : Expression) → IsTyped p f e → (block level : ℕ) (w : Wanted) (set : List ℕ)
    → HasLocals (context_in p f) level set → LowTarget (context_in p f) w (value_type e)
    → Settled (context_in p f) block ((part_of (context_in p f) e).blocks w) w set
    ((part_of (context_in p f) e).lines block level w) (reached (context_in p f) level w (value_type e) set)

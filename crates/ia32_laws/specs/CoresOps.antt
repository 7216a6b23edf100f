-- That the machine follows single ops through these rows, over any placement that supports the graph.
use Rattle.std.specs.Prelude.{◌≡◌, ◌<◌, ℕ, ℤ, false, List, ◌∷◌, ◌++◌, length, Some}
use Rattle.ia32_insn.specs.declared.insn.Cond.{Cond}
use Rattle.ia32_insn.specs.declared.item.Item.{Item}
use Rattle.ia32_insn.specs.declared.item.Item.TheVariants as item
use Rattle.ia32_insn.specs.State as machine
use Rattle.flow_graph.specs.declared.op.Comparison.{Comparison}
use Rattle.flow_graph.specs.declared.op.Op.TheVariants as op
use Rattle.flow_graph.specs.Graphs.{Flow}
use Rattle.flow_graph.specs.Meaning.{act}
use Rattle.flow_graph.specs.States as graph
use Rattle.flow_graph.specs.States.{entry_of, flow_at, number_at, op_at}
use Rattle.flow_graph.specs.WellFormed.{IsState}
use Rattle.ia32_rows.specs.Follows.{Follows}
use Rattle.ia32_rows.specs.Placements.{Code, Placement, placement_of}
use Rattle.ia32_rows.specs.Shows.{Shows}
use Rattle.ia32_rows.specs.Sites.{ReadyAt, StandsFrom}
use Rattle.ia32_rows.specs.Rows.{branching, cond_of, jumping, loop_label, moves_into, selected, setting}
use Rattle.ia32_laws.specs.Supports.{IsSupported, site_of}
use Rattle.ia32_laws.specs.KeepsOps.{RowAt, RowFollows, after_at, before_at}

-- the low byte of a number, and its low 16 bits
abbrev pub LowFollows : Type 0
LowFollows = (d a : ℕ) → RowFollows (op.Low d a)

abbrev pub HalfFollows : Type 0
HalfFollows = (d a : ℕ) → RowFollows (op.Low16 d a)

-- shifts
abbrev pub LeftShiftFollows : Type 0
LeftShiftFollows = (d a c : ℕ) → RowFollows (op.Shl d a c)

abbrev pub RightShiftFollows : Type 0
RightShiftFollows = (d a c : ℕ) → RowFollows (op.Sar d a c)

abbrev pub UnsignedRightShiftFollows : Type 0
UnsignedRightShiftFollows = (d a c : ℕ) → RowFollows (op.Shr d a c)

-- divisions, with their traps
abbrev pub QuotientFollows : Type 0
QuotientFollows = (d a b : ℕ) → RowFollows (op.Div d a b)

abbrev pub RemainderFollows : Type 0
RemainderFollows = (d a b : ℕ) → RowFollows (op.Rem d a b)

abbrev pub UnsignedQuotientFollows : Type 0
UnsignedQuotientFollows = (d a b : ℕ) → RowFollows (op.Udiv d a b)

abbrev pub UnsignedRemainderFollows : Type 0
UnsignedRemainderFollows = (d a b : ℕ) → RowFollows (op.Urem d a b)

-- a comparison of two numbers
abbrev pub NumbersSetFollow : Type 0
NumbersSetFollow =
    (how : Comparison) (d a b : ℕ) (code : Code) (input : List ℕ) (g : graph.State) (s : machine.State) (x y : ℤ)
    → IsSupported code → IsState code.program g → Shows code input g s
    → op_at code.program g ≡ Some (op.Set how d a b) → number_at g a ≡ Some x → number_at g b ≡ Some y
    → RowAt code g (setting (cond_of how) (after_at code g d) (before_at code g a) (before_at code g b)) s
    → Follows code input s g false (act code.program g (op.Set how d a b))

-- Behind the label of a block of the current function stand the block's first point and more.
pub record BlockAt (code : Code) (g : graph.State) (block : ℕ) : Type 0 where
  pub front : List Item
  pub back : List Item
  pub start : ℕ
  pub stands : StandsFrom (site_of code g.current.function) (front ++ (item.Label block ∷ back)) start
  pub begins : (q : ℕ) → entry_of code.program g.current.function block ≡ Some q
      → (more : List Item) × (back ≡ item.Point q ∷ more)

-- the items of a branch on two variables of the current call, at the state's point
abbrev pub branch_at : Cond → ℕ → ℕ → ℕ → ℕ → Code → graph.State → List Item
branch_at c a b first second code g =
    let flow : Flow = flow_at code.program g.current.function in
    let placement : Placement = placement_of code g.current.function in
    branching c (loop_label flow g.point) (before_at code g a) (before_at code g b)
    (moves_into flow placement g.point first) (moves_into flow placement g.point second) first second

-- a branch on a comparison of two numbers
abbrev pub NumbersBranchFollow : Type 0
NumbersBranchFollow =
    (how : Comparison) (a b first second : ℕ) (code : Code) (input : List ℕ) (g : graph.State) (s : machine.State)
    (x y : ℤ) (rest : List Item) → IsSupported code → IsState code.program g → Shows code input g s
    → op_at code.program g ≡ Some (op.Branch how a b first second) → number_at g a ≡ Some x → number_at g b ≡ Some y
    → BlockAt code g first → BlockAt code g second
    → ReadyAt (site_of code g.current.function)
    (branch_at (cond_of how) a b first second code g ++ rest) s
    → Follows code input s g false (act code.program g (op.Branch how a b first second))

-- a jump
abbrev pub JumpFollows : Type 0
JumpFollows =
    (block : ℕ) (code : Code) (input : List ℕ) (g : graph.State) (s : machine.State) (rest : List Item)
    → IsSupported code → IsState code.program g → Shows code input g s → op_at code.program g ≡ Some (op.Jump block)
    → BlockAt code g block → ReadyAt (site_of code g.current.function)
    (jumping (moves_into (flow_at code.program g.current.function) (placement_of code g.current.function) g.point block)
    block ++ rest) s
    → Follows code input s g false (act code.program g (op.Jump block))

-- Where the items of a graph over its placement stand in the text, each of its blocks stands so.
abbrev pub BlocksStand : Type 0
BlocksStand =
    (code : Code) (g : graph.State) (start block : ℕ)
    → StandsFrom (site_of code g.current.function)
    (selected (flow_at code.program g.current.function) (placement_of code g.current.function)) start
    → block < length (flow_at code.program g.current.function).blocks → BlockAt code g block

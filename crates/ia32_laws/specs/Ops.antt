-- That the machine follows comparisons of any two values, of numbers and of arrays, and of numbers without sign, over any
-- placement that supports the graph.
use Rattle.std.specs.Prelude.{◌≡◌, ◌++◌, ℕ, false, List, Some}
use Rattle.ia32_insn.specs.declared.item.Item.{Item}
use Rattle.ia32_insn.specs.State as machine
use Rattle.flow_graph.specs.declared.op.Comparison.{Comparison}
use Rattle.flow_graph.specs.declared.op.Order.{Order}
use Rattle.flow_graph.specs.declared.op.Op.TheVariants as op
use Rattle.flow_graph.specs.Meaning.{act}
use Rattle.flow_graph.specs.States as graph
use Rattle.flow_graph.specs.States.{op_at}
use Rattle.flow_graph.specs.WellFormed.{IsState}
use Rattle.ia32_rows.specs.Follows.{Follows}
use Rattle.ia32_rows.specs.Placements.{Code}
use Rattle.ia32_rows.specs.Shows.{Shows}
use Rattle.ia32_rows.specs.Rows.{cond_of, cond_of_order}
use Rattle.ia32_rows.specs.Sites.{ReadyAt}
use Rattle.ia32_laws.specs.Supports.{IsSupported, site_of}
use Rattle.ia32_laws.specs.KeepsOps.{RowFollows}
use Rattle.ia32_laws.specs.CoresOps.{BlockAt, branch_at}

abbrev pub SetFollows : Type 0
SetFollows = (how : Comparison) (d a b : ℕ) → RowFollows (op.Set how d a b)

-- the check that two values are the same, with its trap
abbrev pub SameFollows : Type 0
SameFollows = (a b : ℕ) → RowFollows (op.Same a b)

-- a branch, where the first points of both blocks stand behind their labels
abbrev pub BranchFollows : Type 0
BranchFollows =
    (how : Comparison) (a b first second : ℕ) (code : Code) (input : List ℕ) (g : graph.State) (s : machine.State)
    (rest : List Item) → IsSupported code → IsState code.program g → Shows code input g s
    → op_at code.program g ≡ Some (op.Branch how a b first second) → BlockAt code g first → BlockAt code g second
    → ReadyAt (site_of code g.current.function)
    (branch_at (cond_of how) a b first second code g ++ rest) s
    → Follows code input s g false (act code.program g (op.Branch how a b first second))

-- the order of two numbers without sign, as a number and as a branch
abbrev pub OrderSetFollows : Type 0
OrderSetFollows = (how : Order) (d a b : ℕ) → RowFollows (op.Setu how d a b)

abbrev pub OrderBranchFollows : Type 0
OrderBranchFollows =
    (how : Order) (a b first second : ℕ) (code : Code) (input : List ℕ) (g : graph.State) (s : machine.State)
    (rest : List Item) → IsSupported code → IsState code.program g → Shows code input g s
    → op_at code.program g ≡ Some (op.Branchu how a b first second) → BlockAt code g first → BlockAt code g second
    → ReadyAt (site_of code g.current.function)
    (branch_at (cond_of_order how) a b first second code g ++ rest) s
    → Follows code input s g false (act code.program g (op.Branchu how a b first second))

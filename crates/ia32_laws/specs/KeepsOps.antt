-- That the machine follows single ops of the program, over any placement that supports the graph.
use Rattle.std.specs.Prelude.{◌≡◌, ℕ, ℤ, List, ◌∷◌, ◌++◌, Some}
use Rattle.ia32_insn.specs.Places.{Place}
use Rattle.ia32_insn.specs.declared.item.Item.{Item}
use Rattle.ia32_insn.specs.declared.item.Item.TheVariants as item
use Rattle.ia32_insn.specs.State as machine
use Rattle.flow_graph.specs.declared.op.Op.{Op}
use Rattle.flow_graph.specs.declared.op.Op.TheVariants as op
use Rattle.flow_graph.specs.Meaning.{act}
use Rattle.flow_graph.specs.States as graph
use Rattle.flow_graph.specs.States.{flow_at, op_at, point_after}
use Rattle.flow_graph.specs.WellFormed.{IsState}
use Rattle.ia32_rows.specs.Follows.{Follows, is_nop}
use Rattle.ia32_rows.specs.Placements.{Code, placement_of}
use Rattle.ia32_rows.specs.Shows.{Shows}
use Rattle.ia32_rows.specs.Sites.{ReadyAt}
use Rattle.ia32_rows.specs.Rows.{moves_to, place_after, place_before, row}
use Rattle.ia32_laws.specs.Supports.{IsSupported, site_of}

-- where variables of the current call stand before and after the state's point
abbrev pub before_at : Code → graph.State → ℕ → Place
before_at code g v = place_before (placement_of code g.current.function) g.point v

abbrev pub after_at : Code → graph.State → ℕ → Place
after_at code g v = place_after (placement_of code g.current.function) g.point v

-- These items are ready at EIP, and behind them the moves to the next point of the block, and that point, if there is
-- one.
pub record RowAt (code : Code) (g : graph.State) (items : List Item) (s : machine.State) : Type 0 where
  pub rest : List Item
  pub ready : ReadyAt (site_of code g.current.function) (items ++ rest) s
  pub follows : (q : ℕ) → point_after code.program g.current.function g.block g.point ≡ Some q
      → (more : List Item)
      × (rest ≡ moves_to (placement_of code g.current.function) g.point (Some q) ++ item.Point q ∷ more)

-- From every state that shows one at this op the machine follows the op's step through such items.
abbrev pub ItemsFollow : Op → (Code → graph.State → List Item) → Type 0
ItemsFollow o items =
    (code : Code) (input : List ℕ) (g : graph.State) (s : machine.State) → IsSupported code → IsState code.program g
    → Shows code input g s → op_at code.program g ≡ Some o → RowAt code g (items code g) s
    → Follows code input s g (is_nop (Some o)) (act code.program g o)

-- and through the op's own row
abbrev pub RowFollows : Op → Type 0
RowFollows o =
    ItemsFollow o (λ code g.
    row (flow_at code.program g.current.function) (placement_of code g.current.function) g.point o)

-- ---- the ops

-- a number, in a variable of either width
abbrev pub NumberFollows : Type 0
NumberFollows = (d : ℕ) (n : ℤ) → RowFollows (op.Const d n)

-- a copy, between variables of either width
abbrev pub CopyFollows : Type 0
CopyFollows = (d a : ℕ) → RowFollows (op.Copy d a)

abbrev pub SumFollows : Type 0
SumFollows = (d a b : ℕ) → RowFollows (op.Add d a b)

abbrev pub DifferenceFollows : Type 0
DifferenceFollows = (d a b : ℕ) → RowFollows (op.Sub d a b)

abbrev pub AndFollows : Type 0
AndFollows = (d a b : ℕ) → RowFollows (op.And d a b)

abbrev pub OrFollows : Type 0
OrFollows = (d a b : ℕ) → RowFollows (op.Or d a b)

abbrev pub XorFollows : Type 0
XorFollows = (d a b : ℕ) → RowFollows (op.Xor d a b)

abbrev pub ProductFollows : Type 0
ProductFollows = (d a b : ℕ) → RowFollows (op.Mul d a b)

abbrev pub NegationFollows : Type 0
NegationFollows = (d a : ℕ) → RowFollows (op.Neg d a)

abbrev pub ComplementFollows : Type 0
ComplementFollows = (d a : ℕ) → RowFollows (op.Not d a)

-- a byte made a word, with its sign and with zero bits
abbrev pub ExtensionFollows : Type 0
ExtensionFollows = (d a : ℕ) → RowFollows (op.Wide d a)

abbrev pub ZeroExtensionFollows : Type 0
ZeroExtensionFollows = (d a : ℕ) → RowFollows (op.Zero d a)

-- a mark and a turn
abbrev pub MarkFollows : Type 0
MarkFollows = (statement : ℕ) → RowFollows (op.Mark statement)

abbrev pub TurnFollows : Type 0
TurnFollows = RowFollows op.Turn

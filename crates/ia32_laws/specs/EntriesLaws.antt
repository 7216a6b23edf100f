-- That a function's first items come to its first point.
use Rattle.std.specs.Prelude.{◌<◌, ℕ, List, ◌∷◌, ◌++◌, length}
use Rattle.ia32_insn.specs.declared.item.Item.{Item}
use Rattle.ia32_insn.specs.declared.item.Item.TheVariants as item
use Rattle.ia32_insn.specs.State as machine
use Rattle.flow_graph.specs.States as graph
use Rattle.flow_graph.specs.States.{flow_at}
use Rattle.flow_graph.specs.WellFormed.{IsState}
use Rattle.ia32_rows.specs.Follows.{ComesTo}
use Rattle.ia32_rows.specs.Placements.{Code, placement_of}
use Rattle.ia32_rows.specs.Sites.{ReadyAt}
use Rattle.ia32_rows.specs.Rows.{headers, prologue}
use Rattle.ia32_laws.specs.Supports.{IsSupported, site_of}
use Rattle.ia32_laws.specs.StandingLaws.{IsSelected}
use Rattle.ia32_laws.specs.Called.{Called}

-- ---- a function's first items

-- The first items of the current call's function are ready at EIP, and behind them stand its first point and more.
pub record EntryAt (code : Code) (g : graph.State) (s : machine.State) : Type 0 where
  pub label : ℕ
  pub rest : List Item
  pub ready : ReadyAt (site_of code g.current.function)
      (prologue (placement_of code g.current.function).frame (placement_of code g.current.function).zeroed label
      ++ (headers (flow_at code.program g.current.function).arrays (placement_of code g.current.function).arrays
      ++ (item.Label 0 ∷ item.Point g.point ∷ rest))) s

-- So it is in selected code where a call has begun.
abbrev pub EntriesAreReady : Type 0
EntriesAreReady =
    (code : Code) (input : List ℕ) (g : graph.State) (s : machine.State) → IsSelected code
    → g.current.function < length code.program.functions → Called code input g s → EntryAt code g s

-- From a function's first item the machine comes to a state that shows its first point: the frame is made, variables
-- and elements are 0, and each array has its number of elements.
abbrev pub EntryComes : Type 0
EntryComes =
    (code : Code) (input : List ℕ) (g : graph.State) (s : machine.State) → IsSupported code → IsState code.program g
    → Called code input g s → EntryAt code g s → ComesTo code input s g

-- What the moves between two points keep: the state of the program stays shown.
use Rattle.std.specs.Prelude.{ℕ, List, ◌∷◌, ◌++◌, Some}
use Rattle.ia32_insn.specs.declared.item.Item.{Item}
use Rattle.ia32_insn.specs.declared.item.Item.TheVariants as item
use Rattle.ia32_insn.specs.State as machine
use Rattle.flow_graph.specs.Liveness.{IsSuccessor}
use Rattle.flow_graph.specs.States as graph
use Rattle.flow_graph.specs.States.{flow_at}
use Rattle.flow_graph.specs.WellFormed.{IsState}
use Rattle.ia32_rows.specs.Follows.{ComesTo}
use Rattle.ia32_rows.specs.Paths.{Comes}
use Rattle.ia32_rows.specs.Placements.{Code, placement_of}
use Rattle.ia32_rows.specs.Shows.{ShowsIn}
use Rattle.ia32_rows.specs.Sites.{ReadyAt}
use Rattle.ia32_rows.specs.Rows.{moves_to}
use Rattle.ia32_laws.specs.Supports.{IsSupported, site_of}

-- The state of the machine shows one of the program with variables in the places where they stand after another point
-- of the current function.
abbrev pub ShowsBehind : Code → List ℕ → ℕ → graph.State → machine.State → Type 0
ShowsBehind code input point g s =
    ShowsIn code input ((placement_of code g.current.function).after point) s.eip g s

-- Where a state is shown in the places behind a point that its own point follows, and the moves between the two are
-- ready, the machine comes through them to what follows them, with the state shown in the places before its point.
pub record MovedOn (code : Code) (input : List ℕ) (g : graph.State) (back : List Item) (s t : machine.State) : Type 0
  where
    pub comes : Comes code.text s t
    pub ready : ReadyAt (site_of code g.current.function) back t
    pub shown : ShowsIn code input ((placement_of code g.current.function).before g.point) t.eip g t

abbrev pub MovesLead : Type 0
MovesLead =
    (code : Code) (input : List ℕ) (g : graph.State) (s : machine.State) (point : ℕ) (back : List Item)
    → IsSupported code → IsState code.program g
    → IsSuccessor (flow_at code.program g.current.function) point g.point → ShowsBehind code input point g s
    → ReadyAt (site_of code g.current.function)
    (moves_to (placement_of code g.current.function) point (Some g.point) ++ back) s
    → (t : machine.State) × MovedOn code input g back s t

-- where the point itself follows them, it comes there
abbrev pub MovesShow : Type 0
MovesShow =
    (code : Code) (input : List ℕ) (g : graph.State) (s : machine.State) (point : ℕ) (rest : List Item)
    → IsSupported code → IsState code.program g
    → IsSuccessor (flow_at code.program g.current.function) point g.point → ShowsBehind code input point g s
    → ReadyAt (site_of code g.current.function)
    (moves_to (placement_of code g.current.function) point (Some g.point) ++ item.Point g.point ∷ rest) s
    → ComesTo code input s g

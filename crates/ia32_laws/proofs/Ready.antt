-- A function's first items stand where its call begins.
use Rattle.std.proofs.Common.{ℕ, List, ◌∷◌, ◌++◌, refl}
use Rattle.ia32_insn.specs.declared.item.Item.{Item}
use Rattle.ia32_insn.specs.declared.item.Item.TheVariants as item
use Rattle.flow_graph.specs.Graphs.{Flow}
use Rattle.flow_graph.specs.States.{flow_at}
use Rattle.ia32_rows.specs.Placements.{Placement, placement_of}
use Rattle.ia32_rows.proofs.Sets.{ready-from}
use Rattle.ia32_rows.specs.Rows.{entry_label, headers, prologue}
use Rattle.ia32_laws.specs.Supports.{site_of}
use Rattle.ia32_laws.proofs.Points.{entries-stand}
use Rattle.ia32_laws.specs.EntriesLaws.{EntriesAreReady}

pub entries-are-ready : EntriesAreReady
entries-are-ready code input g s h below c =
    let f : ℕ = g.current.function in
    let flow : Flow = flow_at code.program f in
    let placement : Placement = placement_of code f in
    let at = entries-stand code f s.eip g.point h below c.eip c.begins in
    let items : List Item =
    prologue placement.frame placement.zeroed (entry_label flow)
    ++ (headers flow.arrays placement.arrays ++ (item.Label 0 ∷ item.Point g.point ∷ at.more)) in
    record {
      label = entry_label flow;
      rest = at.more;
      ready = ready-from (site_of code f) items s.eip s at.stands refl;
    }

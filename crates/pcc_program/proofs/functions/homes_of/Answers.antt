-- One more graph has its home.
use Rattle.std.proofs.Common.{◌≡◌, ◌+◌, List, length, map, take, refl, sym, subst}
use Rattle.std.specs.List.{All}
use Rattle.std.proofs.lemmas.List.Elements.{All-push}
use Rattle.std.proofs.lemmas.Option.{slice_get_read}
use Rattle.map_lines.specs.declared.home.Home.{Home}
use Rattle.map_lines.specs.Printing.{graph_of}
use Rattle.pcc_program.specs.Passes.{IsAllocated}
use Rattle.pcc_program.proofs.Loops.{homes-more}
use Rattle.pcc_program.proofs.functions.homes_of.Goals as goal

pub loop-graph-preserved : goal.loop-graph-preserved
loop-graph-preserved c =
    let graphs = c.args.graphs.now in
    let k = c.loop-graph.graph-index in
    let homes = c.loop-graph.homes.items in
    subst (λ (hs : List Home). (map graph_of hs ≡ take (k + 1) graphs) × All IsAllocated hs)
    (sym {A = List Home} c.in_ok-push.ensures.items) (
      homes-more graphs homes k c.graph-item.result c.in_ok-home_for.field-0 c.loop-graph.invariant.0
          (slice_get_read graphs (length graphs) k c.graph-item.result refl c.loop-graph-test.true c.graph-item.is)
          c.in_ok-home_for.ensures.graph,
      All-push IsAllocated homes c.in_ok-home_for.field-0 c.loop-graph.invariant.1 c.in_ok-home_for.ensures.allocated,
    )

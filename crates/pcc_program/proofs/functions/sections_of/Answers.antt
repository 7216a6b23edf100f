-- One more function has its section.
use Rattle.std.proofs.Common.{◌+◌, List, length, map, take, refl, sym, subst}
use Rattle.std.proofs.lemmas.Option.{slice_get_read}
use Rattle.flow_graph.proofs.Lists.{All-at}
use Rattle.ia32_asm.specs.declared.section.Section.{Section}
use Rattle.map_lines.specs.Printing.{graph_of}
use Rattle.pcc_program.specs.Code.{HasFrame}
use Rattle.pcc_program.specs.Passes.{AreSectionsFrom, IsAllocated}
use Rattle.pcc_program.proofs.Loops.{one-small, sections-more}
use Rattle.pcc_program.proofs.Placed.{graph-at}
use Rattle.pcc_program.proofs.functions.sections_of.Goals as goal

pub section_of-requires-clause-graph : goal.section_of-requires-clause-graph
section_of-requires-clause-graph c =
    let homes = c.args.homes.now in
    let k = c.loop-function.function in
    let home = c.index-homes-function.result in
    let (functions, objects, all) = c.requires.graphs in
    let there = slice_get_read homes (length homes) k home refl c.loop-function-test.true c.index-homes-function.is in (
      functions,
      objects,
      All-at (HasFrame functions objects) (map graph_of homes) k (graph_of home) all
          (graph-at (map graph_of homes) homes k home refl there),
    )

pub section_of-requires-clause-allocated : goal.section_of-requires-clause-allocated
section_of-requires-clause-allocated c =
    let homes = c.args.homes.now in
    let k = c.loop-function.function in
    let home = c.index-homes-function.result in
    All-at IsAllocated homes k home c.requires.allocated
    (slice_get_read homes (length homes) k home refl c.loop-function-test.true c.index-homes-function.is)

pub section_of-requires-clause-small : goal.section_of-requires-clause-small
section_of-requires-clause-small c =
    let homes = c.args.homes.now in
    let k = c.loop-function.function in
    let home = c.index-homes-function.result in
    let there = slice_get_read homes (length homes) k home refl c.loop-function-test.true c.index-homes-function.is in
    one-small (map graph_of homes) k (graph_of home) (graph-at (map graph_of homes) homes k home refl there)
    c.requires.small

pub loop-function-preserved : goal.loop-function-preserved
loop-function-preserved c =
    let homes = c.args.homes.now in
    let k = c.loop-function.function in
    subst (λ (ss : List Section). AreSectionsFrom 0 (take (k + 1) homes) ss)
    (sym {A = List Section} c.in_ok-push.ensures.items)
    (sections-more homes c.loop-function.sections.items k c.index-homes-function.result c.in_ok-section_of.field-0
    c.loop-function.invariant
    (slice_get_read homes (length homes) k c.index-homes-function.result refl c.loop-function-test.true
    c.index-homes-function.is)
    c.in_ok-section_of.ensures)

-- Each pass takes what the passes before it promise, and together they keep the program's outcome.
use Rattle.std.proofs.Common.{◌<◌, ◌≤◌, ◌^◌, ℕ, List, length, map, sym, ap, ◌∙◌, subst}
use Rattle.std.specs.Prelude.{sum_by}
use Rattle.std.specs.List.{All}
use Rattle.std.proofs.lemmas.List.{length-map}
use Rattle.pcc_base.specs.Bytes.{AreBytes}
use Rattle.c_tree.specs.Erased.{program_of}
use Rattle.flow_graph.specs.Graphs.{Flow}
use Rattle.ia32_select.specs.Sizes.{most_bytes}
use Rattle.lower.specs.Graphs.{graphs_of}
use Rattle.map_lines.specs.declared.home.Home.{Home}
use Rattle.map_lines.specs.Printing.{graph_of}
use Rattle.map_text.specs.Words.{map_text}
use Rattle.pcc_program.specs.Code.{HasFrame}
use Rattle.pcc_program.specs.LinkedLaws.{linked_map}
use Rattle.pcc_program.specs.Passes.{AreSectionsFrom, IsAllocated}
use Rattle.pcc_program.specs.Products.{IsImageOf}
use Rattle.pcc_program.proofs.Passed.{image-fits, linked-are, links, map-same, prints-same}
use Rattle.pcc_program.proofs.program.compile_program.Goals as goal

pub homes_of-requires : goal.homes_of-requires
homes_of-requires c =
    let graphs = graphs_of c.in_ok-graphs.graphs in (
      length graphs.functions,
      length graphs.objects,
      subst (λ (fs : List Flow). All (HasFrame (length graphs.functions) (length graphs.objects)) fs)
          (sym c.as_slice.ensures.value) c.in_ok-graphs.ensures.frames.each,
    )

pub sections_of-requires-clause-graphs : goal.sections_of-requires-clause-graphs
sections_of-requires-clause-graphs c =
    let graphs = graphs_of c.in_ok-graphs.graphs in
    let same = c.in_ok-homes.ensures.graphs ∙ c.as_slice.ensures.value in
    let P : List Flow → Type 0 = All (HasFrame (length graphs.functions) (length graphs.objects)) in (
      length graphs.functions,
      length graphs.objects,
      subst (λ (hs : List Home). P (map graph_of hs)) (sym c.as_slice-2.ensures.value)
          (subst P (sym same) c.in_ok-graphs.ensures.frames.each),
    )

pub sections_of-requires-clause-few : goal.sections_of-requires-clause-few
sections_of-requires-clause-few c =
    let homes = c.in_ok-homes.homes.items in
    let same = c.in_ok-homes.ensures.graphs ∙ c.as_slice.ensures.value in
    let many = sym (length-map homes graph_of) ∙ ap length same in
    subst (λ (hs : List Home). length hs ≤ 0x10000) (sym c.as_slice-2.ensures.value)
    (subst (λ (n : ℕ). n ≤ 0x10000) (sym many) c.in_ok-graphs.ensures.frames.few)

pub sections_of-requires-clause-allocated : goal.sections_of-requires-clause-allocated
sections_of-requires-clause-allocated c =
    subst (λ (hs : List Home). All IsAllocated hs) (sym c.as_slice-2.ensures.value) c.in_ok-homes.ensures.allocated

pub sections_of-requires-clause-small : goal.sections_of-requires-clause-small
sections_of-requires-clause-small c =
    let same = c.in_ok-homes.ensures.graphs ∙ c.as_slice.ensures.value in
    let P : List Flow → Type 0 = λ fs. sum_by most_bytes fs < 2 ^ 30 in
    subst (λ (hs : List Home). P (map graph_of hs)) (sym c.as_slice-2.ensures.value)
    (subst P (sym same) c.in_ok-graphs.ensures.frames.code)

pub link-requires : goal.link-requires
link-requires c =
    let homes = c.in_ok-homes.homes.items in
    let sections = c.in_ok-sections.sections.items in
    links (program_of c.args.program.now) (graphs_of c.in_ok-graphs.graphs) homes sections c.requires
    c.in_ok-graphs.ensures.lowered c.in_ok-graphs.ensures.frames
    (c.in_ok-homes.ensures.graphs ∙ c.as_slice.ensures.value)
    (subst (λ (hs : List Home). AreSectionsFrom 0 hs sections) c.as_slice-2.ensures.value c.in_ok-sections.ensures)

pub print_map-requires : goal.print_map-requires
print_map-requires c =
    let p = program_of c.args.program.now in
    let graphs = graphs_of c.in_ok-graphs.graphs in
    let homes = c.in_ok-homes.homes.items in
    let sections = c.in_ok-sections.sections.items in
    let linked = c.in_ok-linked.linked in
    let are = linked-are p graphs homes sections linked c.requires c.in_ok-graphs.ensures.lowered
    c.in_ok-graphs.ensures.frames (c.in_ok-homes.ensures.graphs ∙ c.as_slice.ensures.value)
    c.in_ok-homes.ensures.allocated
    (subst (λ (hs : List Home). AreSectionsFrom 0 hs sections) c.as_slice-2.ensures.value c.in_ok-sections.ensures)
    c.in_ok-linked.ensures.program c.in_ok-linked.ensures.size
    (subst AreBytes c.deref.ensures.value c.are_bytes.ensures)
    (subst AreBytes c.deref-2.ensures.value c.are_bytes-2.ensures) in
    prints-same p homes c.as_slice-3.result.now linked.objects.items c.as_slice-objects.result.now
    (map (λ v. v.items) linked.points.items) (map (λ v. v.items) c.as_slice-points.result.now)
    c.as_slice-3.ensures.value c.as_slice-objects.ensures.value
    (ap (map (λ v. v.items)) c.as_slice-points.ensures.value)
    (c.linked_does_as.ensures.prints p graphs homes sections linked are)

pub write_image-requires : goal.write_image-requires
write_image-requires c =
    let p = program_of c.args.program.now in
    let graphs = graphs_of c.in_ok-graphs.graphs in
    let homes = c.in_ok-homes.homes.items in
    let sections = c.in_ok-sections.sections.items in
    let linked = c.in_ok-linked.linked in
    image-fits p graphs homes sections linked (linked-are p graphs homes sections linked c.requires
    c.in_ok-graphs.ensures.lowered c.in_ok-graphs.ensures.frames
    (c.in_ok-homes.ensures.graphs ∙ c.as_slice.ensures.value) c.in_ok-homes.ensures.allocated
    (subst (λ (hs : List Home). AreSectionsFrom 0 hs sections) c.as_slice-2.ensures.value c.in_ok-sections.ensures)
    c.in_ok-linked.ensures.program c.in_ok-linked.ensures.size
    (subst AreBytes c.deref.ensures.value c.are_bytes.ensures)
    (subst AreBytes c.deref-2.ensures.value c.are_bytes-2.ensures))

pub returns : goal.returns
returns c =
    let p = program_of c.args.program.now in
    let graphs = graphs_of c.in_ok-graphs.graphs in
    let homes = c.in_ok-homes.homes.items in
    let sections = c.in_ok-sections.sections.items in
    let linked = c.in_ok-linked.linked in
    let are = linked-are p graphs homes sections linked c.requires c.in_ok-graphs.ensures.lowered
    c.in_ok-graphs.ensures.frames (c.in_ok-homes.ensures.graphs ∙ c.as_slice.ensures.value)
    c.in_ok-homes.ensures.allocated
    (subst (λ (hs : List Home). AreSectionsFrom 0 hs sections) c.as_slice-2.ensures.value c.in_ok-sections.ensures)
    c.in_ok-linked.ensures.program c.in_ok-linked.ensures.size
    (subst AreBytes c.deref.ensures.value c.are_bytes.ensures)
    (subst AreBytes c.deref-2.ensures.value c.are_bytes-2.ensures) in
    let same = map-same p homes c.as_slice-3.result.now linked.objects.items c.as_slice-objects.result.now
    (map (λ v. v.items) linked.points.items) (map (λ v. v.items) c.as_slice-points.result.now)
    c.as_slice-3.ensures.value c.as_slice-objects.ensures.value
    (ap (map (λ v. v.items)) c.as_slice-points.ensures.value) in (
      linked_map p homes linked,
      c.in_ok-map.ensures ∙ ap map_text same,
      subst (λ (xs : List ℕ). IsImageOf p (linked_map p homes linked) xs) (sym c.in_ok-image.ensures)
          (c.linked_does_as.ensures.does p graphs homes sections linked are),
    )

-- What the text of a map asks of the passes before it.
use Rattle.std.proofs.Common.{◌≡◌, ◌≤◌, ◌+◌, ◌*◌, ℕ, List, [], ◌∷◌, length, map, Some, ap, ◌∙◌, arith}
use Rattle.std.specs.Prelude.{slice_get}
use Rattle.std.specs.List.{All, AllByRecursion}
use Rattle.std.proofs.lemmas.List.Elements.{All-head, All-tail}
use Rattle.std.proofs.lemmas.List.{length-map}
use Rattle.std.proofs.lemmas.Option.{slice_get_within}
use Rattle.c_tree.specs.Objects.{data_object}
use Rattle.c_tree.specs.Program.{Function, Program, StaticObject}
use Rattle.elf_link.specs.declared.linked.Linked.{Linked}
use Rattle.flow_graph.specs.Sizes.{most_words}
use Rattle.flow_graph.specs.States.{GraphProgram}
use Rattle.flow_graph.proofs.Lists.{All-at}
use Rattle.allocator.specs.PointMaps.{bytes_of_arrays}
use Rattle.ia32_asm.specs.declared.section.Section.{Section}
use Rattle.ia32_insn.specs.Items.{data_start}
use Rattle.ia32_insn.proofs.Objects.{length-object_addresses}
use Rattle.map_lines.specs.declared.home.Home.{Home}
use Rattle.map_lines.specs.Printing.{CanPrint, CanPrintAll, graph_of}
use Rattle.pcc_program.specs.LinkedLaws.{AreLinked}
use Rattle.pcc_program.specs.Passes.{IsAllocated}
use Rattle.pcc_program.proofs.Does.{Laws, as-many-tables, frame-of, have-frames, point-stands}
use Rattle.pcc_program.proofs.Placed.{as-many-homes, graph-at, point-entry}
use Rattle.pcc_program.proofs.Selected.{frame-most}

few-elements : (objects : List StaticObject) → All (λ o. length o.elements ≤ 0x01000000) objects
    → AllByRecursion (λ o. length o.elements ≤ 0xffffffff) objects
few-elements [] all = tt
few-elements (o ∷ objects) all =
    let here = All-head (λ (x : StaticObject). length x.elements ≤ 0x01000000) o objects all in (
      omega (arith, here),
      few-elements objects (All-tail (λ (x : StaticObject). length x.elements ≤ 0x01000000) o objects all),
    )

few-widths : (widths words bytes : ℕ) → 24 + 4 * widths + 4 * words + bytes ≤ 0x4000 → widths ≤ 0x1000
few-widths widths words bytes h = omega arith

few-bytes : (frame widths words bytes : ℕ) → 24 + 4 * widths + 4 * words + bytes ≤ 0x4000
    → frame ≤ 16 + 4 * widths + bytes → frame ≤ 0x4000
few-bytes frame widths words bytes h most = omega arith

module _ (laws : Laws) (program : Program) (graphs : GraphProgram) (homes : List Home) (sections : List Section)
    (linked : Linked) (h : AreLinked program graphs homes sections linked) where
  can-print : (k : ℕ) (f : Function) (home : Home) (points : List ℕ) → slice_get program.functions k ≡ Some f
      → slice_get homes k ≡ Some home → slice_get (map (λ v. v.items) linked.points.items) k ≡ Some points
      → CanPrint f home points
  can-print k f home points e at there =
      let flow = graph_of home in
      let allocated = (All-at IsAllocated homes k home h.allocated at).allocated in
      let has = frame-of laws program graphs homes sections linked h k home at in
      let words = most_words flow.ops in
      let bytes = bytes_of_arrays flow.arrays in
      record {
        shape = h.lowered.shapes.each k f flow e (graph-at graphs.functions homes k home h.graphs_are at);
        allocated = allocated;
        few_variables = few-widths (length flow.widths) words bytes has.small;
        small_frame = few-bytes home.places.frame (length flow.widths) words bytes has.small
            (frame-most flow home.places allocated.frame allocated.variables);
        placed = λ p is. slice_get_within points p _
            (point-entry graphs homes sections h.sections_of linked h.linked_is h.graphs_are k home at points there p
            (point-stands laws program graphs homes sections linked h k p home at is));
      }

  pub linked-can-print : CanPrintAll program homes linked.objects.items (map (λ v. v.items) linked.points.items)
  linked-can-print =
      let few = (have-frames laws program graphs homes sections linked h).few in
      let many = as-many-homes graphs homes sections h.sections_of linked h.linked_is h.graphs_are
      ∙ h.lowered.shapes.as_many in
      record {
        as_many_objects = ap length h.linked_is.objects_are ∙ ap length h.linked_is.text.objects_are
            ∙ length-object_addresses (data_start linked.image.text.items + 4) graphs.objects
            ∙ ap length h.lowered.objects ∙ length-map program.objects data_object;
        few_objects = omega (arith, h.compilable.memory.few_objects);
        few_elements = few-elements program.objects h.compilable.memory.few_elements;
        as_many_homes = many;
        as_many_points = as-many-tables laws program graphs homes sections linked h ∙ many;
        few_functions = omega (arith, few, h.lowered.shapes.as_many);
        each = can-print;
      }

-- What each pass relies on, from what the passes before it promise.
use Rattle.std.proofs.Common.{◌≡◌, ◌<◌, ◌≤◌, ◌+◌, ◌*◌, ◌^◌, ℕ, List, length, map, ap, sym, subst, arith, ◌∙◌}
use Rattle.std.specs.Prelude.{sum_by, vec_len}
use Rattle.std.specs.List.{All}
use Rattle.std.proofs.lemmas.List.{length-map}
use Rattle.pcc_base.specs.Bytes.{AreBytes}
use Rattle.c_tree.specs.Program.{Program}
use Rattle.elf_link.specs.declared.linked.Linked.{Linked}
use Rattle.elf_link.specs.Parts.{order_of, sections_size}
use Rattle.elf_link.specs.Linking.{AreSections, CanLink, IsLinked}
use Rattle.elf_link.specs.Placed.{routines_size}
use Rattle.elf_link.proofs.DataSize.{length-data}
use Rattle.flow_graph.specs.Graphs.{Flow}
use Rattle.flow_graph.specs.Sizes.{most_words}
use Rattle.flow_graph.specs.States.{GraphProgram}
use Rattle.flow_graph.specs.WellFormed.{IsGraph}
use Rattle.flow_graph.proofs.Lists.{All-at}
use Rattle.allocator.specs.PointMaps.{bytes_of_arrays}
use Rattle.allocator.specs.SplitForms.{placed_count}
use Rattle.ia32_asm.specs.declared.section.Section.{Section}
use Rattle.ia32_insn.specs.declared.item.Item.{Item}
use Rattle.ia32_select.specs.Selections.{CanSelect}
use Rattle.ia32_select.specs.Sizes.{most_bytes}
use Rattle.lower_laws.specs.Lowered.{AreLowered}
use Rattle.map_lines.specs.declared.home.Home.{Home}
use Rattle.map_lines.specs.MapOf.{map_of}
use Rattle.map_lines.specs.Printing.{CanPrintAll, address_in, graph_of, home_of}
use Rattle.pcc_program.specs.Code.{HasFrame, HaveFrames}
use Rattle.pcc_program.specs.LinkedLaws.{AreLinked}
use Rattle.pcc_program.specs.Passes.{AreSectionsFrom, IsAllocated, items_of}
use Rattle.pcc_program.specs.Programs.{IsCompilable}
use Rattle.pcc_program.proofs.Joined.{few-placed}
use Rattle.pcc_program.proofs.Linking.{are-sections, can-link, sections-small}
use Rattle.pcc_program.proofs.Placed.{can-hold, graph-at, objects-small}

-- ---- one function

-- the blocks of a graph have few points
pub placed-few : (functions objects : ℕ) (flow : Flow) → HasFrame functions objects flow
    → placed_count flow < 0x80000000
placed-few functions objects flow has =
    let few = few-placed flow has.graph.keeps.0 has.graph.keeps.1 in omega (arith, few, has.labels)

-- a frame with a slot for each variable has room
pub has-room : (functions objects : ℕ) (flow : Flow) → HasFrame functions objects flow
    → 16 + 4 * length flow.widths + bytes_of_arrays flow.arrays < 0x80000000
has-room functions objects flow has =
    by (length flow.widths) (most_words flow.ops) (bytes_of_arrays flow.arrays) has.small
  where
    by : (widths words bytes : ℕ) → 24 + 4 * widths + 4 * words + bytes ≤ 0x4000
        → 16 + 4 * widths + bytes < 0x80000000
    by widths words bytes h = omega arith

-- the items of a graph can be selected over its home
pub can-select : (functions objects : ℕ) (home : Home) → HasFrame functions objects (graph_of home)
    → IsAllocated home → CanSelect (graph_of home) home.places
can-select functions objects home has is =
    record {
      legal = record {
        lives = home.form.lives;
        live = is.form.live;
        dies = is.form.dies;
        nothing_first = has.nothing_first;
        points = is.allocated.legal;
        frame = is.allocated.frame;
      };
      points = is.allocated.points;
      variables = is.allocated.variables;
      small = has.small;
      labels = omega (arith, has.labels);
    }

-- ---- all functions

-- there are as many homes as graphs
many-homes : (flows : List Flow) (homes : List Home) → map graph_of homes ≡ flows → length homes ≡ length flows
many-homes flows homes same = sym (length-map homes graph_of) ∙ ap length same

-- the sections can be linked
pub links : (program : Program) (graphs : GraphProgram) (homes : List Home) (sections : List Section)
    → IsCompilable program → AreLowered program graphs → HaveFrames graphs → map graph_of homes ≡ graphs.functions
    → AreSectionsFrom 0 homes sections → CanLink sections graphs.objects graphs.main
links program graphs homes sections compilable of frames same h =
    let many = many-homes graphs.functions homes same in
    let objects = length graphs.objects in
    can-link homes sections graphs.objects graphs.main h
    (λ i home e.
    let has = All-at (HasFrame (length graphs.functions) objects) graphs.functions i (graph_of home) frames.each
    (graph-at graphs.functions homes i home same e) in
    subst (λ (n : ℕ). IsGraph n objects (graph_of home)) (sym many) has.graph)
    (omega (arith, of.well_formed.main, many))
    (subst (λ (flows : List Flow). sum_by most_bytes flows < 2 ^ 30) (sym same) frames.code)
    (can-hold graphs.objects of.well_formed.objects (objects-small program graphs of.objects compilable.objects))

-- what was linked
pub linked-are : (program : Program) (graphs : GraphProgram) (homes : List Home) (sections : List Section)
    (linked : Linked) → IsCompilable program → AreLowered program graphs → HaveFrames graphs
    → map graph_of homes ≡ graphs.functions → All IsAllocated homes → AreSectionsFrom 0 homes sections
    → ((functions : List (List Item)) → AreSections functions sections
    → IsLinked functions (order_of sections) graphs.objects graphs.main linked)
    → vec_len linked.image.text ≡ sections_size sections + routines_size
    → AreBytes linked.image.text.items → AreBytes linked.image.data_bytes.items
    → AreLinked program graphs homes sections linked
linked-are program graphs homes sections linked compilable of have same allocated sections-of is long text data-bytes =
    let code = subst (λ (flows : List Flow). sum_by most_bytes flows < 2 ^ 30) (sym same) have.code in
    record {
      compilable = compilable;
      lowered = of;
      graphs_are = same;
      allocated = allocated;
      sections_of = sections-of;
      linked_is = is (items_of 0 homes sections sections-of) (are-sections homes sections sections-of);
      small = omega (
        arith,
        long,
        linked.image.text.ok.0,
        sections-small 0 homes sections sections-of,
        code,
      );
      text = text;
      data_bytes = data-bytes;
    }

-- an image has room for it
pub image-fits : (program : Program) (graphs : GraphProgram) (homes : List Home) (sections : List Section)
    (linked : Linked) → AreLinked program graphs homes sections linked
    → vec_len linked.image.text + vec_len linked.image.data_bytes ≤ 1200000000
image-fits program graphs homes sections linked h =
    omega (
      arith,
      h.small,
      linked.image.text.ok.0,
      linked.image.data_bytes.ok.0,
      ap length h.linked_is.data_is,
      length-data graphs.objects,
      objects-small program graphs h.lowered.objects h.compilable.objects,
    )

-- the same of lists that are equal
pub prints-same : (program : Program) (homes homes' : List Home) (objects objects' : List ℕ)
    (points points' : List (List ℕ)) → homes' ≡ homes → objects' ≡ objects → points' ≡ points
    → CanPrintAll program homes objects points → CanPrintAll program homes' objects' points'
prints-same program homes homes' objects objects' points points' a b c h =
    subst (λ (x : List Home). CanPrintAll program x objects' points') (sym a)
    (subst (λ (x : List ℕ). CanPrintAll program homes x points') (sym b)
    (subst (λ (x : List (List ℕ)). CanPrintAll program homes objects x) (sym c) h))

-- and the map is the same
pub map-same : (program : Program) (homes homes' : List Home) (objects objects' : List ℕ)
    (points points' : List (List ℕ)) → homes' ≡ homes → objects' ≡ objects → points' ≡ points
    → map_of program (map graph_of homes') (map home_of homes') objects' (address_in points')
    ≡ map_of program (map graph_of homes) (map home_of homes) objects (address_in points)
map-same program homes homes' objects objects' points points' a b c =
    ap (λ (x : List Home). map_of program (map graph_of x) (map home_of x) objects' (address_in points')) a
    ∙ ap (λ (x : List ℕ). map_of program (map graph_of homes) (map home_of homes) x (address_in points')) b
    ∙ ap (λ (x : List (List ℕ)). map_of program (map graph_of homes) (map home_of homes) objects (address_in x)) c

-- What was linked of a program does what the program does.
use Rattle.std.proofs.Common.{◌≡◌, ℕ, List, [], ◌∷◌, length, map, Some, refl, sym, ap, ◌∙◌, subst}
use Rattle.std.proofs.Common.{arith}
use Rattle.std.specs.Prelude.{slice_get, slice_index}
use Rattle.std.proofs.lemmas.Option.{get_or_from_slice_get, none-some, same_Some, slice_get_within}
use Rattle.std.proofs.lemmas.List.{length-map}
use Rattle.pcc_base.specs.Bytes.{AreBytes}
use Rattle.pcc_base.proofs.Lists.{element-at}
use Rattle.c_tree.specs.Program.{Program}
use Rattle.elf_image.specs.Layout.{Fits, image_bytes}
use Rattle.elf_image.specs.Segments.{parts_of}
use Rattle.elf_link.specs.declared.linked.Linked.{Linked}
use Rattle.elf_link.proofs.DataSize.{length-data}
use Rattle.flow_graph.specs.Graphs.{Flow, IsPlaced}
use Rattle.flow_graph.specs.States.{GraphProgram}
use Rattle.flow_graph.proofs.Lists.{All-at}
use Rattle.ia32_asm.specs.declared.section.Section.{Section}
use Rattle.ia32_asm.specs.Sections.{Stands}
use Rattle.ia32_insn.specs.declared.item.Item.TheVariants as item
use Rattle.ia32_insn.specs.Items.{data_bytes}
use Rattle.ia32_laws.specs.Right.{ProgramsAreRight}
use Rattle.ia32_laws.specs.StandingLaws.{IsSelected}
use Rattle.ia32_rows.specs.Placements.{Code, objects_of, placement_of, point_address}
use Rattle.lower_laws.specs.VisitsLaws.{VisitsAreKnown}
use Rattle.map_lines.specs.declared.home.Home as in_code
use Rattle.map_lines.specs.MapLaws.{MapBelongs, MapBySameAddresses, MapKeepsRules}
use Rattle.map_lines.specs.MapLaws.{MapListsLocals, MapShowsVisits, IsOverHomes, map_in}
use Rattle.map_lines.specs.MapOf.{Home, IsHome, map_of}
use Rattle.map_lines.specs.Printing.{address_in, graph_of, home_of}
use Rattle.map_text.specs.Maps.{Map}
use Rattle.map_text.specs.Marks.{listed}
use Rattle.pcc_program.specs.Begins.{parts_of_text}
use Rattle.pcc_program.specs.Code.{HasFrame, HaveFrames, IsCodeOverMaps}
use Rattle.pcc_program.specs.CodeLaws.{GraphsHaveFrames, MappedIsSelected}
use Rattle.pcc_program.specs.CompiledLaws.{CompiledDoesAs, IsCompiled}
use Rattle.pcc_program.specs.LinkedLaws.{AreLinked, linked_map}
use Rattle.pcc_program.specs.Passes.{IsAllocated}
use Rattle.pcc_program.specs.Products.{IsImageOf, image_of}
use Rattle.pcc_program.proofs.Linking.{as-many-items, made-at}
use Rattle.pcc_program.proofs.Placed.{as-many-homes, graph-at, home-at, linked_code, objects-small, over-maps}
use Rattle.pcc_program.proofs.Placed.{placement-at, point-entry, same-objects}

-- the laws that this rests on
pub record Laws : Type 0 where
  pub have_frames : GraphsHaveFrames
  pub selects : MappedIsSelected
  pub right : ProgramsAreRight
  pub belongs : MapBelongs
  pub rules : MapKeepsRules
  pub lists : MapListsLocals
  pub same : MapBySameAddresses
  pub shows : MapShowsVisits
  pub known : VisitsAreKnown
  pub does : CompiledDoesAs

-- equal maps show the same
same-map : (program : Program) (one other : Map) (image : List ℕ) → one ≡ other → IsImageOf program one image
    → IsImageOf program other image
same-map program one other image e h = subst (λ (m : Map). IsImageOf program m image) e h

-- the home that a home in memory is
record MemoryAt (homes : List in_code.Home) (k : ℕ) (home : Home) : Type 0 where
  held : in_code.Home
  there : slice_get homes k ≡ Some held
  is : home_of held ≡ home

memory-at : (homes : List in_code.Home) (k : ℕ) (home : Home) → slice_get (map home_of homes) k ≡ Some home
    → MemoryAt homes k home
memory-at [] k home e = absurd (none-some home e)
memory-at (x ∷ homes) ℕ.zero home e = record { held = x; there = refl; is = same_Some (home_of x) home e }
memory-at (x ∷ homes) (ℕ.suc k) home e =
    let at = memory-at homes k home e in record { held = at.held; there = at.there; is = at.is }

module _ (laws : Laws) (program : Program) (graphs : GraphProgram) (homes : List in_code.Home)
    (sections : List Section) (linked : Linked) (h : AreLinked program graphs homes sections linked) where
  abbrev code : Code
  code = linked_code graphs homes sections h.sections_of linked h.linked_is

  abbrev own_homes : List Home
  own_homes = map home_of homes

  abbrev the_map : Map
  the_map = map_in program own_homes code

  pub have-frames : HaveFrames graphs
  have-frames = laws.have_frames program graphs h.compilable.memory h.compilable.declared h.lowered

  is-over : IsCodeOverMaps code
  is-over =
      over-maps graphs homes sections h.sections_of linked h.linked_is h.graphs_are h.allocated h.small
      (objects-small program graphs h.lowered.objects h.compilable.objects)

  is-selected : IsSelected code
  is-selected = laws.selects code h.lowered.well_formed have-frames is-over

  -- the graph of a home is within the limits
  pub frame-of : (k : ℕ) (home : in_code.Home) → slice_get homes k ≡ Some home
      → HasFrame (length graphs.functions) (length graphs.objects) (graph_of home)
  frame-of k home e =
      All-at (HasFrame (length graphs.functions) (length graphs.objects)) graphs.functions k (graph_of home)
      have-frames.each (graph-at graphs.functions homes k home h.graphs_are e)

  is-home : (k : ℕ) (home : in_code.Home) → slice_get homes k ≡ Some home
      → IsHome (graph_of home) (home_of home) (placement_of code k)
  is-home k home e =
      let allocated = All-at IsAllocated homes k home h.allocated e in
      record {
        legal = record {
          lives = home.form.lives;
          live = allocated.form.live;
          dies = allocated.form.dies;
          nothing_first = (frame-of k home e).nothing_first;
          points = allocated.allocated.legal;
          frame = allocated.allocated.frame;
        };
        same_lives = refl;
        rising = allocated.rising;
        shortest = allocated.allocated.shortest;
        between = (made-at 0 homes sections h.sections_of k home e).selection.between;
        placement_is = placement-at graphs homes sections h.sections_of linked h.linked_is h.graphs_are k home e;
      }

  homes-are : (k : ℕ) (flow : Flow) (home : Home) → slice_get graphs.functions k ≡ Some flow
      → slice_get own_homes k ≡ Some home → IsHome flow home (placement_of code k)
  homes-are k flow home e f =
      let at = memory-at homes k home f in
      let same = same_Some (graph_of at.held) flow
      (sym (graph-at graphs.functions homes k at.held h.graphs_are at.there) ∙ e) in
      subst (λ (g : Flow). IsHome g home (placement_of code k)) same
      (subst (λ (x : Home). IsHome (graph_of at.held) x (placement_of code k)) at.is (is-home k at.held at.there))

  as-many : length own_homes ≡ length program.functions
  as-many = length-map homes home_of
      ∙ as-many-homes graphs homes sections h.sections_of linked h.linked_is h.graphs_are ∙ h.lowered.shapes.as_many

  over-homes : IsOverHomes program own_homes code
  over-homes =
      record {
        selected = is-selected;
        shapes = h.lowered.shapes;
        objects = h.lowered.objects;
        marks = h.lowered.marks;
        once = h.lowered.once;
        few_functions = omega (arith, have-frames.few, h.lowered.shapes.as_many);
        few_objects = omega (arith, h.compilable.memory.few_objects);
        as_many = as-many;
        each = homes-are;
      }

  -- a point of a block stands among the function's items
  pub point-stands : (k p : ℕ) (home : in_code.Home) (e : slice_get homes k ≡ Some home) → IsPlaced (graph_of home) p
      → Stands (item.Point p) (made-at 0 homes sections h.sections_of k home e).own
  point-stands k p home e is =
      let made = made-at 0 homes sections h.sections_of k home e in
      ((made.selection.code (length graphs.functions) (length graphs.objects) (frame-of k home e).graph).points p).1 is

  pub as-many-tables : length (map (λ v. v.items) linked.points.items) ≡ length homes
  as-many-tables = length-map linked.points.items (λ v. v.items) ∙ h.linked_is.points_are
      ∙ as-many-items 0 homes sections h.sections_of

  -- the addresses of points are those of the code
  addresses : (k p : ℕ) (flow : Flow) → slice_get graphs.functions k ≡ Some flow → IsPlaced flow p
      → address_in (map (λ v. v.items) linked.points.items) k p ≡ point_address code k p
  addresses k p flow e is =
      let at = home-at graphs.functions homes k flow h.graphs_are e in
      let stands = point-stands k p at.home at.there (subst (λ (g : Flow). IsPlaced g p) (sym at.is) is) in
      let tables : List (List ℕ) = map (λ v. v.items) linked.points.items in
      let below = slice_get_within homes k at.home at.there in
      let (entries, there) = element-at tables k (omega (arith, below, as-many-tables)) in
      let entry = point-entry graphs homes sections h.sections_of linked h.linked_is h.graphs_are k at.home at.there
      entries there p stands in
      ap (λ (xs : List ℕ). slice_index xs p) (get_or_from_slice_get tables k entries [] there)
      ∙ get_or_from_slice_get entries p (point_address code k p) 0 entry

  same-maps : the_map ≡ linked_map program homes linked
  same-maps =
      sym (laws.same program graphs.functions own_homes code.symbols.objects
      (address_in (map (λ v. v.items) linked.points.items)) (point_address code) addresses)
      ∙ ap (λ (os : List ℕ). map_of program graphs.functions own_homes os
      (address_in (map (λ v. v.items) linked.points.items))) (sym h.linked_is.objects_are)
      ∙ ap (λ (fs : List Flow). map_of program fs own_homes linked.objects.items
      (address_in (map (λ v. v.items) linked.points.items))) (sym h.graphs_are)

  data-is : data_bytes (objects_of code.program) ≡ linked.image.data_bytes.items
  data-is = ap data_bytes (same-objects graphs.objects) ∙ sym h.linked_is.data_is

  room : Fits (parts_of_text code.text (objects_of code.program))
  room =
      record {
        entry = omega arith;
        text = h.text;
        data_bytes = subst AreBytes (sym data-is) h.data_bytes;
        size = omega (
          arith,
          h.small,
          length-data (objects_of code.program),
          is-over.held,
        );
      }

  -- the image is that of the code
  image-is : image_of code ≡ image_bytes (parts_of linked.image)
  image-is =
      ap (λ (d : List ℕ).
      image_bytes (record { entry = (parts_of_text code.text []).entry; text = code.text; data_bytes = d })) data-is
      ∙ ap (λ (e : ℕ). image_bytes (record { entry = e; text = code.text; data_bytes = linked.image.data_bytes.items }))
      (sym h.linked_is.entry)

  compiled : IsCompiled program code the_map
  compiled =
      let is-map = laws.belongs program own_homes code over-homes in
      let lists = laws.lists program code the_map h.compilable.typed h.lowered.shapes h.lowered.marks is-map in
      record {
        lowered = h.lowered;
        laid = is-over.laid;
        right = laws.right code is-selected;
        room = room;
        rules = laws.rules program own_homes code over-homes h.compilable.names;
        is_map = is-map;
        lists = lists;
        shows = laws.shows program code the_map (record {
          well_typed = h.compilable.typed;
          is_selected = is-selected;
          shapes = h.lowered.shapes;
          objects = h.lowered.objects;
          marks = h.lowered.marks;
          once = h.lowered.once;
          belongs = is-map;
        });
        known = laws.known program (listed the_map) h.compilable.typed lists;
      }

  pub linked-does : IsImageOf program (linked_map program homes linked) (image_bytes (parts_of linked.image))
  linked-does =
      same-map program the_map (linked_map program homes linked) (image_bytes (parts_of linked.image)) same-maps
      (subst (λ (image : List ℕ). IsImageOf program the_map image) image-is (laws.does program code the_map compiled))

-- What was linked is the code of the program's graphs over maps of them.
use Rattle.std.proofs.Common.{◌≡◌, ◌<◌, ◌≤◌, ◌+◌, ◌^◌, ℕ, zero, suc, List, [], ◌∷◌, length, map, Option, Some}
use Rattle.std.proofs.Common.{option_map, refl, sym, ap, ◌∙◌, subst, arith}
use Rattle.std.specs.Prelude.{slice_get, sum_by}
use Rattle.std.specs.List.{All}
use Rattle.std.proofs.Math.Nat.{mul_comm}
use Rattle.std.proofs.lemmas.List.Elements.{All-head, All-tail}
use Rattle.std.proofs.lemmas.List.Sums.{sum_by-cons}
use Rattle.std.proofs.lemmas.Option.{get_or_from_slice_get, none-some, same_Some, slice_get-map, slice_get_within}
use Rattle.std.proofs.lemmas.List.{length-map}
use Rattle.pcc_base.specs.Objects.{IsObject, Object}
use Rattle.c_tree.specs.Objects.{data_object, data_objects}
use Rattle.c_tree.specs.Program.{Program, StaticObject}
use Rattle.c_tree.specs.Sizes.{bytes_of}
use Rattle.c_typing.specs.Typed.{arrays_bytes, object_bytes}
use Rattle.flow_graph.specs.Graphs.{Flow}
use Rattle.flow_graph.specs.States.{GraphProgram}
use Rattle.flow_graph.proofs.Lists.{All-at}
use Rattle.elf_link.specs.declared.linked.Linked.{Linked}
use Rattle.elf_link.specs.Parts.{CanHold, objects_size, order_of}
use Rattle.elf_link.specs.Linking.{IsLinked}
use Rattle.ia32_insn.specs.declared.item.Item.TheVariants as item
use Rattle.ia32_insn.specs.Items.{IsText, Places, elements_size}
use Rattle.ia32_asm.specs.declared.section.Section.{Section}
use Rattle.ia32_asm.specs.Sections.{Stands}
use Rattle.ia32_placements.specs.Placed.{placement_in}
use Rattle.ia32_rows.specs.Placements.{Code, address_in, no_placement, placement_of, point_address}
use Rattle.map_lines.specs.declared.home.Home.{Home}
use Rattle.map_lines.specs.Printing.{graph_of}
use Rattle.pcc_program.specs.Code.{IsCodeOverMaps, IsOverMap}
use Rattle.pcc_program.specs.Passes.{AreSectionsFrom, IsAllocated, items_of, placements_of}
use Rattle.pcc_program.proofs.Linking.{as-many-items, as-many-placements, made-at}

-- ---- objects

-- the objects of a program of graphs are those that its image has
pub same-objects : (objects : List Object)
    → map (λ (o : Object). record { width = o.width; elements = o.elements }) objects ≡ objects
same-objects [] = refl
same-objects (o ∷ objects) = ap (λ (os : List Object). o ∷ os) (same-objects objects)

object-size : (o : StaticObject) → 4 + elements_size (data_object o) ≡ object_bytes o
object-size o = omega (arith, mul_comm (bytes_of o.element) (length o.elements))

objects-bytes : (objects : List StaticObject) → objects_size (map data_object objects) ≡ sum_by object_bytes objects
objects-bytes [] = refl
objects-bytes (o ∷ objects) =
    omega (arith, object-size o, objects-bytes objects, sum_by-cons object_bytes o objects)

-- so they have no more bytes than the program's
pub objects-small : (program : Program) (graphs : GraphProgram) → graphs.objects ≡ data_objects program
    → arrays_bytes program ≤ 0x01000000 → objects_size graphs.objects ≤ 0x01000000
objects-small program graphs same small =
    omega (arith, ap objects_size same, objects-bytes program.objects, small)

all-at : (objects : List Object) (k : ℕ) (o : Object) → All IsObject objects → slice_get objects k ≡ Some o → IsObject o
all-at [] k o all e = absurd (none-some o e)
all-at (x ∷ objects) zero o all e = subst IsObject (same_Some x o e) (All-head IsObject x objects all)
all-at (x ∷ objects) (suc k) o all e = all-at objects k o (All-tail IsObject x objects all) e

pub can-hold : (objects : List Object) → All IsObject objects → objects_size objects ≤ 0x01000000 → CanHold objects
can-hold objects all small = record { widths = λ k o e. (all-at objects k o all e).width; size = small }

-- ---- homes

-- the home of a graph
pub record HomeAt (homes : List Home) (k : ℕ) (flow : Flow) : Type 0 where
  pub home : Home
  pub there : slice_get homes k ≡ Some home
  pub is : graph_of home ≡ flow

home-in : (homes : List Home) (k : ℕ) (flow : Flow) → slice_get (map graph_of homes) k ≡ Some flow
    → HomeAt homes k flow
home-in [] k flow e = absurd (none-some flow e)
home-in (x ∷ homes) zero flow e = record { home = x; there = refl; is = same_Some (graph_of x) flow e }
home-in (x ∷ homes) (suc k) flow e =
    let at = home-in homes k flow e in record { home = at.home; there = at.there; is = at.is }

pub home-at : (flows : List Flow) (homes : List Home) (k : ℕ) (flow : Flow) → map graph_of homes ≡ flows
    → slice_get flows k ≡ Some flow → HomeAt homes k flow
home-at flows homes k flow same e = home-in homes k flow (ap (λ (fs : List Flow). slice_get fs k) same ∙ e)

-- the graph of a home
pub graph-at : (flows : List Flow) (homes : List Home) (k : ℕ) (home : Home) → map graph_of homes ≡ flows
    → slice_get homes k ≡ Some home → slice_get flows k ≡ Some (graph_of home)
graph-at flows homes k home same e =
    ap (λ (fs : List Flow). slice_get fs k) (sym same) ∙ slice_get-map graph_of homes k ∙ ap (option_map graph_of) e

-- ---- the code

-- what was linked, as the code of graphs over the maps of their homes
abbrev pub linked_code : (graphs : GraphProgram) (homes : List Home) (sections : List Section)
    (made : AreSectionsFrom 0 homes sections) (linked : Linked)
    → IsLinked (items_of 0 homes sections made) (order_of sections) graphs.objects graphs.main linked → Code
linked_code graphs homes sections made linked is = record {
  program = graphs;
  placements = placements_of 0 homes sections made;
  items = items_of 0 homes sections made;
  order = order_of sections;
  places = is.places;
  symbols = is.symbols;
  text = linked.image.text.items;
}

-- a function that is there has its places
place-at : (places : List Places) (n f : ℕ) → length places ≡ n → f < n
    → (place : Places) × (slice_get places f ≡ Some place)
place-at [] n f e h = absurd (omega (arith, e, h))
place-at (place ∷ places) n zero e h = (place, refl)
place-at (place ∷ places) zero (suc f) e h = absurd (omega (arith, e))
place-at (place ∷ places) (suc n) (suc f) e h = place-at places n f (omega (arith, e)) (omega (arith, h))

module _ (graphs : GraphProgram) (homes : List Home) (sections : List Section)
    (made : AreSectionsFrom 0 homes sections) (linked : Linked)
    (is : IsLinked (items_of 0 homes sections made) (order_of sections) graphs.objects graphs.main linked)
    (same : map graph_of homes ≡ graphs.functions) where
  abbrev code : Code
  code = linked_code graphs homes sections made linked is

  pub as-many-homes : length homes ≡ length graphs.functions
  as-many-homes = sym (length-map homes graph_of) ∙ ap length same

  -- the placement of a function, by its home
  pub placement-at : (k : ℕ) (home : Home) (e : slice_get homes k ≡ Some home)
      → placement_of code k
      ≡ placement_in (graph_of home) home.places (made-at 0 homes sections made k home e).selection.between
  placement-at k home e =
      let at = made-at 0 homes sections made k home e in
      get_or_from_slice_get (placements_of 0 homes sections made) k
      (placement_in (graph_of home) home.places at.selection.between) no_placement at.placement_there

  over-map : All IsAllocated homes → (k : ℕ) (flow : Flow) → slice_get graphs.functions k ≡ Some flow
      → IsOverMap flow (placement_of code k) (slice_get code.items k)
  over-map allocated k flow e =
      let at = home-at graphs.functions homes k flow same e in
      let here = made-at 0 homes sections made k at.home at.there in
      let allocation = (All-at IsAllocated homes k at.home allocated at.there).allocated in
      subst (λ (g : Flow). IsOverMap g (placement_of code k) (slice_get code.items k)) at.is
      (record {
        places = at.home.places;
        between = here.selection.between;
        variables = allocation.variables;
        frame = allocation.frame;
        supports = here.selection.supports;
        placement_is = placement-at k at.home at.there;
        items_are = here.items_there ∙ ap Some here.selection.items_are;
      })

  pub over-maps : All IsAllocated homes → length linked.image.text.items < 2 ^ 30 + 0x400
      → objects_size graphs.objects ≤ 0x01000000 → IsCodeOverMaps code
  over-maps allocated small held =
      record {
        laid = record {
          text = subst (λ (os : List Object). IsText (items_of 0 homes sections made) (order_of sections) os graphs.main
              is.places is.symbols linked.image.text.items) (sym (same-objects graphs.objects)) is.text;
          functions = as-many-items 0 homes sections made ∙ as-many-homes;
          placements = as-many-placements 0 homes sections made ∙ as-many-homes;
        };
        each = λ k flow e. over-map allocated k flow e;
        fits = small;
        held = subst (λ (os : List Object). objects_size os ≤ 0x01000000) (sym (same-objects graphs.objects)) held;
      }

  -- ---- points

  -- the linker's entry for a point that stands among a function's items is the point's address
  pub point-entry : (f : ℕ) (home : Home) (e : slice_get homes f ≡ Some home) (entries : List ℕ)
      → slice_get (map (λ v. v.items) linked.points.items) f ≡ Some entries → (p : ℕ)
      → Stands (item.Point p) (made-at 0 homes sections made f home e).own
      → slice_get entries p ≡ Some (point_address code f p)
  point-entry f home e entries entry p stands =
      let made-here = made-at 0 homes sections made f home e in
      let (place, at) = place-at is.places (length homes) f
      (is.text.places_are ∙ as-many-items 0 homes sections made) (slice_get_within homes f home e) in
      (is.points f made-here.own place entries made-here.items_there at entry).addresses p stands
      ∙ ap Some (ap (λ (o : Option Places). address_in o p) (sym at))

-- The map of a program over homes keeps the rules of a map, where functions and locals have names.
use Rattle.std.proofs.Common.{◌≡◌, ◌<◌, ◌≤◌, ◌^◌, ℕ, ◌+◌, List, length, map, Some, sym, ap, ◌∙◌, subst, arith}
use Rattle.std.specs.Prelude.{slice_get}
use Rattle.std.specs.List.{AllByRecursion, All}
use Rattle.std.proofs.lemmas.List.{length-map}
use Rattle.std.proofs.lemmas.List.Elements.{All-from_recursion, recursion_from_All}
use Rattle.std.proofs.lemmas.Option.{slice_get_within}
use Rattle.pcc_base.proofs.Lists.{all-at}
use Rattle.c_tree.specs.Program.{Function, Program}
use Rattle.flow_graph.specs.declared.op.Op.{Op}
use Rattle.flow_graph.specs.Graphs.{Flow, IsDistinct, IsIn, LastIsEnd, NumbersFit, Stands}
use Rattle.flow_graph.specs.Lives.{AreLive, IsAscending, Lives, at_point}
use Rattle.flow_graph.specs.WellFormed.{IsGraph, NamesWithin}
use Rattle.flow_graph.proofs.Ascending.{ascending-at}
use Rattle.lower_lines.specs.Lowering.{array_of}
use Rattle.puzzle_board.specs.Places.{spilled_at}
use Rattle.ia32_insn.specs.Items.{stack_end}
use Rattle.ia32_rows.specs.Placements.{Code, Placement, objects_of, placement_of, point_address}
use Rattle.ia32_laws.specs.Supports.{AreArraysIn}
use Rattle.ia32_laws.specs.StandingLaws.{PointsStand}
use Rattle.ia32_placements.specs.Placed.{arrays_in}
use Rattle.map_text.specs.Maps.{IsMapArray, IsMapObject, IsMapOp, Map, MapFunction}
use Rattle.map_text.specs.Maps.{flow_of, points_of}
use Rattle.map_text.specs.Rules.{IsMapBlock, IsMapFunction, IsMapPoint}
use Rattle.map_lines.specs.Parts.{arrays_at}
use Rattle.map_lines.specs.MapLaws.{IsNamedFunction}
use Rattle.map_lines.specs.MapOf.{Home, IsHome, block_over, function_over, point_over, variables_over}
use Rattle.map_lines.specs.MapLaws.{MapKeepsRules, IsOverHomes, map_in}
use Rattle.map_lines.proofs.Blocks.{all-distinct, all_points, placed-in}
use Rattle.map_lines.proofs.HomesBelonging.{flow-is, graph-of}
use Rattle.map_lines.proofs.HomesBoards.{blocks-ruled, fits-as, four-areas, has-numbers, pieces-ordered, pieces-ruled}
use Rattle.map_lines.proofs.HomesBoards.{every-at, spilled-once, spilled-within}
use Rattle.map_lines.proofs.HomesObjects.{addresses-many, arrays-held, arrays-many, arrays-ruled, objects-held}
use Rattle.map_lines.proofs.HomesObjects.{objects-many, objects-ruled, text-small, variables-ruled}
use Rattle.map_lines.proofs.HomesPlaces.{after-ruled, before-ruled}
use Rattle.map_lines.proofs.HomesPoints.{HasOp, each-point, function-from, functions-many, numbers-are, op-there}
use Rattle.map_lines.proofs.HomesPoints.{point_at}
use Rattle.map_lines.proofs.OwnedVariables.{width_of, widths-over}

-- ---- a function

module _ (stand : PointsStand) (program : Program) (homes : List Home) (code : Code) (k : ℕ) (f : Function)
    (flow : Flow) (home : Home) (is : IsOverHomes program homes code) (at : slice_get program.functions k ≡ Some f)
    (graph : slice_get code.program.functions k ≡ Some flow) (lives_in : slice_get homes k ≡ Some home) where
  abbrev m : Map
  m = map_in program homes code

  abbrev address : ℕ → ℕ
  address = point_address code k

  abbrev g : MapFunction
  g = function_over f flow home address

  abbrev mine : IsHome flow home (placement_of code k)
  mine = is.each k flow home graph lives_in

  abbrev my-graph : IsGraph (length code.program.functions) (length code.program.objects) flow
  my-graph = graph-of code k flow is.selected graph

  below : k < length code.program.functions
  below = slice_get_within code.program.functions k flow graph

  small : home.places.frame ≤ 0x4000
  small =
      let e = ap (λ (x : Placement). x.frame) mine.placement_is in
      let bytes = is.selected.supported.bytes k below in
      omega (arith, e, bytes)

  widths : map width_of (variables_over f flow) ≡ flow.widths
  widths =
      let (temporaries, are) = (is.shapes.each k f flow at graph).first_variables in
      widths-over f flow temporaries are

  many : length (variables_over f flow) ≡ length flow.widths
  many = sym (length-map (variables_over f flow) width_of) ∙ ap length widths

  -- the arrays stand in the frame
  arrays-stand : AreArraysIn flow.arrays home.places.frame (arrays_in flow home.places)
  arrays-stand =
      let supports = is.selected.supported.supports k below in
      let there : AreArraysIn flow.arrays (placement_of code k).frame (placement_of code k).arrays =
      subst (λ (w : Flow). AreArraysIn w.arrays (placement_of code k).frame (placement_of code k).arrays)
      (flow-is code k flow graph) supports.arrays in
      subst (λ (x : Placement). AreArraysIn flow.arrays x.frame x.arrays) mine.placement_is there

  as-many-arrays : length f.arrays ≡ length flow.arrays
  as-many-arrays = sym (ap length (is.shapes.each k f flow at graph).arrays ∙ length-map f.arrays array_of)

  arrays-there : length (arrays_at f.arrays (arrays_in flow home.places)) ≡ length flow.arrays
  arrays-there =
      arrays-many f.arrays (arrays_in flow home.places) (arrays-stand.as_many ∙ sym as-many-arrays) ∙ as-many-arrays

  live : AreLive flow home.lives
  live = subst (λ (ls : Lives). AreLive flow ls) mine.same_lives mine.legal.live

  up-before : (p : ℕ) → IsAscending (at_point mine.legal.lives.before p)
  up-before p =
      subst (λ (ls : Lives). IsAscending (at_point ls.before p)) (sym mine.same_lives)
      (ascending-at home.lives.before p mine.rising.before)

  up-after : (p : ℕ) → IsAscending (at_point mine.legal.lives.after p)
  up-after p =
      subst (λ (ls : Lives). IsAscending (at_point ls.after p)) (sym mine.same_lives)
      (ascending-at home.lives.after p mine.rising.after)

  -- ---- its points

  address-small : (p b : ℕ) (o : Op) → Stands flow p b → slice_get flow.ops p ≡ Some o → address p < 2 ^ 32
  address-small p b o stands has =
      let whole = flow-is code k flow graph in
      let end = stack_end code.text (objects_of code.program) in
      let there = stand code k b p o is.selected below (subst (λ (w : Flow). Stands w p b) (sym whole) stands)
      (ap (λ (w : Flow). slice_get w.ops p) whole ∙ has) in
      text-small code.text (address p) there.stands.bytes end there.stands.here (omega arith)
      is.selected.supported.fits

  -- the map has the functions and the objects of the program
  names-there : (o : Op) → NamesWithin (length code.program.functions) (length code.program.objects) o
      → NamesWithin (length m.functions) (length m.objects) o
  names-there o within =
      let (addresses, all) = addresses-many program code is.selected is.objects in
      let functions : length code.program.functions ≡ length m.functions = is.shapes.as_many
      ∙ sym (functions-many 0 program.functions code.program.functions homes (point_address code) is.shapes.as_many
      is.as_many) in
      let objects : length code.program.objects ≡ length m.objects =
      all ∙ sym (objects-many program.objects code.symbols.objects addresses) in
      subst (λ (n : ℕ). NamesWithin n (length m.objects) o) functions
      (subst (λ (n : ℕ). NamesWithin (length code.program.functions) n o) objects within)

  op-ruled : (p : ℕ) (o : Op) → HasOp flow p o → IsMapOp m g o
  op-ruled p o there =
      let names = all-at (NamesWithin (length code.program.functions) (length code.program.objects)) flow.ops p o
      (recursion_from_All (NamesWithin (length code.program.functions) (length code.program.objects)) flow.ops
      my-graph.names) there.has in
      record {
        fits = fits-as flow (flow_of g) o widths (length-map g.arrays _ ∙ arrays-there)
            (length-map g.blocks _ ∙ length-map flow.blocks _) there.fits;
        names = names-there o names;
        numbers = has-numbers o (all-at NumbersFit flow.ops p o my-graph.keeps.1.numbers there.has);
      }

  point-ruled : (p : ℕ) → IsIn p (all_points flow) → IsMapPoint m g (point_at flow home address p)
  point-ruled p within =
      let own = my-graph.keeps.0 in
      let flows = my-graph.keeps.1 in
      let variables = variables_over f flow in
      let spilled = spilled_at home.places p in
      let (b, stands) = placed-in flow p within in
      let (o, there) = op-there flow own p flows (b, stands) in
      let shortest = mine.shortest p o (b, stands) there.has in
      let few = slice_get_within flow.ops p o there.has in
      let x : IsMapPoint m g (point_over flow home address p o) = record {
        number = omega (arith, few, flows.few_points);
        address = address-small p b o stands there.has;
        op = op-ruled p o there;
        areas = four-areas o;
        pieces = pieces-ruled variables flow own home.lives p o widths flows live (b, stands) there.has;
        in_order = pieces-ordered flow home.lives p o (ascending-at home.lives.before p mine.rising.before);
        before = before-ruled variables flow own home.places mine.between p o widths small flows mine.legal
            (up-before p) (b, stands) there.has;
        after = after-ruled variables flow own home.places mine.between p o widths small flows mine.legal
            (up-after p) (b, stands) there.has;
        spilled = All-from_recursion (λ v. v < length variables) spilled
            (subst (λ (n : ℕ). AllByRecursion (λ v. v < n) spilled) (sym many)
            (spilled-within flow own home.lives p o spilled flows live (b, stands) there.has shortest));
        once = spilled-once flow home.lives p o spilled shortest;
      } in
      subst (λ (i : Op). IsMapPoint m g (point_over flow home address p i)) (sym there.read) x

  -- ---- the whole function

  pub function-ruled : IsNamedFunction f → IsMapFunction m g
  function-ruled named =
      let own = my-graph.keeps.0 in
      let flows = my-graph.keeps.1 in
      let belows = arrays_in flow home.places in
      let blocks-long = length-map flow.blocks (block_over flow home address) in
      record {
        name = named.name;
        frame = omega (arith, small);
        arrays = All-from_recursion IsMapArray (arrays_at f.arrays belows)
            (arrays-ruled f.arrays belows (arrays-held f flow own home.places.frame belows
            (is.shapes.each k f flow at graph).arrays flows arrays-stand small));
        few_arrays = omega (arith, arrays-there, flows.few_arrays);
        variables = variables-ruled f flow named;
        few_variables = omega (arith, many, flows.few_variables);
        blocks = All-from_recursion IsMapBlock g.blocks
            (blocks-ruled flow home address flow.blocks
            (recursion_from_All (LastIsEnd flow.ops) flow.blocks my-graph.ended)
            (λ b. (flows.each_block b).ends));
        few_blocks = omega (arith, blocks-long, flows.few_blocks);
        points = All-from_recursion (IsMapPoint m g) (points_of g)
            (each-point (IsMapPoint m g) f flow home address (λ p within. point-ruled p within));
        distinct = subst IsDistinct (sym (numbers-are f flow home address)) (all-distinct flow own flows);
      }

-- ---- the map

all-functions : (P : MapFunction → Type 0) (xs : List MapFunction)
    → ((j : ℕ) (x : MapFunction) → slice_get xs j ≡ Some x → P x) → All P xs
all-functions P xs each = All-from_recursion P xs (every-at P xs each)

pub keeps-rules : PointsStand → MapKeepsRules
keeps-rules stand program homes code is named =
    let m = map_in program homes code in
    let fs = program.functions in
    let flows = code.program.functions in
    let names = recursion_from_All IsNamedFunction fs named in
    let as_many = functions-many 0 fs flows homes (point_address code) is.shapes.as_many is.as_many in
    let (addresses, all) = addresses-many program code is.selected is.objects in
    let objects = objects-many program.objects code.symbols.objects addresses in
    record {
      objects = All-from_recursion IsMapObject m.objects
          (objects-ruled program.objects code.symbols.objects (objects-held program code is.selected is.objects));
      few_objects = omega (arith, objects, is.few_objects);
      functions = all-functions (IsMapFunction m) m.functions
          (λ j x there.
          let r = function-from 0 j fs flows homes (point_address code) x there in
          let from : j ≡ 0 + j = omega arith in
          subst (IsMapFunction m) (sym r.is)
          (subst (λ (i : ℕ). IsMapFunction m (function_over r.function r.flow r.home (point_address code i))) from
          (function-ruled stand program homes code j r.function r.flow r.home is r.at r.graph r.lives_in
          (all-at IsNamedFunction fs j r.function names r.at))));
      few_functions = omega (arith, as_many, is.few_functions);
    }

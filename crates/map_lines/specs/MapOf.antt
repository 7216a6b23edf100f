-- The map of a program: its static objects, and of each function the frame arrays, the variables, and every point of its
-- graph, with its board, where variables stand before it and after it, and those that are spilled there. Program, graphs,
-- the maps of the graphs, and addresses fix what stands in it.
use Rattle.std.specs.Prelude.{◌≡◌, ℕ, suc, ◌++◌, List, [], ◌∷◌, drop, flat_map, length, map, slice_get, slice_index_or}
use Rattle.std.specs.Prelude.{Some}
use Rattle.std.specs.List.{All}
use Rattle.c_tree.specs.Program.{Function, Program}
use Rattle.flow_graph.specs.declared.op.Op.{Op}
use Rattle.flow_graph.specs.declared.op.Op.TheVariants.{Turn}
use Rattle.flow_graph.specs.Graphs.{Flow, IsPlaced}
use Rattle.flow_graph.specs.Lives.{IsLives, Lives}
use Rattle.puzzle_board.specs.Places.{PlaceMap, entries_at, spilled_at}
use Rattle.allocator.specs.PointBoards.{areas_of, point_pieces}
use Rattle.allocator.specs.PointMaps.{IsLegalMap}
use Rattle.allocator.specs.Spills.{IsSpilledAt}
use Rattle.lower_lines.specs.Shown.{local_widths}
use Rattle.ia32_insn.specs.declared.insn.Insn.{Insn}
use Rattle.ia32_rows.specs.Paths.{IsAt}
use Rattle.ia32_rows.specs.Placements.{Code, Placement, placement_of, point_address}
use Rattle.ia32_placements.specs.Placed.{arrays_in, placement_in}
use Rattle.map_text.specs.Entries.{standings_of}
use Rattle.map_text.specs.Maps.{Map, MapFunction, MapPoint, MapVariable}
use Rattle.map_text.specs.Marks.{marks_of}
use Rattle.map_lines.specs.Parts.{arrays_at, local_variables, objects_at, temporary}

-- what is live in the graph of a function, and where its variables stand
pub record Home : Type 0 where
  pub lives : Lives
  pub places : PlaceMap

-- ---- points

-- a point: its board has the areas of its op and the pieces of its variables
abbrev pub point_over : Flow → Home → (ℕ → ℕ) → ℕ → Op → MapPoint
point_over flow home address p op =
    record {
      number = p;
      address = address p;
      op = op;
      areas = areas_of op;
      pieces = point_pieces flow home.lives p op;
      before = standings_of (entries_at home.places.before p);
      after = standings_of (entries_at home.places.after p);
      spilled = spilled_at home.places p;
    }

-- the points of a block, in order
abbrev pub block_over : Flow → Home → (ℕ → ℕ) → List ℕ → List MapPoint
block_over flow home address points =
    map (λ p. point_over flow home address p (slice_index_or flow.ops p Turn)) points

-- ---- functions

-- the variables of the locals, and then the temporaries
abbrev pub variables_over : Function → Flow → List MapVariable
variables_over f flow =
    flat_map local_variables f.locals ++ map temporary (drop (length (local_widths f.locals)) flow.widths)

abbrev pub function_over : Function → Flow → Home → (ℕ → ℕ) → MapFunction
function_over f flow home address =
    record {
      name = f.name;
      frame = home.places.frame;
      arrays = arrays_at f.arrays (arrays_in flow home.places);
      variables = variables_over f flow;
      blocks = map (block_over flow home address) flow.blocks;
    }

-- the functions that are numbered from k on, with the addresses of the points of each
abbrev pub functions_over : ℕ → List Function → List Flow → List Home → (ℕ → ℕ → ℕ) → List MapFunction
functions_over k [] flows homes addresses = []
functions_over k (f ∷ fs) [] homes addresses = []
functions_over k (f ∷ fs) (flow ∷ flows) [] addresses = []
functions_over k (f ∷ fs) (flow ∷ flows) (home ∷ homes) addresses =
    function_over f flow home (addresses k) ∷ functions_over (suc k) fs flows homes addresses

-- the map of a program with these graphs, whose variables stand so, and whose objects and points have these addresses
abbrev pub map_of : Program → List Flow → List Home → List ℕ → (ℕ → ℕ → ℕ) → Map
map_of program flows homes objects addresses =
    record {
      objects = objects_at program.objects objects;
      functions = functions_over 0 program.functions flows homes addresses;
    }

-- ---- whose map it is

-- The home of a graph's variables: its map is legal by these live sets, each of which ascends, and at each point exactly
-- the shortest prefix of the spill order is spilled without which the board is solvable. The code of the graph is over
-- this map, with some instructions between its points.
pub record IsHome (flow : Flow) (home : Home) (placement : Placement) : Type 0 where
  pub legal : IsLegalMap flow home.places
  pub same_lives : legal.lives ≡ home.lives
  pub rising : IsLives home.lives
  pub shortest : (point : ℕ) (op : Op) → IsPlaced flow point → slice_get flow.ops point ≡ Some op
      → IsSpilledAt flow home.lives point op (spilled_at home.places point)
  pub between : ℕ → ℕ → List Insn
  pub placement_is : placement ≡ placement_in flow home.places between

-- The map is that of the program and of the code of its graphs, over homes of their variables; and a NOP stands at the
-- address of each mark.
pub record IsMapOf (program : Program) (code : Code) (m : Map) : Type 0 where
  pub homes : List Home
  pub as_many : length homes ≡ length program.functions
  pub each : (k : ℕ) (flow : Flow) (home : Home) → slice_get code.program.functions k ≡ Some flow
      → slice_get homes k ≡ Some home → IsHome flow home (placement_of code k)
  pub is : m ≡ map_of program code.program.functions homes code.symbols.objects (point_address code)
  pub nops : All (λ mark. IsAt code.text mark.address (0x90 ∷ [])) (marks_of m)

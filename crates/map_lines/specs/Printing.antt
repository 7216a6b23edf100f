-- What printing the map of a program rests on.
use Rattle.std.specs.Prelude.{◌≡◌, ◌<◌, ◌≤◌, ℕ, List, [], length, map, slice_get, slice_index, slice_index_or, Some}
use Rattle.std.specs.List.{AllByRecursion}
use Rattle.c_tree.specs.Program.{Function, Program}
use Rattle.flow_graph.specs.Graphs.{Flow, IsPlaced}
use Rattle.allocator.specs.Allocations.{IsAllocation}
use Rattle.lower_lines.specs.Lowering.{HasShape}
use Rattle.map_lines.specs.declared.home.Home as code
use Rattle.map_lines.specs.MapOf.{Home}

-- the graph of a function, and the home of its variables, as the code holds them
abbrev pub graph_of : code.Home → Flow
graph_of home = home.form.graph

abbrev pub home_of : code.Home → Home
home_of home = record { lives = home.form.lives; places = home.places }

-- the addresses of points, by function and number
abbrev pub address_in : List (List ℕ) → ℕ → ℕ → ℕ
address_in addresses k p = slice_index (slice_index_or addresses k []) p

-- Of a function: its graph has its shape, the map of the graph is an allocation, its variables and the bytes of its frame
-- are few, and each point of a block has an address.
pub record CanPrint (f : Function) (home : code.Home) (addresses : List ℕ) : Type 0 where
  pub shape : HasShape f (graph_of home)
  pub allocated : IsAllocation home.form home.places
  pub few_variables : length (graph_of home).widths ≤ 0x1000
  pub small_frame : home.places.frame ≤ 0x4000
  pub placed : (p : ℕ) → IsPlaced (graph_of home) p → p < length addresses

-- the same of each function of a program, of which there are as many homes and lists of addresses as functions
pub record CanPrintAll (program : Program) (homes : List code.Home) (objects : List ℕ) (addresses : List (List ℕ))
    : Type 0 where
  pub as_many_objects : length objects ≡ length program.objects
  pub few_objects : length program.objects ≤ 0xffffffff
  pub few_elements : AllByRecursion (λ o. length o.elements ≤ 0xffffffff) program.objects
  pub as_many_homes : length homes ≡ length program.functions
  pub as_many_points : length addresses ≡ length program.functions
  pub few_functions : length program.functions ≤ 0xffffffff
  pub each : (k : ℕ) (f : Function) (home : code.Home) (points : List ℕ) → slice_get program.functions k ≡ Some f
      → slice_get homes k ≡ Some home → slice_get addresses k ≡ Some points → CanPrint f home points

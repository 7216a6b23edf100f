-- What the map of a program is worth: it is that of the program, it keeps the rules of a map, it lists locals of the
-- program, and it shows what the program's graphs show.
use Rattle.std.specs.Prelude.{◌≡◌, ◌≤◌, ℕ, List, length, slice_get, Some}
use Rattle.std.specs.List.{All}
use Rattle.pcc_base.specs.Names.{IsName}
use Rattle.c_tree.specs.Program.{Function, Program}
use Rattle.c_tree.specs.WellTyped.{WellTyped}
use Rattle.flow_graph.specs.Graphs.{Flow, IsPlaced}
use Rattle.lower_lines.specs.Lowering.{HasObjects, HaveMarks, HaveShapes, MarksOnce}
use Rattle.lower_lines.specs.Shown.{ListsLocals, variables_shown}
use Rattle.ia32_rows.specs.Follows.{ShowsVisits}
use Rattle.ia32_rows.specs.Placements.{Code, placement_of, point_address}
use Rattle.ia32_laws.specs.StandingLaws.{IsSelected}
use Rattle.map_text.specs.Maps.{Map}
use Rattle.map_text.specs.Marks.{listed, visits_of}
use Rattle.map_text.specs.Rules.{IsMap}
use Rattle.map_lines.specs.MapOf.{Home, IsHome, IsMapOf, map_of}

-- The code of a program's graphs, selected over these homes of their variables: the graphs have the shapes of its
-- functions and the marks of its statements.
pub record IsOverHomes (program : Program) (homes : List Home) (code : Code) : Type 0 where
  pub selected : IsSelected code
  pub shapes : HaveShapes program code.program
  pub objects : HasObjects program code.program
  pub marks : HaveMarks program code.program
  pub once : MarksOnce code.program
  pub few_functions : length program.functions ≤ 0xffffffff
  pub few_objects : length program.objects ≤ 0xffffffff
  pub as_many : length homes ≡ length program.functions
  pub each : (k : ℕ) (flow : Flow) (home : Home) → slice_get code.program.functions k ≡ Some flow
      → slice_get homes k ≡ Some home → IsHome flow home (placement_of code k)

-- the map of the program, where the code has its objects and points
abbrev pub map_in : Program → List Home → Code → Map
map_in program homes code =
    map_of program code.program.functions homes code.symbols.objects (point_address code)

-- it is the map of the program and of the code
abbrev pub MapBelongs : Type 0
MapBelongs =
    (program : Program) (homes : List Home) (code : Code) → IsOverHomes program homes code
    → IsMapOf program code (map_in program homes code)

-- the names of a function and of its locals are names
pub record IsNamedFunction (f : Function) : Type 0 where
  pub name : IsName f.name
  pub locals : All (λ l. IsName l.name) f.locals

-- where functions and locals have names, the rules of a map are kept
abbrev pub MapKeepsRules : Type 0
MapKeepsRules =
    (program : Program) (homes : List Home) (code : Code) → IsOverHomes program homes code
    → All IsNamedFunction program.functions → IsMap (map_in program homes code)

-- what a map of a typed program lists are locals of the program
abbrev pub MapListsLocals : Type 0
MapListsLocals =
    (program : Program) (code : Code) (m : Map) → WellTyped program → HaveShapes program code.program
    → HaveMarks program code.program → IsMapOf program code m → ListsLocals program (listed m)

-- the map is the same where the points have the same addresses
abbrev pub MapBySameAddresses : Type 0
MapBySameAddresses =
    (program : Program) (flows : List Flow) (homes : List Home) (objects : List ℕ) (one other : ℕ → ℕ → ℕ)
    → ((k p : ℕ) (flow : Flow) → slice_get flows k ≡ Some flow → IsPlaced flow p → one k p ≡ other k p)
    → map_of program flows homes objects one ≡ map_of program flows homes objects other

-- a map of a typed program and of the code of its graphs, over placements that support them
pub record HasMap (program : Program) (code : Code) (m : Map) : Type 0 where
  pub well_typed : WellTyped program
  pub is_selected : IsSelected code
  pub shapes : HaveShapes program code.program
  pub objects : HasObjects program code.program
  pub marks : HaveMarks program code.program
  pub once : MarksOnce code.program
  pub belongs : IsMapOf program code m

-- At a mark a map shows the statement and the values of the parts of locals that it lists, and nothing elsewhere.
abbrev pub MapShowsVisits : Type 0
MapShowsVisits =
    (program : Program) (code : Code) (m : Map) → HasMap program code m
    → ShowsVisits code (variables_shown program (listed m)) (visits_of m)

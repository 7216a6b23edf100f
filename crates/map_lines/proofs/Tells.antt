-- What a map tells of a program and of the code of its graphs, as far as visits go.
use Rattle.std.specs.Prelude.{◌≡◌, ◌<◌, ◌≤◌, ℕ, ◌+◌, List, [], ◌∷◌, ◌++◌, flat_map, length, map, slice_get, Option, Some}
use Rattle.std.specs.List.{All}
use Rattle.pcc_base.specs.declared.run.Width.{Width}
use Rattle.c_tree.specs.Program.{Function, Program}
use Rattle.c_tree.specs.WellTyped.{WellTyped}
use Rattle.flow_graph.specs.declared.op.Op.TheVariants.{Call, Mark}
use Rattle.flow_graph.specs.Graphs.{Flow, IsPlaced}
use Rattle.lower_lines.specs.Lowering.{HasObjects, HaveShapes, first_statement}
use Rattle.lower_lines.specs.Shown.{numbers_of}
use Rattle.ia32_rows.specs.Paths.{IsAt}
use Rattle.ia32_rows.specs.Placements.{Code, Placement, placement_of, point_address}
use Rattle.ia32_laws.specs.StandingLaws.{IsSelected}
use Rattle.map_text.specs.Maps.{Map, MapFunction, MapPoint, Standing, points_of}
use Rattle.map_text.specs.Marks.{MarkAt, marks_of}
use Rattle.map_lines.specs.Parts.{arrays_at, local_variables, objects_at, temporary}
use Rattle.map_lines.proofs.Among.{IsAmong}

-- a mark is of a statement of its function, and what it lists stands in the places that it names
pub record TellsMark (first : ℕ) (f : Function) (placement : Placement) (p : MapPoint) (statement : ℕ) : Type 0 where
  pub own : (first ≤ statement) × (statement < first + numbers_of f.body)
  pub places : (s : Standing) → IsAmong s p.before → placement.before p.number s.variable ≡ Some s.place

-- a point is one of the graph, with its op and at its address
pub record TellsPoint (first : ℕ) (f : Function) (flow : Flow) (placement : Placement) (addresses : ℕ → ℕ)
    (p : MapPoint) : Type 0 where
  pub placed : IsPlaced flow p.number
  pub same_op : slice_get flow.ops p.number ≡ Some p.op
  pub address : p.address ≡ addresses p.number
  pub marks : (statement : ℕ) → p.op ≡ Mark statement → TellsMark first f placement p statement

-- the function of the map has the point of this number
abbrev pub HasPoint : MapFunction → ℕ → Type 0
HasPoint m point = (p : MapPoint) × IsAmong p (points_of m) × (p.number ≡ point)

-- A function of the map is that of a function of the program, whose first statement has this number, and of its graph:
-- it has each mark and each call.
pub record TellsFunction (first : ℕ) (f : Function) (flow : Flow) (placement : Placement) (addresses : ℕ → ℕ)
    (m : MapFunction) : Type 0 where
  pub arrays : m.arrays ≡ arrays_at f.arrays placement.arrays
  pub temporaries : List Width
  pub variables : m.variables ≡ flat_map local_variables f.locals ++ map temporary temporaries
  pub widths : map (λ v. v.width) m.variables ≡ flow.widths
  pub points : (p : MapPoint) → IsAmong p (points_of m) → TellsPoint first f flow placement addresses p
  pub all_marks : (point statement : ℕ) → IsPlaced flow point → slice_get flow.ops point ≡ Some (Mark statement)
      → HasPoint m point
  pub all_calls : (point : ℕ) (result : Option ℕ) (callee : ℕ) (arguments : List ℕ) → IsPlaced flow point
      → slice_get flow.ops point ≡ Some (Call result callee arguments) → HasPoint m point

-- The map of a typed program has its objects and functions, one mark at most for a statement, and a NOP stands at each.
pub record Tells (program : Program) (code : Code) (m : Map) : Type 0 where
  pub well_typed : WellTyped program
  pub is_selected : IsSelected code
  pub shapes : HaveShapes program code.program
  pub objects : HasObjects program code.program
  pub own_objects : m.objects ≡ objects_at program.objects code.symbols.objects
  pub as_many : length m.functions ≡ length program.functions
  pub functions : (k : ℕ) (f : Function) (flow : Flow) (x : MapFunction) → slice_get program.functions k ≡ Some f
      → slice_get code.program.functions k ≡ Some flow → slice_get m.functions k ≡ Some x
      → TellsFunction (first_statement program.functions k) f flow (placement_of code k) (point_address code k) x
  pub one_mark : (a b : MarkAt) → IsAmong a (marks_of m) → IsAmong b (marks_of m) → a.statement ≡ b.statement → a ≡ b
  pub nops : All (λ mark. IsAt code.text mark.address (0x90 ∷ [])) (marks_of m)

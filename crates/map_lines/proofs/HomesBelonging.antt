-- The map of a program over homes belongs to its code: a NOP stands at the address of each mark.
use Rattle.std.proofs.Common.{◌≡◌, ℕ, ◌+◌, List, [], ◌∷◌, length, Some, refl, sym, ap, ◌∙◌, subst, arith}
use Rattle.std.specs.Prelude.{filter_map, slice_get}
use Rattle.std.specs.List.{AllByRecursion}
use Rattle.std.proofs.lemmas.List.Elements.{All-from_recursion, recursion_from_All}
use Rattle.std.proofs.lemmas.Option.{get_or_from_slice_get, slice_get_within}
use Rattle.pcc_base.proofs.Lists.{all-at}
use Rattle.c_tree.specs.Program.{Program}
use Rattle.flow_graph.specs.declared.op.Op.{Op}
use Rattle.flow_graph.specs.declared.op.Op.TheVariants as op
use Rattle.flow_graph.specs.Graphs.{Flow, Stands, empty_flow}
use Rattle.flow_graph.specs.States.{flow_at}
use Rattle.flow_graph.specs.WellFormed.{IsGraph}
use Rattle.ia32_rows.specs.Paths.{IsAt}
use Rattle.ia32_rows.specs.Placements.{Code, point_address}
use Rattle.ia32_laws.specs.StandingLaws.{IsSelected, MarksAreNops}
use Rattle.map_text.specs.Maps.{MapFunction, MapPoint, points_of}
use Rattle.map_text.specs.Marks.{MarkAt, mark_at, marks_from}
use Rattle.map_lines.specs.MapOf.{Home, function_over, functions_over}
use Rattle.map_lines.specs.MapLaws.{MapBelongs}
use Rattle.map_lines.proofs.Blocks.{placed-in}
use Rattle.map_lines.proofs.HomesMarks.{functions-all, mark_made, points-all}
use Rattle.map_lines.proofs.HomesPoints.{each-point, function-from, op-there}

-- the graphs of a program keep what graphs keep
pub graph-of : (code : Code) (k : ℕ) (flow : Flow) → IsSelected code
    → slice_get code.program.functions k ≡ Some flow
    → IsGraph (length code.program.functions) (length code.program.objects) flow
graph-of code k flow selected at =
    all-at (IsGraph (length code.program.functions) (length code.program.objects)) code.program.functions k flow
    (recursion_from_All (IsGraph (length code.program.functions) (length code.program.objects)) code.program.functions
    selected.supported.program.functions) at

-- a function's graph, as a program of graphs has it
pub flow-is : (code : Code) (k : ℕ) (flow : Flow) → slice_get code.program.functions k ≡ Some flow
    → flow_at code.program k ≡ flow
flow-is code k flow at = get_or_from_slice_get code.program.functions k flow empty_flow at

-- a NOP stands at the address of a mark
abbrev IsNop : Code → MarkAt → Type 0
IsNop code mark = IsAt code.text mark.address (0x90 ∷ [])

function-nops : MarksAreNops → (program : Program) (homes : List Home) (code : Code) (k : ℕ) (x : MapFunction)
    → IsSelected code
    → slice_get (functions_over 0 program.functions code.program.functions homes (point_address code)) k ≡ Some x
    → AllByRecursion (IsNop code) (filter_map (mark_at (0 + k)) (points_of x))
function-nops nops program homes code k x selected at =
    let flows = code.program.functions in
    let r = function-from 0 k program.functions flows homes (point_address code) x at in
    let flow = r.flow in
    let address = point_address code (0 + k) in
    let (own, is) = (graph-of code k flow selected r.graph).keeps in
    let whole = flow-is code k flow r.graph in
    let from : k ≡ 0 + k = omega arith in
    subst (λ (y : MapFunction). AllByRecursion (IsNop code) (filter_map (mark_at (0 + k)) (points_of y))) (sym r.is)
    (points-all (IsNop code) (0 + k) (points_of (function_over r.function flow r.home address))
    (each-point (λ (p : MapPoint). (n : ℕ) → p.op ≡ op.Mark n → IsNop code (mark_made (0 + k) p n)) r.function flow
    r.home address
    (λ p within n is-mark.
    let (b, stands) = placed-in flow p within in
    let (o, there) = op-there flow own p is (b, stands) in
    let has : slice_get flow.ops p ≡ Some (op.Mark n) =
    there.has ∙ ap (λ (i : Op). Some i) (sym there.read ∙ is-mark) in
    subst (λ (i : ℕ). IsAt code.text (point_address code i p) (0x90 ∷ [])) from
    (nops code k b p (op.Mark n) selected (slice_get_within flows k flow r.graph)
    (subst (λ (w : Flow). Stands w p b) (sym whole) stands)
    (ap (λ (w : Flow). slice_get w.ops p) whole ∙ has) refl))))

pub belongs : MarksAreNops → MapBelongs
belongs nops program homes code is =
    let xs = functions_over 0 program.functions code.program.functions homes (point_address code) in
    record {
      homes = homes;
      as_many = is.as_many;
      each = is.each;
      is = refl;
      nops = All-from_recursion (IsNop code) (marks_from 0 xs)
          (functions-all (IsNop code) 0 xs
          (λ k x at. function-nops nops program homes code k x is.selected at));
    }

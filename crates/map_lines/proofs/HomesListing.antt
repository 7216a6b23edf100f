-- What the map of a typed program over homes lists are locals of the program.
use Rattle.std.proofs.Common.{◌≡◌, ℕ, zero, suc, ◌+◌, List, [], ◌∷◌, Some, sym, ap, ◌∙◌, subst, arith, drop, length}
use Rattle.std.specs.Prelude.{filter_map, slice_get, slice_index_or}
use Rattle.std.specs.List.{AllByRecursion}
use Rattle.std.proofs.lemmas.List.Elements.{recursion_from_All}
use Rattle.pcc_base.specs.Outcome.{Part}
use Rattle.pcc_base.proofs.Lists.{all-at}
use Rattle.c_tree.specs.Program.{Function, Local, Program}
use Rattle.c_tree.specs.WellTyped.{IsScalar, IsTypedFunction, WellTyped}
use Rattle.flow_graph.specs.declared.op.Op.{Op}
use Rattle.flow_graph.specs.declared.op.Op.TheVariants as op
use Rattle.flow_graph.specs.Graphs.{Flow}
use Rattle.lower_lines.specs.Lowering.{HaveMarks}
use Rattle.lower_lines.specs.Shown.{IsPartOf, ListsLocals, local_widths, locals_at}
use Rattle.ia32_rows.specs.Placements.{Code, point_address}
use Rattle.puzzle_board.specs.Places.{entries_at}
use Rattle.map_text.specs.Entries.{standings_of}
use Rattle.map_text.specs.Maps.{Map, MapFunction, MapPoint, MapVariable, Standing, points_of}
use Rattle.map_text.specs.Marks.{listed, locals_before, mark_at, marks_of, name_in, part_named, part_of}
use Rattle.map_text.specs.Marks.{variables_in, variables_of}
use Rattle.map_lines.specs.MapOf.{Home, function_over, variables_over}
use Rattle.map_lines.specs.MapLaws.{MapListsLocals, map_in}
use Rattle.map_lines.proofs.HomesMarks.{ShowsParts, filter-all, functions-all, listed-all, mark_made, points-all}
use Rattle.map_lines.proofs.HomesPoints.{each-point, function-from}
use Rattle.map_lines.proofs.OwnedVariables.{variable-part}
use Rattle.map_lines.proofs.Owners.{owner-locals}

-- a point that is read as a mark is one
mark-read : (ops : List Op) (p n : ℕ) → slice_index_or ops p op.Turn ≡ op.Mark n
    → slice_get ops p ≡ Some (op.Mark n)
mark-read [] p n e = absurd (cc)
mark-read (o ∷ ops) zero n e = ap (λ (i : Op). Some i) e
mark-read (o ∷ ops) (suc p) n e = mark-read ops p n e

-- what the variables of a function are, are parts of its locals
parts-local : (variables : List MapVariable) (f : Function) (flow : Flow) → variables ≡ variables_over f flow
    → AllByRecursion (λ l. IsScalar l.of) f.locals → (standings : List Standing)
    → AllByRecursion (IsPartOf f.locals) (filter_map (part_of variables) standings)
parts-local variables f flow same scalar standings =
    filter-all (IsPartOf f.locals) (part_of variables) standings
    (λ s part e. variable-part f.locals (drop (length (local_widths f.locals)) flow.widths) s.variable part scalar
    (ap (λ (vs : List MapVariable). part_named (locals_before vs s.variable) (name_in vs s.variable)) (sym same) ∙ e))

typed-locals : (program : Program) (k : ℕ) (f : Function) → WellTyped program → slice_get program.functions k ≡ Some f
    → AllByRecursion (λ l. IsScalar l.of) f.locals
typed-locals program k f typed at =
    let one = all-at (IsTypedFunction program) program.functions k f
    (recursion_from_All (IsTypedFunction program) program.functions typed.functions) at in
    recursion_from_All (λ l. IsScalar l.of) f.locals one.locals

-- the part is of a local of the statement's function
abbrev IsLocal : Program → ℕ → Part → Type 0
IsLocal program statement part = IsPartOf (locals_at program.functions statement) part

function-lists : (program : Program) (homes : List Home) (code : Code) → WellTyped program
    → HaveMarks program code.program → (statement k : ℕ) (x : MapFunction)
    → slice_get (map_in program homes code).functions k ≡ Some x
    → AllByRecursion (ShowsParts (IsLocal program statement) (map_in program homes code) statement)
    (filter_map (mark_at (0 + k)) (points_of x))
function-lists program homes code typed marks statement k x at =
    let m = map_in program homes code in
    let fs = program.functions in
    let r = function-from 0 k fs code.program.functions homes (point_address code) x at in
    let f = r.function in
    let address = point_address code (0 + k) in
    let from : k ≡ 0 + k = omega arith in
    let there : slice_get m.functions (0 + k) ≡ Some x =
    subst (λ (i : ℕ). slice_get m.functions i ≡ Some x) from at in
    let mine : variables_in m (0 + k) ≡ variables_over f r.flow =
    ap variables_of there ∙ ap (λ (y : MapFunction). y.variables) r.is in
    subst (λ (y : MapFunction). AllByRecursion (ShowsParts (IsLocal program statement) m statement)
    (filter_map (mark_at (0 + k)) (points_of y))) (sym r.is)
    (points-all (ShowsParts (IsLocal program statement) m statement) (0 + k)
    (points_of (function_over f r.flow r.home address))
    (each-point (λ (p : MapPoint). (n : ℕ) → p.op ≡ op.Mark n
    → ShowsParts (IsLocal program statement) m statement (mark_made (0 + k) p n)) f r.flow r.home address
    (λ p within n is-mark same.
    let own = (marks k f r.flow r.at r.graph).only p n (mark-read r.flow.ops p n is-mark) in
    let standings : List Standing = standings_of (entries_at r.home.places.before p) in
    subst (λ (locals : List Local).
    AllByRecursion (IsPartOf locals) (filter_map (part_of (variables_in m (0 + k))) standings))
    (sym (owner-locals fs statement k f r.at (omega (arith, own.0, same)) (omega (arith, own.1, same))))
    (parts-local (variables_in m (0 + k)) f r.flow mine (typed-locals program k f typed r.at) standings))))

lists-own : (program : Program) (homes : List Home) (code : Code) → WellTyped program
    → HaveMarks program code.program → ListsLocals program (listed (map_in program homes code))
lists-own program homes code typed marks statement =
    let m = map_in program homes code in
    listed-all (IsLocal program statement) m (marks_of m) statement
    (functions-all (ShowsParts (IsLocal program statement) m statement) 0 m.functions
    (λ k x at. function-lists program homes code typed marks statement k x at))

pub lists-locals : MapListsLocals
lists-locals program code m typed shapes marks is =
    subst (λ (x : Map). ListsLocals program (listed x)) (sym is.is) (lists-own program is.homes code typed marks)

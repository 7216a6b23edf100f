-- The whole map of a program tells what visits need, so it shows them.
use Rattle.std.specs.List.{All, AllByRecursion}
use Rattle.std.proofs.Common.{◌≡◌, ℕ, ◌+◌, List, [], ◌∷◌, length, map, Some, inl, inr, refl, sym, ap, subst, ◌∙◌, arith}
use Rattle.std.specs.Prelude.{drop, slice_get, slice_index_or}
use Rattle.std.proofs.lemmas.List.Elements.{All-from_recursion}
use Rattle.std.proofs.lemmas.Option.{same_Some}
use Rattle.c_tree.specs.Program.{Function, Program}
use Rattle.flow_graph.specs.declared.op.Op.{Op}
use Rattle.flow_graph.specs.declared.op.Op.TheVariants as op
use Rattle.flow_graph.specs.Graphs.{Flow, IsFlow, IsIn, IsPlaced}
use Rattle.flow_graph.specs.Lives.{IsAscending, Lives}
use Rattle.flow_graph.proofs.Ascending.{ascending-at}
use Rattle.puzzle_board.specs.Places.{Entry, entries_at}
use Rattle.lower_lines.specs.Lowering.{HasShape, MarksStatements, first_statement}
use Rattle.lower_lines.specs.Shown.{local_widths}
use Rattle.ia32_rows.specs.Paths.{IsAt}
use Rattle.ia32_rows.specs.Placements.{Code, Placement, placement_of, point_address}
use Rattle.ia32_placements.specs.Standings.{standing_if_any}
use Rattle.ia32_placements.proofs.Sides.{before-live}
use Rattle.ia32_placements.proofs.Supported.{stands-before}
use Rattle.map_text.specs.Entries.{place_of, standing_of, standings_of}
use Rattle.map_text.specs.Maps.{Map, MapFunction, MapPoint, Standing, points_of}
use Rattle.map_text.specs.Marks.{MarkAt, mark_at, marks_of}
use Rattle.map_lines.specs.Parts.{arrays_at}
use Rattle.map_lines.specs.MapLaws.{HasMap, MapShowsVisits}
use Rattle.map_lines.specs.MapOf.{Home, IsHome, function_over, functions_over, map_of}
use Rattle.map_lines.proofs.Among.{IsAmong, IsPointAt, all-among, mark-from}
use Rattle.map_lines.proofs.Blocks.{all_points, in-placed, placed-in}
use Rattle.map_lines.proofs.HomesBelonging.{graph-of}
use Rattle.map_lines.proofs.HomesPlaces.{each-entry, place-same}
use Rattle.map_lines.proofs.HomesPoints.{every-map, function-from, functions-many, op-there, point_at, points-are}
use Rattle.map_lines.proofs.Marks.{says-of}
use Rattle.map_lines.proofs.OnceMarked.{one-place}
use Rattle.map_lines.proofs.OwnedVariables.{widths-over}
use Rattle.map_lines.proofs.Tells.{HasPoint, Tells, TellsFunction, TellsPoint}
use Rattle.map_lines.proofs.Visits.{visits-told}

-- ---- the points of a function

from-points : (F : ℕ → MapPoint) (points : List ℕ) (p : MapPoint) → IsAmong p (map F points)
    → (n : ℕ) × IsIn n points × (F n ≡ p)
from-points F [] p among = absurd among
from-points F (n ∷ points) p (inl e) = (n, inl refl, e)
from-points F (n ∷ points) p (inr more) = let r = from-points F points p more in (r.0, inr r.1, r.2)

to-points : (F : ℕ → MapPoint) (points : List ℕ) (n : ℕ) → IsIn n points → IsAmong (F n) (map F points)
to-points F [] n within = absurd within
to-points F (x ∷ points) n (inl same) = inl (ap F same)
to-points F (x ∷ points) n (inr more) = inr (to-points F points n more)

-- each is that of a point of the graph,
point-of : (f : Function) (flow : Flow) (home : Home) (address : ℕ → ℕ) (p : MapPoint)
    → IsAmong p (points_of (function_over f flow home address))
    → IsPlaced flow p.number × (point_at flow home address p.number ≡ p)
point-of f flow home address p among =
    let F : ℕ → MapPoint = λ n. point_at flow home address n in
    let r = from-points F (all_points flow) p
    (subst (λ (ps : List MapPoint). IsAmong p ps) (points-are f flow home address) among) in
    let same : r.0 ≡ p.number = ap (λ (x : MapPoint). x.number) r.2 in (
      subst (λ (n : ℕ). IsPlaced flow n) same (placed-in flow r.0 r.1),
      subst (λ (n : ℕ). point_at flow home address n ≡ p) same r.2,
    )

-- and each point of the graph has one
point-there : (f : Function) (flow : Flow) (home : Home) (address : ℕ → ℕ) (n : ℕ) → IsPlaced flow n
    → HasPoint (function_over f flow home address) n
point-there f flow home address n (b, stands) = (
  point_at flow home address n,
  subst (λ (ps : List MapPoint). IsAmong (point_at flow home address n) ps) (sym (points-are f flow home address))
      (to-points (λ m. point_at flow home address m) (all_points flow) n (in-placed flow n b stands)),
  refl,
)

-- ---- what a point tells

-- what is listed before a point stands there in its place
listed-stands : (flow : Flow) (own : List ℕ) (home : Home) (placement : Placement) (point : ℕ) (o : Op)
    → IsFlow flow own → IsHome flow home placement → IsPlaced flow point → slice_get flow.ops point ≡ Some o
    → All (λ s. placement.before point s.variable ≡ Some s.place) (standings_of (entries_at home.places.before point))
listed-stands flow own home placement point o is h placed has =
    let P : Standing → Type 0 = λ s. placement.before point s.variable ≡ Some s.place in
    let entries : List Entry = entries_at home.places.before point in
    let here = h.legal.points point o placed has in
    let rising : IsAscending (map (λ x. x.0) entries) =
    subst (λ (vs : List ℕ). IsAscending vs) (sym here.lists_before)
    (ascending-at h.legal.lives.before point
    (subst (λ (l : Lives). AllByRecursion IsAscending l.before) (sym h.same_lives) h.rising.before)) in
    All-from_recursion P (standings_of entries)
    (every-map P standing_of entries
    (each-entry (λ e. P (standing_of e)) entries rising
    (λ e at.
    let (p, stands) = stands-before flow own home.places h.between point o is h.legal placed has e.0
    (before-live flow h.legal.lives home.places point o here e.0 e.1 at) in
    let same : place_of e.1 ≡ p = place-same e.1 p (sym (ap standing_if_any at) ∙ stands) in
    ap (λ (x : Placement). x.before point e.0) h.placement_is ∙ stands ∙ ap Some (sym same))))

point-told : (first : ℕ) (f : Function) (flow : Flow) (own : List ℕ) (home : Home) (placement : Placement)
    (address : ℕ → ℕ) (n : ℕ) → IsFlow flow own → MarksStatements first f flow → IsHome flow home placement
    → IsPlaced flow n → TellsPoint first f flow placement address (point_at flow home address n)
point-told first f flow own home placement address n is marks h placed =
    let (o, there) = op-there flow own n is placed in
    let has : slice_get flow.ops n ≡ Some (slice_index_or flow.ops n op.Turn) =
    there.has ∙ ap Some (sym there.read) in
    record {
      placed = placed;
      same_op = has;
      address = refl;
      marks = λ statement e.
          record {
            own = marks.only n statement (has ∙ ap Some e);
            places = λ s among.
                all-among (λ (x : Standing). placement.before n x.variable ≡ Some x.place) s
                (standings_of (entries_at home.places.before n))
                (listed-stands flow own home placement n o is h placed there.has) among;
          };
    }

-- what a function tells
function-told : (first : ℕ) (f : Function) (flow : Flow) (own : List ℕ) (home : Home) (placement : Placement)
    (address : ℕ → ℕ) → IsFlow flow own → HasShape f flow → MarksStatements first f flow
    → IsHome flow home placement
    → TellsFunction first f flow placement address (function_over f flow home address)
function-told first f flow own home placement address is shape marks h =
    record {
      arrays = ap (λ (x : Placement). arrays_at f.arrays x.arrays) (sym h.placement_is);
      temporaries = drop (length (local_widths f.locals)) flow.widths;
      variables = refl;
      widths = widths-over f flow shape.first_variables.0 shape.first_variables.1;
      points = λ p among.
          let r = point-of f flow home address p among in
          subst (λ (x : MapPoint). TellsPoint first f flow placement address x) r.1
          (point-told first f flow own home placement address p.number is marks h r.0);
      all_marks = λ n statement placed has. point-there f flow home address n placed;
      all_calls = λ n result callee arguments placed has. point-there f flow home address n placed;
    }

-- ---- points of functions

-- a point of function k of the map is that of a point of its graph
record IsPointOver (flows : List Flow) (homes : List Home) (addresses : ℕ → ℕ → ℕ) (k : ℕ) (p : MapPoint)
    : Type 0 where
  flow : Flow
  home : Home
  graph : slice_get flows k ≡ Some flow
  lives_in : slice_get homes k ≡ Some home
  placed : IsPlaced flow p.number
  is : point_at flow home (addresses k) p.number ≡ p

point-over : (fs : List Function) (flows : List Flow) (homes : List Home) (addresses : ℕ → ℕ → ℕ) (k : ℕ)
    (p : MapPoint) → IsPointAt 0 (functions_over 0 fs flows homes addresses) k p
    → IsPointOver flows homes addresses k p
point-over fs flows homes addresses k p at =
    let same : at.place ≡ k = let numbered = at.numbered in omega (arith, numbered) in
    let h = function-from 0 k fs flows homes addresses at.function
    (subst (λ (i : ℕ). slice_get (functions_over 0 fs flows homes addresses) i ≡ Some at.function) same at.has) in
    let r = point-of h.function h.flow h.home (addresses (0 + k)) p
    (subst (λ (x : MapFunction). IsAmong p (points_of x)) h.is at.among) in
    let from : 0 + k ≡ k = omega arith in
    record {
      flow = h.flow;
      home = h.home;
      graph = h.graph;
      lives_in = h.lives_in;
      placed = r.0;
      is = subst (λ (i : ℕ). point_at h.flow h.home (addresses i) p.number ≡ p) from r.1;
    }

-- points of one number of one function are one
same-point : (flows : List Flow) (homes : List Home) (addresses : ℕ → ℕ → ℕ) (k l : ℕ) (p q : MapPoint)
    → IsPointOver flows homes addresses k p → IsPointOver flows homes addresses l q → k ≡ l → p.number ≡ q.number
    → p ≡ q
same-point flows homes addresses k l p q one two same number =
    let flow : one.flow ≡ two.flow =
    same_Some one.flow two.flow (sym one.graph ∙ ap (slice_get flows) same ∙ two.graph) in
    let home : one.home ≡ two.home =
    same_Some one.home two.home (sym one.lives_in ∙ ap (slice_get homes) same ∙ two.lives_in) in
    sym one.is
    ∙ ap (λ (x : Flow). point_at x one.home (addresses k) p.number) flow
    ∙ ap (λ (x : Home). point_at two.flow x (addresses k) p.number) home
    ∙ ap (λ (j : ℕ). point_at two.flow two.home (addresses j) p.number) same
    ∙ ap (λ (n : ℕ). point_at two.flow two.home (addresses l) n) number
    ∙ two.is

-- ---- the map

-- of a statement it has one mark at most
one-mark : (program : Program) (code : Code) (m : Map) (h : HasMap program code m) (a b : MarkAt)
    → IsAmong a (marks_of (map_of program code.program.functions h.belongs.homes code.symbols.objects
    (point_address code)))
    → IsAmong b (marks_of (map_of program code.program.functions h.belongs.homes code.symbols.objects
    (point_address code)))
    → a.statement ≡ b.statement → a ≡ b
one-mark program code m h a b one two same =
    let fs : List Function = program.functions in
    let flows : List Flow = code.program.functions in
    let homes : List Home = h.belongs.homes in
    let addresses : ℕ → ℕ → ℕ = point_address code in
    let xs : List MapFunction = functions_over 0 fs flows homes addresses in
    let r = mark-from 0 xs a one in
    let q = mark-from 0 xs b two in
    let first = point-over fs flows homes addresses r.0 r.1 r.2 in
    let second = point-over fs flows homes addresses q.0 q.1 q.2 in
    let there = one-place flows r.0 q.0 first.flow second.flow r.1.number q.1.number a.statement h.once first.graph
    second.graph (marks r.0 r.1 a first (says-of r.0 r.1 a r.3).statement_is)
    (marks q.0 q.1 b second (says-of q.0 q.1 b q.3).statement_is
    ∙ ap (λ (n : ℕ). Some (op.Mark n)) (sym same)) in
    let point : r.1 ≡ q.1 = same-point flows homes addresses r.0 q.0 r.1 q.1 first second there.0 there.1 in
    same_Some a b
    (sym r.3 ∙ ap (λ (k : ℕ). mark_at k r.1) there.0 ∙ ap (λ (p : MapPoint). mark_at q.0 p) point ∙ q.3)
  where
    marks : (k : ℕ) (p : MapPoint) (mark : MarkAt)
        → (over : IsPointOver code.program.functions h.belongs.homes (point_address code) k p)
        → p.op ≡ op.Mark mark.statement
        → slice_get over.flow.ops p.number ≡ Some (op.Mark mark.statement)
    marks k p mark over is =
        let g = graph-of code k over.flow h.is_selected over.graph in
        let (o, there) = op-there over.flow g.keeps.0 p.number g.keeps.1 over.placed in
        there.has ∙ ap Some (sym there.read ∙ ap (λ (x : MapPoint). x.op) over.is ∙ is)

-- what it tells
told : (program : Program) (code : Code) (m : Map) (h : HasMap program code m)
    → All (λ mark. IsAt code.text mark.address (0x90 ∷ []))
    (marks_of (map_of program code.program.functions h.belongs.homes code.symbols.objects (point_address code)))
    → Tells program code
    (map_of program code.program.functions h.belongs.homes code.symbols.objects (point_address code))
told program code m h nops =
    let fs : List Function = program.functions in
    let flows : List Flow = code.program.functions in
    let homes : List Home = h.belongs.homes in
    let addresses : ℕ → ℕ → ℕ = point_address code in
    record {
      well_typed = h.well_typed;
      is_selected = h.is_selected;
      shapes = h.shapes;
      objects = h.objects;
      own_objects = refl;
      as_many = functions-many 0 fs flows homes addresses h.shapes.as_many h.belongs.as_many;
      functions = λ k f flow x at there mine.
          let o = function-from 0 k fs flows homes addresses x mine in
          let g = graph-of code k flow h.is_selected there in
          let from : 0 + k ≡ k = omega arith in
          let alike : o.function ≡ f = same_Some o.function f (sym o.at ∙ at) in
          let graph : o.flow ≡ flow = same_Some o.flow flow (sym o.graph ∙ there) in
          let is : x ≡ function_over f flow o.home (addresses k) =
          o.is ∙ ap (λ (j : ℕ). function_over o.function o.flow o.home (addresses j)) from
          ∙ ap (λ (y : Function). function_over y o.flow o.home (addresses k)) alike
          ∙ ap (λ (y : Flow). function_over f y o.home (addresses k)) graph in
          subst (λ (y : MapFunction).
          TellsFunction (first_statement fs k) f flow (placement_of code k) (addresses k) y) (sym is)
          (function-told (first_statement fs k) f flow g.keeps.0 o.home (placement_of code k) (addresses k) g.keeps.1
          (h.shapes.each k f flow at there) (h.marks k f flow at there)
          (h.belongs.each k flow o.home there o.lives_in));
      one_mark = one-mark program code m h;
      nops = nops;
    }

pub tells : (program : Program) (code : Code) (m : Map) → HasMap program code m → Tells program code m
tells program code m h =
    subst (λ (x : Map). Tells program code x) (sym h.belongs.is)
    (told program code m h
    (subst (λ (x : Map). All (λ mark. IsAt code.text mark.address (0x90 ∷ [])) (marks_of x)) h.belongs.is
    h.belongs.nops))

-- ---- the law

pub map-shows-visits : MapShowsVisits
map-shows-visits program code m h = visits-told program code m (tells program code m h)

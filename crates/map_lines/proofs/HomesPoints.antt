-- The points and the functions of the map of a program over homes, by their numbers.
use Rattle.std.proofs.Common.{◌≡◌, ℕ, zero, suc, ◌+◌, List, [], ◌∷◌, ◌++◌, length, map, Some, refl, sym, ap, ◌∙◌}
use Rattle.std.proofs.Common.{subst, arith, inl, inr}
use Rattle.std.specs.Prelude.{flat_map, slice_get, slice_index_or}
use Rattle.std.specs.List.{AllByRecursion}
use Rattle.std.proofs.lemmas.List.{map-append}
use Rattle.std.proofs.lemmas.Option.{get_or_from_slice_get, none-some, same_Some}
use Rattle.c_tree.specs.Program.{Function}
use Rattle.flow_graph.specs.declared.op.Op.{Op}
use Rattle.flow_graph.specs.declared.op.Op.TheVariants.{Turn}
use Rattle.flow_graph.specs.Graphs as graphs
use Rattle.flow_graph.specs.Graphs.{FitsOp, Flow, HasFittingOp, IsFlow, IsIn, IsPlaced}
use Rattle.flow_graph.proofs.Points.{every-from, every-in}
use Rattle.map_text.specs.Maps.{Map, MapFunction, MapPoint, points_of}
use Rattle.map_lines.specs.Parts.{arrays_at, objects_at}
use Rattle.map_lines.specs.MapOf.{Home, block_over, function_over, functions_over, point_over, variables_over}
use Rattle.map_lines.specs.MapLaws.{MapBySameAddresses}
use Rattle.map_lines.proofs.Blocks.{all_points, in-back, in-front, placed-in}
use Rattle.ia32_placements.specs.Placed.{arrays_in}

-- ---- the points of a function

-- the point with a number
abbrev pub point_at : Flow → Home → (ℕ → ℕ) → ℕ → MapPoint
point_at flow home address p = point_over flow home address p (slice_index_or flow.ops p Turn)

blocks-joined : (flow : Flow) (home : Home) (address : ℕ → ℕ) (blocks : List (List ℕ))
    → flat_map (λ block. block) (map (block_over flow home address) blocks)
    ≡ map (λ p. point_at flow home address p) (flat_map (λ points. points) blocks)
blocks-joined flow home address [] = refl
blocks-joined flow home address (points ∷ blocks) =
    ap (λ (ps : List MapPoint). block_over flow home address points ++ ps) (blocks-joined flow home address blocks)
    ∙ sym (map-append (λ (p : ℕ). point_at flow home address p) points (flat_map (λ (ps : List ℕ). ps) blocks))

-- they are those of all blocks of its graph
pub points-are : (f : Function) (flow : Flow) (home : Home) (address : ℕ → ℕ)
    → points_of (function_over f flow home address) ≡ map (λ p. point_at flow home address p) (all_points flow)
points-are f flow home address = blocks-joined flow home address flow.blocks

pub every-map : {X Y : Type 0} (P : Y → Type 0) (g : X → Y) (xs : List X) → AllByRecursion (λ x. P (g x)) xs
    → AllByRecursion P (map g xs)
every-map P g [] all = tt
every-map P g (x ∷ xs) all = (all.0, every-map P g xs all.1)

-- what holds of each point of the graph holds of the function's points
pub each-point : (P : MapPoint → Type 0) (f : Function) (flow : Flow) (home : Home) (address : ℕ → ℕ)
    → ((p : ℕ) → IsIn p (all_points flow) → P (point_at flow home address p))
    → AllByRecursion P (points_of (function_over f flow home address))
each-point P f flow home address each =
    subst (λ (ps : List MapPoint). AllByRecursion P ps) (sym (points-are f flow home address))
    (every-map P (λ (p : ℕ). point_at flow home address p) (all_points flow)
    (every-from (λ p. P (point_at flow home address p)) (all_points flow) each))

numbers-kept : (flow : Flow) (home : Home) (address : ℕ → ℕ) (points : List ℕ)
    → map (λ (x : MapPoint). x.number) (map (λ p. point_at flow home address p) points) ≡ points
numbers-kept flow home address [] = refl
numbers-kept flow home address (p ∷ points) =
    ap (λ (ps : List ℕ). p ∷ ps) (numbers-kept flow home address points)

-- the numbers of its points are those of the graph's
pub numbers-are : (f : Function) (flow : Flow) (home : Home) (address : ℕ → ℕ)
    → map (λ (x : MapPoint). x.number) (points_of (function_over f flow home address)) ≡ all_points flow
numbers-are f flow home address =
    ap (λ (ps : List MapPoint). map (λ (x : MapPoint). x.number) ps) (points-are f flow home address)
    ∙ numbers-kept flow home address (all_points flow)

-- the op of a point, which fits
pub record HasOp (flow : Flow) (p : ℕ) (o : Op) : Type 0 where
  pub has : slice_get flow.ops p ≡ Some o
  pub fits : FitsOp flow o
  pub read : slice_index_or flow.ops p Turn ≡ o

pub op-there : (flow : Flow) (own : List ℕ) (p : ℕ) → IsFlow flow own → IsPlaced flow p
    → (o : Op) × HasOp flow p o
op-there flow own p is (b, stands) =
    let (o, has, fits) = every-in (HasFittingOp flow) p (graphs.points_of flow b) (is.each_block b).fits stands in (
      o,
      record { has = has; fits = fits; read = get_or_from_slice_get flow.ops p o Turn has },
    )

-- ---- functions

-- there are as many functions as the program has
pub functions-many : (k : ℕ) (fs : List Function) (flows : List Flow) (homes : List Home) (addresses : ℕ → ℕ → ℕ)
    → length flows ≡ length fs → length homes ≡ length fs
    → length (functions_over k fs flows homes addresses) ≡ length fs
functions-many k [] flows homes addresses one two = refl
functions-many k (f ∷ fs) [] homes addresses one two = absurd (omega (arith, one))
functions-many k (f ∷ fs) (flow ∷ flows) [] addresses one two = absurd (omega (arith, two))
functions-many k (f ∷ fs) (flow ∷ flows) (h ∷ homes) addresses one two =
    ap suc (functions-many (suc k) fs flows homes addresses (omega (arith, one)) (omega (arith, two)))

-- A function of the map is that of a function, a graph and a home.
pub record IsFunctionAt (k : ℕ) (fs : List Function) (flows : List Flow) (homes : List Home)
    (addresses : ℕ → ℕ → ℕ) (j : ℕ) (x : MapFunction) : Type 0 where
  pub function : Function
  pub flow : Flow
  pub home : Home
  pub at : slice_get fs j ≡ Some function
  pub graph : slice_get flows j ≡ Some flow
  pub lives_in : slice_get homes j ≡ Some home
  pub is : x ≡ function_over function flow home (addresses (k + j))

pub function-from : (k j : ℕ) (fs : List Function) (flows : List Flow) (homes : List Home) (addresses : ℕ → ℕ → ℕ)
    (x : MapFunction) → slice_get (functions_over k fs flows homes addresses) j ≡ Some x
    → IsFunctionAt k fs flows homes addresses j x
function-from k j [] flows homes addresses x e = absurd (none-some x e)
function-from k j (f ∷ fs) [] homes addresses x e = absurd (none-some x e)
function-from k j (f ∷ fs) (flow ∷ flows) [] addresses x e = absurd (none-some x e)
function-from k zero (f ∷ fs) (flow ∷ flows) (h ∷ homes) addresses x e =
    let from : k ≡ k + 0 = omega arith in
    record {
      function = f;
      flow = flow;
      home = h;
      at = refl;
      graph = refl;
      lives_in = refl;
      is = sym (same_Some (function_over f flow h (addresses k)) x e)
          ∙ ap (λ (n : ℕ). function_over f flow h (addresses n)) from;
    }
function-from k (suc j) (f ∷ fs) (flow ∷ flows) (h ∷ homes) addresses x e =
    let rest = function-from (suc k) j fs flows homes addresses x e in
    let next : suc k + j ≡ k + suc j = omega arith in
    record {
      function = rest.function;
      flow = rest.flow;
      home = rest.home;
      at = rest.at;
      graph = rest.graph;
      lives_in = rest.lives_in;
      is = rest.is ∙ ap (λ (n : ℕ). function_over rest.function rest.flow rest.home (addresses n)) next;
    }

-- ---- addresses

point-same : (flow : Flow) (home : Home) (one other : ℕ → ℕ) (p : ℕ) → one p ≡ other p
    → point_at flow home one p ≡ point_at flow home other p
point-same flow home one other p same =
    ap (λ (a : ℕ). point_over flow home (λ q. a) p (slice_index_or flow.ops p Turn)) same

block-same : (flow : Flow) (home : Home) (one other : ℕ → ℕ) (points : List ℕ)
    → ((p : ℕ) → IsIn p points → one p ≡ other p)
    → block_over flow home one points ≡ block_over flow home other points
block-same flow home one other [] same = refl
block-same flow home one other (p ∷ points) same =
    ap (λ (x : MapPoint). x ∷ block_over flow home one points)
    (point-same flow home one other p (same p (inl refl)))
    ∙ ap (λ (xs : List MapPoint). point_at flow home other p ∷ xs)
    (block-same flow home one other points (λ q within. same q (inr within)))

blocks-same : (flow : Flow) (home : Home) (one other : ℕ → ℕ) (blocks : List (List ℕ))
    → ((p : ℕ) → IsIn p (flat_map (λ points. points) blocks) → one p ≡ other p)
    → map (block_over flow home one) blocks ≡ map (block_over flow home other) blocks
blocks-same flow home one other [] same = refl
blocks-same flow home one other (points ∷ blocks) same =
    let others : List ℕ = flat_map (λ (ps : List ℕ). ps) blocks in
    ap (λ (x : List MapPoint). x ∷ map (block_over flow home one) blocks)
    (block-same flow home one other points (λ p within. same p (in-front p points others within)))
    ∙ ap (λ (xs : List (List MapPoint)). block_over flow home other points ∷ xs)
    (blocks-same flow home one other blocks (λ p within. same p (in-back p points others within)))

function-same : (f : Function) (flow : Flow) (home : Home) (one other : ℕ → ℕ)
    → ((p : ℕ) → IsPlaced flow p → one p ≡ other p)
    → function_over f flow home one ≡ function_over f flow home other
function-same f flow home one other same =
    ap (λ (blocks : List (List MapPoint)).
    let g : MapFunction = record {
      name = f.name;
      frame = home.places.frame;
      arrays = arrays_at f.arrays (arrays_in flow home.places);
      variables = variables_over f flow;
      blocks = blocks;
    } in
    g)
    (blocks-same flow home one other flow.blocks (λ p within. same p (placed-in flow p within)))

functions-same : (k : ℕ) (fs : List Function) (flows : List Flow) (homes : List Home) (one other : ℕ → ℕ → ℕ)
    → ((j p : ℕ) (flow : Flow) → slice_get flows j ≡ Some flow → IsPlaced flow p → one (k + j) p ≡ other (k + j) p)
    → functions_over k fs flows homes one ≡ functions_over k fs flows homes other
functions-same k [] flows homes one other same = refl
functions-same k (f ∷ fs) [] homes one other same = refl
functions-same k (f ∷ fs) (flow ∷ flows) [] one other same = refl
functions-same k (f ∷ fs) (flow ∷ flows) (h ∷ homes) one other same =
    let from : k + 0 ≡ k = omega arith in
    ap (λ (x : MapFunction). x ∷ functions_over (suc k) fs flows homes one)
    (function-same f flow h (one k) (other k)
    (λ p placed. subst (λ (n : ℕ). one n p ≡ other n p) from (same 0 p flow refl placed)))
    ∙ ap (λ (xs : List MapFunction). function_over f flow h (other k) ∷ xs)
    (functions-same (suc k) fs flows homes one other
    (λ j p w at placed. (let next : k + suc j ≡ suc k + j = omega arith in
    subst (λ (n : ℕ). one n p ≡ other n p) next (same (suc j) p w at placed))))

-- the map is the same where the points have the same addresses
pub map-same : MapBySameAddresses
map-same program flows homes objects one other same =
    ap (λ (fs : List MapFunction).
    let m : Map = record { objects = objects_at program.objects objects; functions = fs } in
    m)
    (functions-same 0 program.functions flows homes one other
    (λ j p flow at placed. (let from : j ≡ 0 + j = omega arith in
    subst (λ (n : ℕ). one n p ≡ other n p) from (same j p flow at placed))))

-- The lines of a map that keeps the rules are read as they are.
use Rattle.std.proofs.Common.{◌<◌, ◌≤◌, ℕ, suc, ◌+◌, ◌^◌, w32, FitsSigned, List, [], ◌∷◌, ◌++◌, length, map}
use Rattle.std.proofs.Common.{flat_map, Option, Some, None, arith}
use Rattle.std.specs.Prelude.{⊤}
use Rattle.std.specs.List.{All, AllByRecursion}
use Rattle.std.proofs.lemmas.List.{length-map}
use Rattle.std.proofs.lemmas.List.Elements.{recursion_from_All}
use Rattle.std.proofs.lemmas.Option.{slice_get_within}
use Rattle.pcc_base.specs.declared.run.Width.{Width}
use Rattle.pcc_base.proofs.Lists.{all-append, all-left, all-right, all-weaker}
use Rattle.puzzle_board.specs.declared.piece.Piece.{Piece}
use Rattle.flow_graph.specs.declared.op.Op.{Op}
use Rattle.flow_graph.specs.declared.op.Op.TheVariants as op
use Rattle.flow_graph.specs.Graphs.{HasWidth, IsMet, needs}
use Rattle.flow_graph.specs.Shapes.{About, AnyWidth, FrameArray, Need, NothingElse, SameWidth, Target, TheFunction}
use Rattle.flow_graph.specs.Shapes.{TheNumber, TheObject, TheStatement, TheTurn, TheWord, Variable, shape, two, two_if_any}
use Rattle.flow_graph.specs.WellFormed.{IsWithin}
use Rattle.map_text.specs.Maps.{HasNumber, IsMapArray, IsMapObject, IsMapOp, IsMapVariable, IsNumber, IsStanding, Map}
use Rattle.map_text.specs.Maps.{MapArray, MapFunction, MapObject, MapPoint, MapVariable, Standing, flow_of, points_of}
use Rattle.map_text.specs.Rules.{IsMap, IsMapFunction, IsMapPiece, IsMapPoint}
use Rattle.map_text.specs.Words.{EndLine, Line, array_lines, block_lines, function_lines, numbered, object_lines}
use Rattle.map_text.specs.Words.{point_lines, variable_lines}
use Rattle.map_text.proofs.FieldsRead.{IsPieceText}
use Rattle.map_text.proofs.LineRules.{IsAnyNumber, IsStandingText}
use Rattle.map_text.proofs.LinesRead.{IsLine}
use Rattle.map_text.proofs.OpsRead.{IsOpText}

-- any line but the last
abbrev pub IsInner : Line → Type 0
IsInner EndLine = ⊥
IsInner _ = ⊤

-- a line before the last, which is read as it is
abbrev pub IsReadLine : Line → Type 0
IsReadLine line = IsLine line × IsInner line

abbrev pub AreReadLines : List Line → Type 0
AreReadLines lines = AllByRecursion IsReadLine lines

-- ---- ops

-- the counts below which the numbers of a function are
record AreFew (m : Map) (f : MapFunction) : Type 0 where
  pub objects : length m.objects ≤ 2 ^ 32
  pub functions : length m.functions ≤ 2 ^ 32
  pub variables : length f.variables ≤ 2 ^ 32
  pub arrays : length f.arrays ≤ 2 ^ 32
  pub blocks : length f.blocks ≤ 2 ^ 32

-- the numbers of what an op asks for
abbrev NeedNumbers : Need → Type 0
NeedNumbers (Variable v width) = IsNumber v
NeedNumbers (AnyWidth v) = IsNumber v
NeedNumbers (SameWidth d s) = IsNumber d × IsNumber s
NeedNumbers (FrameArray k) = IsNumber k
NeedNumbers (Target x) = IsNumber x

-- the numbers of what an op is about
abbrev AboutNumbers : About → Type 0
AboutNumbers NothingElse = ⊤
AboutNumbers (TheNumber n) = FitsSigned w32 n
AboutNumbers (TheWord k) = IsNumber k
AboutNumbers (TheObject k) = IsNumber k
AboutNumbers (TheFunction f) = IsNumber f
AboutNumbers (TheStatement s) = IsNumber s
AboutNumbers TheTurn = ⊤

variable-small : (f : MapFunction) (v : ℕ) (width : Width) → length f.variables ≤ 2 ^ 32 → HasWidth (flow_of f) v width
    → IsNumber v
variable-small f v width few has =
    let many = length-map f.variables (λ (x : MapVariable). x.width) in
    omega (arith, few, many, slice_get_within (flow_of f).widths v width has)

need-numbers : (m : Map) (f : MapFunction) → AreFew m f → (need : Need) → IsMet (flow_of f) need → NeedNumbers need
need-numbers m f few (Variable v width) met = variable-small f v width few.variables met
need-numbers m f few (AnyWidth v) met = variable-small f v met.0 few.variables met.1
need-numbers m f few (SameWidth d s) met =
    (variable-small f d met.0 few.variables met.1, variable-small f s met.0 few.variables met.2)
need-numbers m f few (FrameArray k) met =
    let many = length-map {B = ℕ × ℕ} f.arrays (λ (a : MapArray). (a.bytes, a.count)) in omega (arith, few.arrays, many, met)
need-numbers m f few (Target x) met =
    let many = length-map {B = List ℕ} f.blocks (map (λ (p : MapPoint). p.number)) in omega (arith, few.blocks, many, met)

about-numbers : (m : Map) (f : MapFunction) → AreFew m f → (about : About)
    → IsWithin (length m.functions) (length m.objects) about → HasNumber about → AboutNumbers about
about-numbers m f few NothingElse within has = tt
about-numbers m f few (TheNumber n) within has = has
about-numbers m f few (TheWord k) within has = has
about-numbers m f few (TheObject k) within has = omega (arith, few.objects, within)
about-numbers m f few (TheFunction g) within has = omega (arith, few.functions, within)
about-numbers m f few (TheStatement s) within has = has
about-numbers m f few TheTurn within has = tt

words-numbers : (xs : List ℕ) → AllByRecursion NeedNumbers (map two xs) → AllByRecursion IsNumber xs
words-numbers [] h = tt
words-numbers (x ∷ xs) h = (h.0, words-numbers xs h.1)

call-text : (d : Option ℕ) (g : ℕ) (xs : List ℕ) → AllByRecursion NeedNumbers (two_if_any d ++ map two xs) → IsNumber g
    → IsOpText (op.Call d g xs)
call-text None g xs h about = (tt, about, words-numbers xs h)
call-text (Some v) g xs h about = (h.0, about, words-numbers xs h.1)

any-text : (a : Option ℕ) → AllByRecursion NeedNumbers (two_if_any a) → IsAnyNumber a
any-text None h = tt
any-text (Some v) h = h.0

op-text : (o : Op) → AllByRecursion NeedNumbers (needs o) → AboutNumbers (shape o).about → IsOpText o
op-text (op.Const d n) h about = (h.0, about)
op-text (op.Copy a b) h about = h.0
op-text (op.Wide a b) h about = (h.0, h.1.0)
op-text (op.Zero a b) h about = (h.0, h.1.0)
op-text (op.Low a b) h about = (h.0, h.1.0)
op-text (op.Low16 a b) h about = (h.0, h.1.0)
op-text (op.Neg a b) h about = (h.0, h.1.0)
op-text (op.Not a b) h about = (h.0, h.1.0)
op-text (op.Add d a b) h about = (h.0, h.1.0, h.1.1.0)
op-text (op.Sub d a b) h about = (h.0, h.1.0, h.1.1.0)
op-text (op.Mul d a b) h about = (h.0, h.1.0, h.1.1.0)
op-text (op.And d a b) h about = (h.0, h.1.0, h.1.1.0)
op-text (op.Or d a b) h about = (h.0, h.1.0, h.1.1.0)
op-text (op.Xor d a b) h about = (h.0, h.1.0, h.1.1.0)
op-text (op.Shl d a b) h about = (h.0, h.1.0, h.1.1.0)
op-text (op.Sar d a b) h about = (h.0, h.1.0, h.1.1.0)
op-text (op.Shr d a b) h about = (h.0, h.1.0, h.1.1.0)
op-text (op.Div d a b) h about = (h.0, h.1.0, h.1.1.0)
op-text (op.Rem d a b) h about = (h.0, h.1.0, h.1.1.0)
op-text (op.Udiv d a b) h about = (h.0, h.1.0, h.1.1.0)
op-text (op.Urem d a b) h about = (h.0, h.1.0, h.1.1.0)
op-text (op.Set how d a b) h about = (h.0, h.1.0, h.1.1.0)
op-text (op.Setu how d a b) h about = (h.0, h.1.0, h.1.1.0)
op-text (op.Frame d k) h about = (h.0, h.1.0)
op-text (op.Static d k) h about = (h.0, about)
op-text (op.Load bits d p i) h about = (h.0, h.1.0, h.1.1.0)
op-text (op.Store bits p i s) h about = (h.0, h.1.0, h.1.1.0)
op-text (op.Get bits d k) h about = (h.0, about)
op-text (op.Put bits k s) h about = (about, h.0)
op-text (op.Clear k) h about = h.0
op-text (op.Param d k) h about = (h.0, about)
op-text (op.Call d g xs) h about = call-text d g xs h about
op-text (op.Putchar d s) h about = (h.0, h.1.0)
op-text (op.Getchar d) h about = h.0
op-text (op.Exit s) h about = h.0
op-text (op.Same a b) h about = (h.0, h.1.0)
op-text (op.Mark s) h about = about
op-text op.Turn h about = tt
op-text (op.Jump x) h about = h.0
op-text (op.Branch how a b x y) h about = (h.0, h.1.0, h.1.1.0, h.1.1.1.0)
op-text (op.Branchu how a b x y) h about = (h.0, h.1.0, h.1.1.0, h.1.1.1.0)
op-text (op.Return a) h about = any-text a h

op-reads : (m : Map) (f : MapFunction) (o : Op) → AreFew m f → IsMapOp m f o → IsOpText o
op-reads m f o few is =
    op-text o (all-weaker (IsMet (flow_of f)) NeedNumbers (needs o) (need-numbers m f few) is.fits)
    (about-numbers m f few (shape o).about is.names is.numbers)

-- ---- points

standing-reads : (vs : List MapVariable) → length vs ≤ 2 ^ 32 → (s : Standing) → IsStanding vs s → IsStandingText s
standing-reads vs few s is =
    record { variable = omega (arith, few, slice_get_within vs s.variable is.0 is.1); place = is.3 }

standings-read : (vs : List MapVariable) (ss : List Standing) → length vs ≤ 2 ^ 32 → All (IsStanding vs) ss
    → AllByRecursion IsStandingText ss
standings-read vs ss few all =
    all-weaker (IsStanding vs) IsStandingText ss (standing-reads vs few) (recursion_from_All (IsStanding vs) ss all)

piece-reads : (vs : List MapVariable) → length vs ≤ 2 ^ 32 → (p : Piece) → IsMapPiece vs p → IsPieceText p
piece-reads vs few p is = omega (arith, few, slice_get_within vs p.var is.0 is.1)

point-reads : (m : Map) (f : MapFunction) (p : MapPoint) → AreFew m f → IsMapPoint m f p → AreReadLines (point_lines p)
point-reads m f p few is =
    let pieces = all-weaker (IsMapPiece f.variables) IsPieceText p.pieces (piece-reads f.variables few.variables)
    (recursion_from_All (IsMapPiece f.variables) p.pieces is.pieces) in
    let spilled = all-weaker (λ v. v < length f.variables) IsNumber p.spilled (λ v h. omega (arith, h, few.variables))
    (recursion_from_All (λ v. v < length f.variables) p.spilled is.spilled) in (
      ((is.number, is.address, op-reads m f p.op few is.op), tt),
      (
        ((is.areas, pieces), tt),
        (
          (standings-read f.variables p.before few.variables is.before.0, tt),
          ((standings-read f.variables p.after few.variables is.after.0, tt), ((spilled, tt), tt)),
        ),
      ),
    )

points-read : (m : Map) (f : MapFunction) (ps : List MapPoint) → AreFew m f → AllByRecursion (IsMapPoint m f) ps
    → AreReadLines (flat_map point_lines ps)
points-read m f [] few all = tt
points-read m f (p ∷ ps) few all =
    all-append IsReadLine (point_lines p) (flat_map point_lines ps) (point-reads m f p few all.0)
    (points-read m f ps few all.1)

-- ---- numbered parts

-- numbered lines, where there are not too many
numbered-read : {X : Type 0} (P : X → Type 0) (lines : ℕ → X → List Line)
    → ((k : ℕ) (x : X) → IsNumber k → P x → AreReadLines (lines k x))
    → (k : ℕ) (xs : List X) → k + length xs ≤ 2 ^ 32 → AllByRecursion P xs → AreReadLines (numbered lines k xs)
numbered-read P lines each k [] few all = tt
numbered-read P lines each k (x ∷ xs) few all =
    all-append IsReadLine (lines k x) (numbered lines (suc k) xs) (each k x (omega (arith, few)) all.0)
    (numbered-read P lines each (suc k) xs (omega (arith, few)) all.1)

object-reads : (k : ℕ) (o : MapObject) → IsNumber k → IsMapObject o → AreReadLines (object_lines k o)
object-reads k o n is = (((n, is.0, is.1.0, is.1.2), tt), tt)

array-reads : (k : ℕ) (a : MapArray) → IsNumber k → IsMapArray a → AreReadLines (array_lines k a)
array-reads k a n is = (((n, (is.0, is.1), is.2.0, is.2.2), tt), tt)

variable-reads : (k : ℕ) (v : MapVariable) → IsNumber k → IsMapVariable v → AreReadLines (variable_lines k v)
variable-reads k v n is = (((n, is), tt), tt)

-- each point of each block
abbrev ArePoints : Map → MapFunction → List MapPoint → Type 0
ArePoints m f points = AllByRecursion (IsMapPoint m f) points

blocks-points : (m : Map) (f : MapFunction) (blocks : List (List MapPoint))
    → ArePoints m f (flat_map (λ block. block) blocks) → AllByRecursion (ArePoints m f) blocks
blocks-points m f [] all = tt
blocks-points m f (b ∷ blocks) all = (
  all-left (IsMapPoint m f) b (flat_map (λ block. block) blocks) all,
  blocks-points m f blocks (all-right (IsMapPoint m f) b (flat_map (λ block. block) blocks) all),
)

block-reads : (m : Map) (f : MapFunction) → AreFew m f → (k : ℕ) (points : List MapPoint) → IsNumber k
    → ArePoints m f points → AreReadLines (block_lines k points)
block-reads m f few k points n all = ((n, tt), points-read m f points few all)

function-reads : (m : Map) → IsMap m → (k : ℕ) (f : MapFunction) → IsNumber k → IsMapFunction m f
    → AreReadLines (function_lines k f)
function-reads m ruled k f n is =
    let few : AreFew m f = record {
      objects = ruled.few_objects;
      functions = ruled.few_functions;
      variables = is.few_variables;
      arrays = is.few_arrays;
      blocks = is.few_blocks;
    } in
    let arrays = numbered-read IsMapArray array_lines array-reads 0 f.arrays (omega (arith, is.few_arrays))
    (recursion_from_All IsMapArray f.arrays is.arrays) in
    let variables = numbered-read IsMapVariable variable_lines variable-reads 0 f.variables
    (omega (arith, is.few_variables)) (recursion_from_All IsMapVariable f.variables is.variables) in
    let blocks = numbered-read (ArePoints m f) block_lines (block-reads m f few) 0 f.blocks
    (omega (arith, is.few_blocks))
    (blocks-points m f f.blocks (recursion_from_All (IsMapPoint m f) (points_of f) is.points)) in (
      ((n, is.name, is.frame), tt),
      all-append IsReadLine (numbered array_lines 0 f.arrays ++ numbered variable_lines 0 f.variables)
          (numbered block_lines 0 f.blocks)
          (all-append IsReadLine (numbered array_lines 0 f.arrays) (numbered variable_lines 0 f.variables) arrays variables)
          blocks,
    )

-- the lines of a map before its last
abbrev pub inner_lines : Map → List Line
inner_lines m = numbered object_lines 0 m.objects ++ numbered function_lines 0 m.functions

pub lines-read : (m : Map) → IsMap m → AreReadLines (inner_lines m)
lines-read m is =
    all-append IsReadLine (numbered object_lines 0 m.objects) (numbered function_lines 0 m.functions)
    (numbered-read IsMapObject object_lines object-reads 0 m.objects (omega (arith, is.few_objects))
    (recursion_from_All IsMapObject m.objects is.objects))
    (numbered-read (IsMapFunction m) function_lines (function-reads m is) 0 m.functions (omega (arith, is.few_functions))
    (recursion_from_All (IsMapFunction m) m.functions is.functions))

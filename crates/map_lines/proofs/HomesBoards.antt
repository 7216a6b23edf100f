-- The pieces of a point's board, the variables that are spilled there, and its op, by the rules of a map.
use Rattle.std.proofs.Common.{◌≡◌, ◌<◌, ℕ, suc, Bool, true, false, List, [], ◌∷◌, length, map, Some, refl, sym, ap}
use Rattle.std.proofs.Common.{◌∙◌, subst, arith, inl, inr}
use Rattle.std.specs.Prelude.{slice_get, slice_index_or}
use Rattle.std.specs.List.{AllByRecursion, All}
use Rattle.std.proofs.lemmas.List.Elements.{All-from_recursion}
use Rattle.std.proofs.lemmas.Option.{get_or_from_slice_get}
use Rattle.pcc_base.specs.declared.run.Width.{Width}
use Rattle.pcc_base.specs.declared.run.Width.TheVariants.{Two}
use Rattle.pcc_base.proofs.Lists.{all-at, all-weaker, element-at}
use Rattle.flow_graph.specs.declared.op.Op.{Op}
use Rattle.flow_graph.specs.declared.op.Op.TheVariants.{Turn}
use Rattle.flow_graph.specs.Graphs.{EndsOnlyLast, FitsOp, Flow, IsDistinct, IsFlow, IsMet, IsPlaced, IsWord, LastIsEnd}
use Rattle.flow_graph.specs.Graphs.{NumbersFit, is_end, needs}
use Rattle.flow_graph.specs.Liveness.{defined}
use Rattle.flow_graph.specs.Lives.{AreLive, IsAscending, Lives, at_point}
use Rattle.flow_graph.specs.Shapes.{About, NothingElse, TheNumber, TheWord, TheObject, TheFunction, TheStatement}
use Rattle.flow_graph.specs.Shapes.{TheTurn, Need, Variable, AnyWidth, SameWidth, FrameArray, Target}
use Rattle.flow_graph.specs.Shapes.{Takes, NoRegister, Count, Division, AcrossCall, shape}
use Rattle.puzzle_board.specs.declared.piece.Piece.{Piece}
use Rattle.allocator.specs.Order as order
use Rattle.allocator.specs.PointBoards.{areas_by, point_pieces, width_at, with_result}
use Rattle.allocator.specs.PointPuzzles.{point_puzzle}
use Rattle.allocator.specs.Spills.{HasPiece, IsSpilledAt}
use Rattle.allocator.proofs.Members.{Has, piece-is}
use Rattle.allocator.proofs.Ordered.{all-of, pieces-order, vars-within}
use Rattle.allocator.proofs.Solving.{spilled-pieces}
use Rattle.map_text.specs.Maps.{HasNumber, HasNumbers, MapVariable}
use Rattle.map_text.specs.Rules.{AreInOrder, IsMapBlock, IsMapPiece}
use Rattle.map_lines.specs.MapOf.{Home, block_over}
use Rattle.map_lines.proofs.HomesPlaces.{variable-at}
use Rattle.map_lines.proofs.OwnedVariables.{width_of}
use Rattle.map_lines.proofs.Permuted.{distinct-front, permuted-once}
use Rattle.ia32_placements.proofs.Supported.{four-areas as areas-four}

-- ---- areas

-- every board has four areas
pub four-areas : (o : Op) → length (areas_by (shape o).takes) ≡ 4
four-areas o = areas-four (shape o).takes

-- ---- pieces

pub every-at : {X : Type 0} (P : X → Type 0) (xs : List X) → ((k : ℕ) (x : X) → slice_get xs k ≡ Some x → P x)
    → AllByRecursion P xs
every-at P [] each = tt
every-at P (x ∷ xs) each = (each 0 x refl, every-at P xs (λ k y e. each (suc k) y e))

-- a piece is as wide as its variable
piece-width : (flow : Flow) (lives : Lives) (point : ℕ) (o : Op) (p : Piece)
    → Has (point_pieces flow lives point o) p → p.width ≡ width_at flow p.var
piece-width flow lives point o p h =
    let (v, is) = piece-is flow lives point o p h in
    elim is [
      | inl read-is ↦ subst (λ (q : Piece). q.width ≡ width_at flow q.var) read-is.2 refl
      | inr made-is ↦ subst (λ (q : Piece). q.width ≡ width_at flow q.var) made-is.2 refl
    ]

-- and of a variable of the graph
piece-within : (flow : Flow) (own : List ℕ) (lives : Lives) (point : ℕ) (o : Op) → IsFlow flow own
    → AreLive flow lives → IsPlaced flow point → slice_get flow.ops point ≡ Some o → (k : ℕ) (p : Piece)
    → slice_get (point_pieces flow lives point o) k ≡ Some p → p.var < length flow.widths
piece-within flow own lives point o is live placed has k p e =
    all-at (λ (q : Piece). q.var < length flow.widths) (point_pieces flow lives point o) k p
    (all-of flow lives point o (λ v. v < length flow.widths) (with_result (defined o) (at_point lives.before point))
    (vars-within flow own lives point o is live placed has)) e

piece-ruled : (variables : List MapVariable) (flow : Flow) (p : Piece) → map width_of variables ≡ flow.widths
    → p.var < length flow.widths → p.width ≡ width_at flow p.var → IsMapPiece variables p
piece-ruled variables flow p widths within wide =
    let (w, has) = element-at flow.widths p.var within in
    let (x, at, same) = variable-at variables flow.widths p.var w widths has in (
      x,
      at,
      wide ∙ (get_or_from_slice_get flow.widths p.var w Two has ∙ sym same),
    )

pub pieces-ruled : (variables : List MapVariable) (flow : Flow) (own : List ℕ) (lives : Lives) (point : ℕ) (o : Op)
    → map width_of variables ≡ flow.widths → IsFlow flow own → AreLive flow lives → IsPlaced flow point
    → slice_get flow.ops point ≡ Some o → All (IsMapPiece variables) (point_pieces flow lives point o)
pieces-ruled variables flow own lives point o widths is live placed has =
    All-from_recursion (IsMapPiece variables) (point_pieces flow lives point o)
    (every-at (IsMapPiece variables) (point_pieces flow lives point o)
    (λ k p e.
    piece-ruled variables flow p widths (piece-within flow own lives point o is live placed has k p e)
    (piece-width flow lives point o p (k, e))))

order-same : (pieces : List Piece) → order.AreInOrder pieces → AreInOrder pieces
order-same [] h = tt
order-same (p ∷ pieces) h = (h.0, order-same pieces h.1)

pub pieces-ordered : (flow : Flow) (lives : Lives) (point : ℕ) (o : Op) → IsAscending (at_point lives.before point)
    → AreInOrder (point_pieces flow lives point o)
pieces-ordered flow lives point o up =
    order-same (point_pieces flow lives point o) (pieces-order flow lives point o up)

-- ---- spilled

-- what is spilled are variables of the graph
pub spilled-within : (flow : Flow) (own : List ℕ) (lives : Lives) (point : ℕ) (o : Op) (spilled : List ℕ)
    → IsFlow flow own → AreLive flow lives → IsPlaced flow point → slice_get flow.ops point ≡ Some o
    → IsSpilledAt flow lives point o spilled → AllByRecursion (λ v. v < length flow.widths) spilled
spilled-within flow own lives point o spilled is live placed has at =
    let pieces = point_pieces flow lives point o in
    all-weaker (HasPiece pieces) (λ v. v < length flow.widths) spilled
    (λ v there.
    subst (λ (w : ℕ). w < length flow.widths) there.3
    (piece-within flow own lives point o is live placed has there.0 there.1 there.2))
    (spilled-pieces flow point (point_puzzle flow lives point o) pieces at.candidates at.order spilled at.of_pieces
    at.ordered at.shortest)

-- each once
pub spilled-once : (flow : Flow) (lives : Lives) (point : ℕ) (o : Op) (spilled : List ℕ)
    → IsSpilledAt flow lives point o spilled → IsDistinct spilled
spilled-once flow lives point o spilled at =
    let once : IsDistinct at.order =
    subst IsDistinct (sym at.ordered.variables)
    (permuted-once at.candidates at.ordered.sorted (λ c. c.variable) at.ordered.permuted at.of_pieces.once) in
    subst IsDistinct (sym at.shortest.prefix) (distinct-front (length spilled) at.order once)

-- ---- ops

met : (flow other : Flow) (need : Need) → other.widths ≡ flow.widths → length other.arrays ≡ length flow.arrays
    → length other.blocks ≡ length flow.blocks → IsMet flow need → IsMet other need
met flow other (Variable v width) widths arrays blocks m = ap (λ (ws : List Width). slice_get ws v) widths ∙ m
met flow other (AnyWidth v) widths arrays blocks (w, m) = (w, ap (λ (ws : List Width). slice_get ws v) widths ∙ m)
met flow other (SameWidth d s) widths arrays blocks (w, m, n) = (
  w,
  ap (λ (ws : List Width). slice_get ws d) widths ∙ m,
  ap (λ (ws : List Width). slice_get ws s) widths ∙ n,
)
met flow other (FrameArray k) widths arrays blocks m = omega (arith, m, arrays)
met flow other (Target x) widths arrays blocks m = omega (arith, m, blocks)

-- an op fits where variables have the same widths, and as many arrays and blocks are there
pub fits-as : (flow other : Flow) (o : Op) → other.widths ≡ flow.widths → length other.arrays ≡ length flow.arrays
    → length other.blocks ≡ length flow.blocks → FitsOp flow o → FitsOp other o
fits-as flow other o widths arrays blocks fits =
    all-weaker (IsMet flow) (IsMet other) (needs o) (λ need m. met flow other need widths arrays blocks m) fits

has-number : (a : About) → IsWord a → HasNumber a
has-number NothingElse h = tt
has-number (TheNumber n) h = h
has-number (TheWord k) h = omega (arith, h)
has-number (TheObject k) h = tt
has-number (TheFunction f) h = tt
has-number (TheStatement s) h = omega (arith, h)
has-number TheTurn h = tt

pub has-numbers : (o : Op) → NumbersFit o → HasNumbers o
has-numbers o h = has-number (shape o).about h

-- ---- blocks

-- an op is read where it is
read-as : (ops : List Op) (p : ℕ) (o : Op) (b : Bool) → slice_get ops p ≡ Some o → is_end o ≡ b
    → is_end (slice_index_or ops p Turn) ≡ b
read-as ops p o b has e = ap is_end (get_or_from_slice_get ops p o Turn has) ∙ e

block-ruled : (flow : Flow) (home : Home) (address : ℕ → ℕ) (points : List ℕ) → LastIsEnd flow.ops points
    → EndsOnlyLast flow.ops points → IsMapBlock (block_over flow home address points)
block-ruled flow home address [] last only = absurd last
block-ruled flow home address (p ∷ []) last only = read-as flow.ops p last.0 true last.1 last.2
block-ruled flow home address (p ∷ q ∷ points) last only = (
  read-as flow.ops p only.0.0 false only.0.1 only.0.2,
  block-ruled flow home address (q ∷ points) last only.1,
)

pub blocks-ruled : (flow : Flow) (home : Home) (address : ℕ → ℕ) (blocks : List (List ℕ))
    → AllByRecursion (LastIsEnd flow.ops) blocks
    → ((k : ℕ) → EndsOnlyLast flow.ops (slice_index_or blocks k []))
    → AllByRecursion IsMapBlock (map (block_over flow home address) blocks)
blocks-ruled flow home address [] last only = tt
blocks-ruled flow home address (points ∷ blocks) last only = (
  block-ruled flow home address points last.0 (only 0),
  blocks-ruled flow home address blocks last.1 (λ k. only (suc k)),
)

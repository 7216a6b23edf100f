-- The moves of variables from a point to one that follows it, and instructions that make them.
use Rattle.std.specs.Prelude.{◌≡◌, ◌≢◌, ◌⊎◌, ℕ, List, Option, Some, None}
use Rattle.std.specs.List.{AllZip}
use Rattle.ia32_insn.specs.declared.insn.Insn.{Insn}
use Rattle.ia32_insn.specs.Places.{Place}
use Rattle.flow_graph.specs.Graphs.{Flow, HasWidth, IsDistinct, IsIn}
use Rattle.flow_graph.specs.Liveness.{IsSuccessor}
use Rattle.puzzle_board.specs.Places.{PlaceMap}
use Rattle.ia32_laws.specs.Supports.{AreMoves}
use Rattle.ia32_placements.specs.Placed.{placement_in}
use Rattle.ia32_placements.specs.Standings.{standing_after, standing_before}
use Rattle.parallel_copies.specs.declared.moves.Move.{Move}
use Rattle.parallel_copies.specs.Copies.{source, target}
use Rattle.ia32_select.specs.declared.edges.Edge.{Edge}
use Rattle.ia32_select.specs.Selections.{CanSelect}

-- ---- from a point to the next

-- the second point follows the first, in a graph whose items may be selected over the map
pub record IsEdge (edge : Edge) : Type 0 where
  pub selects : CanSelect edge.graph.now edge.map.now
  pub leads : IsSuccessor edge.graph.now edge.point edge.next

-- The move brings the variable from its place after the point to another one, which it has before the next point.
pub record IsMoveOf (flow : Flow) (places : PlaceMap) (point next v : ℕ) (m : Move) : Type 0 where
  pub width : HasWidth flow v m.width
  pub from : standing_after places point v ≡ Some (source m)
  pub to : standing_before places next v ≡ Some (target m)
  pub changes : source m ≢ target m

-- the variable stands already where it is wanted next, or is wanted nowhere
abbrev pub Stays : PlaceMap → ℕ → ℕ → ℕ → Type 0
Stays places point next v =
    (new : Place) → standing_before places next v ≡ Some new → standing_after places point v ≡ Some new

-- the move of the variable, or none where it stays
abbrev pub IsItsMove : Flow → PlaceMap → ℕ → ℕ → ℕ → Option Move → Type 0
IsItsMove flow places point next v None = Stays places point next v
IsItsMove flow places point next v (Some m) = IsMoveOf flow places point next v m

-- the variable is among those that move, or stays
abbrev pub IsMinded : PlaceMap → ℕ → ℕ → List ℕ → ℕ → Type 0
IsMinded places point next vs v = IsIn v vs ⊎ Stays places point next v

-- the moves of these variables, in order, each of another one
pub record AreMovesOf (flow : Flow) (places : PlaceMap) (point next : ℕ) (vs : List ℕ) (moves : List Move) : Type 0
  where
    pub each : AllZip (IsMoveOf flow places point next) vs moves
    pub once : IsDistinct vs

-- the moves of these variables, and all others stay
pub record AreAllMoves (flow : Flow) (places : PlaceMap) (point next : ℕ) (vs : List ℕ) (moves : List Move) : Type 0
  where
    pub moves_of : AreMovesOf flow places point next vs moves
    pub all : (v : ℕ) → IsMinded places point next vs v

-- Every variable that was among the moving ones or stays is one of these, and so is this one.
pub record Minds (places : PlaceMap) (point next v : ℕ) (old new : List ℕ) : Type 0 where
  pub this : IsMinded places point next new v
  pub others : (w : ℕ) → IsIn w old → IsIn w new

-- the instructions bring each variable from its place after the point to its place before the next one
abbrev pub AreBetween : Flow → PlaceMap → ℕ → ℕ → List Insn → Type 0
AreBetween flow places point next insns = AreMoves flow (placement_in flow places (λ from to. insns)) point next

-- ---- from a point

-- these are the points that follow a point, two at most
pub record AreNext (flow : Flow) (point : ℕ) (nexts : Option ℕ × Option ℕ) : Type 0 where
  pub first : (next : ℕ) → nexts.0 ≡ Some next → IsSuccessor flow point next
  pub second : (next : ℕ) → nexts.1 ≡ Some next → IsSuccessor flow point next
  pub all : (next : ℕ) → IsSuccessor flow point next → (nexts.0 ≡ Some next) ⊎ (nexts.1 ≡ Some next)

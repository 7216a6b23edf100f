-- Which variables are spilled at a point: the shortest prefix of the spill order without which the board is solvable.
use Rattle.std.specs.Prelude.{ℕ, suc, ◌≡◌, ◌≢◌, ◌↔◌, Bool, true, false, List, map, Option, Some, None, slice_get}
use Rattle.std.specs.List.{AllByRecursion}
use Rattle.flow_graph.specs.Lives.{IsAscending}
use Rattle.flow_liveness.specs.Distances.{distance_at}
use Rattle.flow_graph.specs.declared.op.Op.{Op}
use Rattle.flow_graph.specs.Graphs.{Flow, IsDistinct, IsIn}
use Rattle.flow_graph.specs.Liveness.{AfterUse, IsDistance, IsUsedAt}
use Rattle.flow_graph.specs.Lives.{Lives}
use Rattle.puzzle_board.specs.declared.piece.Piece.{Piece}
use Rattle.allocator.specs.PointBoards.{point_pieces}
use Rattle.puzzle_solver.specs.declared.order.Candidate.{Candidate}
use Rattle.puzzle_solver.specs.Orders.{IsSpillOrder}
use Rattle.puzzle_solver.specs.Prefixes.{IsShortest}
use Rattle.allocator.specs.PointPuzzles.{point_puzzle}

-- the distance of a variable at a point; none where no path from there reaches a use
abbrev pub HasDistance : Flow → ℕ → ℕ → Option ℕ → Type 0
HasDistance flow v point (Some n) = IsDistance flow v point n
HasDistance flow v point None = (IsUsedAt flow v point → ⊥) × ((n : ℕ) → AfterUse flow v n point → ⊥)

-- the variable has a piece among these
abbrev pub HasPiece : List Piece → ℕ → Type 0
HasPiece pieces v = (k : ℕ) × (piece : Piece) × (slice_get pieces k ≡ Some piece) × (piece.var ≡ v)

abbrev pub variables_of : List Candidate → List ℕ
variables_of candidates = map (λ c. c.variable) candidates

-- the variables of these pieces, each once and with its distance at the point
pub record AreCandidates (flow : Flow) (point : ℕ) (pieces : List Piece) (candidates : List Candidate) : Type 0 where
  pub once : IsDistinct (variables_of candidates)
  pub each : (v : ℕ) → IsIn v (variables_of candidates) ↔ HasPiece pieces v
  pub distances : (k : ℕ) (c : Candidate) → slice_get candidates k ≡ Some c
      → HasDistance flow c.variable point c.distance

-- These are spilled at the point: the variables of its pieces come in spill order, and this is the shortest prefix
-- without whose pieces the point's board is solvable.
pub record IsSpilledAt (flow : Flow) (lives : Lives) (point : ℕ) (op : Op) (spilled : List ℕ) : Type 0 where
  pub candidates : List Candidate
  pub of_pieces : AreCandidates flow point (point_pieces flow lives point op) candidates
  pub order : List ℕ
  pub ordered : IsSpillOrder candidates order
  pub shortest : IsShortest (point_puzzle flow lives point op) order spilled

-- ---- on the way: for the calls that solve a point

-- the variables of these pieces, ascending, with these distances
pub record AreListed (lists : List (List (ℕ × ℕ))) (point : ℕ) (pieces : List Piece) (candidates : List Candidate)
    : Type 0 where
  pub rising : IsAscending (variables_of candidates)
  pub each : (v : ℕ) → IsIn v (variables_of candidates) ↔ HasPiece pieces v
  pub distances : AllByRecursion (λ c. c.distance ≡ distance_at lists point c.variable) candidates

-- the piece is the first, or the one before it is of another variable
abbrev pub IsNewAt : List Piece → ℕ → Bool → Type 0
IsNewAt pieces place true = (k : ℕ) (p q : Piece) → suc k ≡ place → slice_get pieces k ≡ Some p
    → slice_get pieces place ≡ Some q → p.var ≢ q.var
IsNewAt pieces place false = (q : Piece) → slice_get pieces place ≡ Some q
    → (j : ℕ) × (r : Piece) × (suc j ≡ place) × (slice_get pieces j ≡ Some r) × (r.var ≡ q.var)

-- The board of a point as a puzzle, on which no piece is placed.
use Rattle.std.specs.Prelude.{ℕ, List, map, Option, option_map, slice_get}
use Rattle.flow_graph.specs.declared.op.Op.{Op}
use Rattle.flow_graph.specs.Graphs.{Flow}
use Rattle.flow_graph.specs.Lives.{Lives}
use Rattle.puzzle_board.specs.declared.area.Area.{Area}
use Rattle.puzzle_board.specs.declared.piece.Piece.{Piece}
use Rattle.puzzle_board.specs.declared.piece.Spot.{Spot}
use Rattle.puzzle_board.specs.declared.piece.State.{State}
use Rattle.puzzle_board.specs.declared.piece.State.TheVariants.{Unplaced}
use Rattle.puzzle_board.specs.Boards.{Puzzle}
use Rattle.allocator.specs.PointBoards.{Fixed, areas_of, point_pieces}

-- so many unplaced pieces
abbrev pub unplaced_states : List Piece → List State
unplaced_states pieces = map (λ piece. Unplaced) pieces

-- these areas and these pieces, of which none is placed or removed
abbrev pub puzzle_of : List Area → List Piece → Puzzle
puzzle_of areas pieces = record { areas = areas; pieces = pieces; states = unplaced_states pieces }

-- the puzzle of a point with this op: the areas of the op and the pieces of the point
abbrev pub point_puzzle : Flow → Lives → ℕ → Op → Puzzle
point_puzzle flow lives point op = puzzle_of (areas_of op) (point_pieces flow lives point op)

-- the puzzle of a point, if it has an op
abbrev pub puzzle_at : Flow → Lives → ℕ → Option Puzzle
puzzle_at flow lives point = option_map (point_puzzle flow lives point) (slice_get flow.ops point)

-- the pieces of a point, if it has an op
abbrev pub pieces_at : Flow → Lives → ℕ → Option (List Piece)
pieces_at flow lives point = option_map (point_pieces flow lives point) (slice_get flow.ops point)

-- a fixed piece as its variable and its spot
abbrev pub pair_of : Fixed → ℕ × Spot
pair_of fixed = (fixed.variable, fixed.spot)

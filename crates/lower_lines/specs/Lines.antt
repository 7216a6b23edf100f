-- The lines of a function, and the graph that they are: an op goes to the end of the block that was started last.
use Rattle.std.specs.Prelude.{ℕ, suc, ◌==◌, Bool, false, List, [], ◌∷◌, map, if◌then◌else◌}
use Rattle.std.specs.List.{range_with_len}
use Rattle.pcc_base.specs.declared.run.Width.{Width}
use Rattle.flow_graph.specs.declared.op.Op.{Op}
use Rattle.flow_graph.specs.Graphs.{Flow}

pub data Line : Type 0 where
  -- the ops that follow stand in this block
  Start : (block : ℕ) → Line
  -- an op, at the next point
  Emit : (op : Op) → Line

abbrev pub emitted : List Op → List Line
emitted ops = map Emit ops

-- ---- what the lines have

-- the ops in order: the op of point k is at place k
abbrev pub ops_in : List Line → List Op
ops_in [] = []
ops_in (Start block ∷ lines) = ops_in lines
ops_in (Emit op ∷ lines) = op ∷ ops_in lines

-- the blocks that are started, in order
abbrev pub starts_in : List Line → List ℕ
starts_in [] = []
starts_in (Start block ∷ lines) = block ∷ starts_in lines
starts_in (Emit op ∷ lines) = starts_in lines

-- the block that is open behind the lines, where this one was open before them
abbrev pub open_after : ℕ → List Line → ℕ
open_after block [] = block
open_after block (Start other ∷ lines) = open_after other lines
open_after block (Emit op ∷ lines) = open_after block lines

-- the points of a block, where the first op has this point and stands in it or doesn't
abbrev pub points_from : ℕ → ℕ → Bool → List Line → List ℕ
points_from block point here [] = []
points_from block point here (Start other ∷ lines) = points_from block point (other == block) lines
points_from block point here (Emit op ∷ lines) =
    if here then point ∷ points_from block (suc point) here lines else points_from block (suc point) here lines

-- the points of a block
abbrev pub points_in : ℕ → List Line → List ℕ
points_in block lines = points_from block 0 false lines

-- ---- the graph

-- the graph of the lines, over variables of these widths, these frame arrays, and so many blocks
abbrev pub graph_of_lines : List Width → List (ℕ × ℕ) → ℕ → List Line → Flow
graph_of_lines widths arrays blocks lines = record {
  widths = widths;
  arrays = arrays;
  blocks = map (λ block. points_in block lines) (range_with_len 0 blocks);
  ops = ops_in lines;
}

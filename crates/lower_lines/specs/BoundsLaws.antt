-- Laws on how large graphs are, and on the order of their points, beside those of `lower_lines`.
use Rattle.std.specs.Prelude.{◌≡◌, ◌<◌, ◌≤◌, ℕ, ◌*◌, List, length, slice_get, Some}
use Rattle.std.specs.List.{All, AllByRecursion}
use Rattle.c_tree.specs.Program.{Function, Program}
use Rattle.c_tree.specs.Sizes.{function_size}
use Rattle.c_tree.specs.WellTyped.{WellTyped}
use Rattle.flow_graph.specs.Graphs.{EndsOnlyLast, Flow, IsArray, IsDistinct, LastIsEnd, points_of}
use Rattle.flow_graph.specs.WellFormed.{NamesWithin}
use Rattle.lower_lines.specs.Programs.{graph_of_function, lowered}

-- ---- the order of points

-- what the points of a block keep: each is at home there, none stands twice, and an end stands only last
pub record IsOrdered (flow : Flow) (homes : List ℕ) (block : ℕ) : Type 0 where
  pub at_home : AllByRecursion (λ p. slice_get homes p ≡ Some block) (points_of flow block)
  pub once : IsDistinct (points_of flow block)
  pub ends : EndsOnlyLast flow.ops (points_of flow block)

-- what a graph keeps, but for what its ops name: each point has one block, each block is ended, there is a first
-- block, and frame arrays have elements
pub record IsLaidOut (flow : Flow) : Type 0 where
  pub homes : List ℕ
  pub one_home : length homes ≡ length flow.ops
  pub each_block : (block : ℕ) → IsOrdered flow homes block
  pub begins : 0 < length flow.blocks
  pub ended : All (LastIsEnd flow.ops) flow.blocks
  pub arrays_fit : AllByRecursion IsArray flow.arrays

-- the graphs of a typed program are laid out so
abbrev pub GraphsAreLaidOut : Type 0
GraphsAreLaidOut = (p : Program) → WellTyped p → (k : ℕ) (f : Function) → slice_get p.functions k ≡ Some f
    → IsLaidOut (graph_of_function p f)

-- A function's graph has at most 20 points for each token of the function, and no more blocks than points.
abbrev pub PointsAreFew : Type 0
PointsAreFew = (p : Program) → WellTyped p → (k : ℕ) (f : Function) → slice_get p.functions k ≡ Some f
    → (length (graph_of_function p f).ops ≤ 20 * function_size f)
    × (length (graph_of_function p f).blocks ≤ length (graph_of_function p f).ops)

-- ---- names

-- the ops of a typed program's graphs name functions and objects of the program alone
abbrev pub NamesAreThere : Type 0
NamesAreThere = (p : Program) → WellTyped p → (k : ℕ) (f : Function) → slice_get p.functions k ≡ Some f
    → All (NamesWithin (length (lowered p).functions) (length (lowered p).objects)) (graph_of_function p f).ops

-- What a contract sees of a graph, which ops fit in it, what each call leaves, and what every graph keeps.
use Rattle.std.specs.Prelude.{ℕ, ◌≡◌, ◌≢◌, ◌<◌, ◌≤◌, ◌⊎◌, Bool, true, false, cond, eqb, List, [], ◌∷◌, ◌++◌, length}
use Rattle.std.specs.Prelude.{Option, Some, None, slice_get, slice_set, slice_index_or, FitsSigned}
use Rattle.std.specs.Int.{w32}
use Rattle.std.specs.List.{AllByRecursion, position_or_len}
use Rattle.pcc_base.specs.declared.run.Width.{Width}
use Rattle.flow_graph.specs.declared.op.Op.{Op}
use Rattle.flow_graph.specs.Shapes.{Need, Variable, AnyWidth, SameWidth, FrameArray, Target, shape}
use Rattle.flow_graph.specs.Shapes.{About, NothingElse, TheNumber, TheWord, TheObject, TheFunction, TheStatement}
use Rattle.flow_graph.specs.Shapes.{TheTurn, Leads, Onward, IntoCall, ToBlock, ToEither, OutOfCall, OutOfProgram}

-- a graph: the widths of its variables, the element width and the count of each frame array, the points
-- of each block in order, and the op of each point that was ever made
pub record Flow : Type 0 where
  pub widths : List Width
  pub arrays : List (ℕ × ℕ)
  pub blocks : List (List ℕ)
  pub ops : List Op

-- the graph that nothing was added to: one empty block
abbrev pub empty_flow : Flow
empty_flow = record { widths = []; arrays = []; blocks = [] ∷ []; ops = [] }

-- the point is among the points
abbrev pub IsIn : ℕ → List ℕ → Type 0
IsIn point [] = ⊥
IsIn point (p ∷ ps) = (p ≡ point) ⊎ IsIn point ps

-- no point stands twice
abbrev pub IsDistinct : List ℕ → Type 0
IsDistinct [] = Unit {0}
IsDistinct (p ∷ ps) = AllByRecursion (λ q. q ≢ p) ps × IsDistinct ps

-- what each op asks for
abbrev pub needs : Op → List Need
needs op = (shape op).asks

-- control doesn't come to the next point
abbrev pub ends_block : Leads → Bool
ends_block Onward = false
ends_block (IntoCall result words) = false
ends_block (ToBlock x) = true
ends_block (ToEither x y) = true
ends_block OutOfCall = true
ends_block OutOfProgram = true

-- the ops that end a block
abbrev pub is_end : Op → Bool
is_end op = ends_block (shape op).leads

-- the variable is there, with this width
abbrev pub HasWidth : Flow → ℕ → Width → Type 0
HasWidth flow v width = slice_get flow.widths v ≡ Some width

-- the graph has what is asked for
abbrev pub IsMet : Flow → Need → Type 0
IsMet flow (Variable v width) = HasWidth flow v width
IsMet flow (AnyWidth v) = (width : Width) × HasWidth flow v width
IsMet flow (SameWidth d s) = (width : Width) × HasWidth flow d width × HasWidth flow s width
IsMet flow (FrameArray k) = k < length flow.arrays
IsMet flow (Target x) = x < length flow.blocks

-- a number, and those of objects, functions, argument words and statements, are of 32 bits
abbrev pub IsWord : About → Type 0
IsWord NothingElse = Unit {0}
IsWord (TheNumber n) = FitsSigned w32 n
IsWord (TheWord k) = k < 0x1_0000_0000
IsWord (TheObject k) = k < 0x1_0000_0000
IsWord (TheFunction f) = f < 0x1_0000_0000
IsWord (TheStatement s) = s < 0x1_0000_0000
IsWord TheTurn = Unit {0}

-- what the op is about has 32 bits
abbrev pub NumbersFit : Op → Type 0
NumbersFit op = IsWord (shape op).about

-- the variables, arrays and blocks that the op names are there, with the widths that it asks for
abbrev pub FitsOp : Flow → Op → Type 0
FitsOp flow op = AllByRecursion (IsMet flow) (needs op)

-- the points of a block in order
abbrev pub points_of : Flow → ℕ → List ℕ
points_of flow block = slice_index_or flow.blocks block []

-- the point is in the block
abbrev pub Stands : Flow → ℕ → ℕ → Type 0
Stands flow point block = IsIn point (points_of flow block)

-- the point is in some block
abbrev pub IsPlaced : Flow → ℕ → Type 0
IsPlaced flow point = (block : ℕ) × Stands flow point block

-- the point has an op that is an end
abbrev pub IsEndAt : List Op → ℕ → Type 0
IsEndAt ops point = (op : Op) × (slice_get ops point ≡ Some op) × (is_end op ≡ true)

-- the point has an op that is no end
abbrev pub IsPlainAt : List Op → ℕ → Type 0
IsPlainAt ops point = (op : Op) × (slice_get ops point ≡ Some op) × (is_end op ≡ false)

-- the last of these points has an end
abbrev pub LastIsEnd : List Op → List ℕ → Type 0
LastIsEnd ops [] = ⊥
LastIsEnd ops (p ∷ []) = IsEndAt ops p
LastIsEnd ops (p ∷ q ∷ ps) = LastIsEnd ops (q ∷ ps)

-- the block's last op is an end
abbrev pub IsEnded : Flow → ℕ → Type 0
IsEnded flow block = LastIsEnd flow.ops (points_of flow block)

-- all of these points but the last have ops that are no ends
abbrev pub EndsOnlyLast : List Op → List ℕ → Type 0
EndsOnlyLast ops [] = Unit {0}
EndsOnlyLast ops (p ∷ []) = Unit {0}
EndsOnlyLast ops (p ∷ q ∷ ps) = IsPlainAt ops p × EndsOnlyLast ops (q ∷ ps)

-- the points, with another right after the first that equals `point`
abbrev pub insert_after : ℕ → ℕ → List ℕ → List ℕ
insert_after point new [] = []
insert_after point new (p ∷ ps) = cond (eqb p point) (p ∷ new ∷ ps) (p ∷ insert_after point new ps)

-- the points without the first that equals `point`
abbrev pub without : ℕ → List ℕ → List ℕ
without point [] = []
without point (p ∷ ps) = cond (eqb p point) ps (p ∷ without point ps)

-- the point right after the first that equals `point`
abbrev pub following : ℕ → List ℕ → Option ℕ
following point [] = None
following point (p ∷ ps) = cond (eqb p point) (slice_get ps 0) (following point ps)

-- the point is among the points
abbrev pub has_point : ℕ → List ℕ → Bool
has_point point [] = false
has_point point (p ∷ ps) = cond (eqb p point) true (has_point point ps)

-- the first block that has the point, or how many blocks there are
abbrev pub block_of : Flow → ℕ → ℕ
block_of flow point = position_or_len (has_point point) flow.blocks

-- the point right after a point, in the block that has it
abbrev pub next_in : Flow → ℕ → Option ℕ
next_in flow point = following point (points_of flow (block_of flow point))

-- the graph with one more variable
abbrev pub with_variable : Flow → Width → Flow
with_variable flow width = record {
  widths = flow.widths ++ width ∷ [];
  arrays = flow.arrays;
  blocks = flow.blocks;
  ops = flow.ops;
}

-- the graph with one more frame array
abbrev pub with_array : Flow → ℕ → ℕ → Flow
with_array flow width count = record {
  widths = flow.widths;
  arrays = flow.arrays ++ (width, count) ∷ [];
  blocks = flow.blocks;
  ops = flow.ops;
}

-- the graph with one more block, which is empty
abbrev pub with_block : Flow → Flow
with_block flow = record { widths = flow.widths; arrays = flow.arrays; blocks = flow.blocks ++ [] ∷ []; ops = flow.ops }

-- the graph with one more op, and these points in a block
abbrev pub with_points : Flow → ℕ → List ℕ → Op → Flow
with_points flow block points op = record {
  widths = flow.widths;
  arrays = flow.arrays;
  blocks = slice_set flow.blocks block points;
  ops = flow.ops ++ op ∷ [];
}

-- the graph with a new point at the end of a block
abbrev pub with_op : Flow → ℕ → Op → Flow
with_op flow block op = with_points flow block (points_of flow block ++ length flow.ops ∷ []) op

-- the graph with a new point right after a point of a block
abbrev pub with_op_after : Flow → ℕ → ℕ → Op → Flow
with_op_after flow block point op = with_points flow block
    (insert_after point (length flow.ops) (points_of flow block)) op

-- the graph with a new point right after a point, in the block that has it
abbrev pub with_op_behind : Flow → ℕ → Op → Flow
with_op_behind flow point op = with_op_after flow (block_of flow point) point op

-- the graph with a point removed from a block; its op stays, and its number is not used again
abbrev pub without_point_of : Flow → ℕ → ℕ → Flow
without_point_of flow block point = record {
  widths = flow.widths;
  arrays = flow.arrays;
  blocks = slice_set flow.blocks block (without point (points_of flow block));
  ops = flow.ops;
}

-- the graph with a point removed from the block that has it
abbrev pub without_point : Flow → ℕ → Flow
without_point flow point = without_point_of flow (block_of flow point) point

-- the point has an op, and it fits
abbrev pub HasFittingOp : Flow → ℕ → Type 0
HasFittingOp flow point = (op : Op) × (slice_get flow.ops point ≡ Some op) × FitsOp flow op

-- a frame array: elements of 1, 2 or 4 bytes, and at least one of them
abbrev pub IsArray : ℕ × ℕ → Type 0
IsArray array = ((array.0 ≡ 1) ⊎ (array.0 ≡ 2) ⊎ (array.0 ≡ 4)) × (1 ≤ array.1)

-- What a block keeps, where `homes` has the block of each point: its points are at home here, each has an
-- op that fits, none stands twice, and an end stands only last.
pub record IsBlock (flow : Flow) (homes : List ℕ) (block : ℕ) (points : List ℕ) : Type 0 where
  pub at_home : AllByRecursion (λ p. slice_get homes p ≡ Some block) points
  pub fits : AllByRecursion (HasFittingOp flow) points
  pub once : IsDistinct points
  pub ends : EndsOnlyLast flow.ops points

-- What every graph keeps, where `homes` has the block of each point, so that no point is in two blocks: each
-- block keeps the above, each frame array is one, the numbers of each op fit, and the variables, arrays, elements of an
-- array, blocks and points are at most 0xffffffff.
pub record IsFlow (flow : Flow) (homes : List ℕ) : Type 0 where
  pub one_home : length homes ≡ length flow.ops
  pub each_block : (block : ℕ) → IsBlock flow homes block (points_of flow block)
  pub arrays_fit : AllByRecursion IsArray flow.arrays
  pub few_elements : AllByRecursion (λ array. array.1 ≤ 0xffffffff) flow.arrays
  pub numbers : AllByRecursion NumbersFit flow.ops
  pub few_variables : length flow.widths ≤ 0xffffffff
  pub few_arrays : length flow.arrays ≤ 0xffffffff
  pub few_blocks : length flow.blocks ≤ 0xffffffff
  pub few_points : length flow.ops ≤ 0xffffffff

-- ---- laws

-- a point stands in one block, which is the one that has it
abbrev pub OneBlock : Type 0
OneBlock =
    (flow : Flow) (homes : List ℕ) → IsFlow flow homes → (point block : ℕ) → Stands flow point block
    → block_of flow point ≡ block

-- the next point is the one behind it, in whichever block it stands
abbrev pub NextInBlock : Type 0
NextInBlock =
    (flow : Flow) (homes : List ℕ) → IsFlow flow homes → (point block : ℕ) → Stands flow point block
    → next_in flow point ≡ following point (points_of flow block)

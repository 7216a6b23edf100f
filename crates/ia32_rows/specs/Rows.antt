-- The items of a graph's points, by where its variables stand before and after each of them. A row works in one
-- register, and takes its second operand where it stands.
use Rattle.std.specs.Prelude.{◌≤◌, ◌⊎◌, ◌+◌, ℕ, suc, List, [], ◌∷◌, ◌++◌, length, map}
use Rattle.std.specs.Prelude.{slice_get, slice_index_or, Option, Some, None, option_map, unwrap_or}
use Rattle.ia32_insn.specs.declared.register_names.Reg32.TheVariants.{Eax, Edx}
use Rattle.ia32_insn.specs.Places.{Place, InSlot}
use Rattle.ia32_insn.specs.declared.insn.AluOp.TheVariants as alu
use Rattle.ia32_insn.specs.declared.insn.Insn.TheVariants as insn
use Rattle.ia32_insn.specs.declared.insn.ShiftOp.TheVariants as shift
use Rattle.ia32_insn.specs.declared.item.Item.{Item}
use Rattle.ia32_insn.specs.declared.item.Item.TheVariants as item
use Rattle.ia32_insn.specs.Items.{plain}
use Rattle.flow_graph.specs.declared.op.Op.{Op}
use Rattle.flow_graph.specs.declared.op.Op.TheVariants as op
use Rattle.flow_graph.specs.Graphs.{Flow, points_of}
use Rattle.ia32_rows.specs.Placements.{Placement}
pub use Rattle.ia32_rows.specs.Moves.{scratch, is_in, is_at, read, write, operate, working, has_operand, target_of}
pub use Rattle.ia32_rows.specs.Moves.{number_row, copy_row, by_register, in_slot, operation, commuting, sum_of, adding}
pub use Rattle.ia32_rows.specs.Moves.{pass}
pub use Rattle.ia32_rows.specs.Computing.{multiply, product_of, multiplying, changing, low_byte, byte_operand, extend}
pub use Rattle.ia32_rows.specs.Computing.{widening, lowering}
pub use Rattle.ia32_rows.specs.Computing.{extend_half, halving, into_count, shifted_in, shifting, clear_divisor}
pub use Rattle.ia32_rows.specs.Computing.{divisor_of, zero_edx, before_division, dividing, cond_of, cond_of_order}
pub use Rattle.ia32_rows.specs.Computing.{comparing, set_row, setting}
pub use Rattle.ia32_rows.specs.Computing.{branching, choosing, jumping, same_row}
pub use Rattle.ia32_rows.specs.Passing.{putchar_row, getchar_row, exit_row, argument_word, param_row, pass_all}
pub use Rattle.ia32_rows.specs.Passing.{depth_number, deepen, undeepen, drop_words, write_any, before_call}
pub use Rattle.ia32_rows.specs.Passing.{behind_call, call_row, leave, return_row, zeroing, prologue, headers}
pub use Rattle.ia32_rows.specs.Accesses.{frame_row, static_row, loading, load_from, storing, store_to, get_row, put_row}
pub use Rattle.ia32_rows.specs.Accesses.{index_register, count_before, element, check_array, check_index, checking}
pub use Rattle.ia32_rows.specs.Accesses.{load_row, store_at, store_row}
pub use Rattle.ia32_rows.specs.Clearing.{clear_row, size_of}

-- ---- slots

-- two slots have no byte in common
abbrev pub AreApart : ℕ → ℕ → Type 0
AreApart first second = (first + 4 ≤ second) ⊎ (second + 4 ≤ first)

-- ---- the items of an op

-- The items of an op, by the label of its loop or detour, if it has one, the moves on its way to each block, the frame
-- arrays and how far below EBP they stand, and the places of variables before and after it.
abbrev pub items_between : ℕ → (ℕ → List Item) → List (ℕ × ℕ) → List ℕ → (ℕ → Place) → (ℕ → Place) → Op → List Item
items_between label moves arrays distances before after (op.Const d n) = number_row (after d) n
items_between label moves arrays distances before after (op.Copy d s) = copy_row (before s) (after d)
items_between label moves arrays distances before after (op.Wide d s) =
    widening insn.MovSx8 (after d) (before s)
items_between label moves arrays distances before after (op.Zero d s) =
    widening insn.MovZx8 (after d) (before s)
items_between label moves arrays distances before after (op.Low d s) = lowering (after d) (before s)
items_between label moves arrays distances before after (op.Low16 d s) = halving (after d) (before s)
items_between label moves arrays distances before after (op.Neg d s) = changing insn.Neg (after d) (before s)
items_between label moves arrays distances before after (op.Not d s) = changing insn.Not (after d) (before s)
items_between label moves arrays distances before after (op.Add d a b) = adding (after d) (before a) (before b)
items_between label moves arrays distances before after (op.Sub d a b) =
    operation alu.Sub (after d) (before a) (before b)
items_between label moves arrays distances before after (op.Mul d a b) = multiplying (after d) (before a) (before b)
items_between label moves arrays distances before after (op.And d a b) =
    commuting alu.And (after d) (before a) (before b)
items_between label moves arrays distances before after (op.Or d a b) = commuting alu.Or (after d) (before a) (before b)
items_between label moves arrays distances before after (op.Xor d a b) =
    commuting alu.Xor (after d) (before a) (before b)
items_between label moves arrays distances before after (op.Shl d a c) =
    shifting shift.Shl (after d) (before a) (before c)
items_between label moves arrays distances before after (op.Sar d a c) =
    shifting shift.Sar (after d) (before a) (before c)
items_between label moves arrays distances before after (op.Shr d a c) =
    shifting shift.Shr (after d) (before a) (before c)
items_between label moves arrays distances before after (op.Div d a b) =
    dividing insn.Cdq insn.IDiv Eax (after d) (before a) (before b)
items_between label moves arrays distances before after (op.Rem d a b) =
    dividing insn.Cdq insn.IDiv Edx (after d) (before a) (before b)
items_between label moves arrays distances before after (op.Udiv d a b) =
    dividing zero_edx insn.Div Eax (after d) (before a) (before b)
items_between label moves arrays distances before after (op.Urem d a b) =
    dividing zero_edx insn.Div Edx (after d) (before a) (before b)
items_between label moves arrays distances before after (op.Set how d a b) =
    setting (cond_of how) (after d) (before a) (before b)
items_between label moves arrays distances before after (op.Setu how d a b) =
    setting (cond_of_order how) (after d) (before a) (before b)
items_between label moves arrays distances before after (op.Param d k) = param_row (after d) k
items_between label moves arrays distances before after (op.Call d f arguments) =
    call_row (option_map after d) f (map before arguments)
items_between label moves arrays distances before after (op.Putchar d s) = putchar_row (after d) (before s)
items_between label moves arrays distances before after (op.Getchar d) = getchar_row (after d)
items_between label moves arrays distances before after (op.Exit s) = exit_row (before s)
items_between label moves arrays distances before after (op.Same a b) = same_row (before a) (before b)
items_between label moves arrays distances before after (op.Mark s) = plain insn.Nop ∷ []
items_between label moves arrays distances before after op.Turn = plain insn.Nop ∷ []
items_between label moves arrays distances before after (op.Jump x) = jumping (moves x) x
items_between label moves arrays distances before after (op.Branch how a b x y) =
    branching (cond_of how) label (before a) (before b) (moves x) (moves y) x y
items_between label moves arrays distances before after (op.Branchu how a b x y) =
    branching (cond_of_order how) label (before a) (before b) (moves x) (moves y) x y
items_between label moves arrays distances before after (op.Return (Some a)) = return_row (before a)
items_between label moves arrays distances before after (op.Return None) = leave
items_between label moves arrays distances before after (op.Frame d k) =
    frame_row (after d) (slice_index_or distances k 0)
items_between label moves arrays distances before after (op.Static d k) = static_row (after d) k
items_between label moves arrays distances before after (op.Load bits d p i) =
    load_row bits (after d) (before p) (before i)
items_between label moves arrays distances before after (op.Store bits p i s) =
    store_row bits (before p) (before i) (before s)
items_between label moves arrays distances before after (op.Get bits d k) = get_row bits (after d) k
items_between label moves arrays distances before after (op.Put bits k s) = put_row bits k (before s)
items_between label moves arrays distances before after (op.Clear k) =
    clear_row label (slice_index_or distances k 0) (size_of (slice_index_or arrays k (0, 0)))

-- where a variable stands before a point, and after it; one that stands nowhere is at EBP, where no variable stands
abbrev pub place_before : Placement → ℕ → ℕ → Place
place_before placement point v = unwrap_or (placement.before point v) (InSlot 0)

abbrev pub place_after : Placement → ℕ → ℕ → Place
place_after placement point v = unwrap_or (placement.after point v) (InSlot 0)

-- ---- labels

-- Block k has the label k, the loop of the first items the number behind those of the blocks, and the loop or detour of
-- a point the one that is so far behind that.
abbrev pub entry_label : Flow → ℕ
entry_label flow = length flow.blocks

abbrev pub loop_label : Flow → ℕ → ℕ
loop_label flow point = suc (length flow.blocks) + point

-- ---- moves

-- those from a point to the next one, if there is one
abbrev pub moves_to : Placement → ℕ → Option ℕ → List Item
moves_to placement point None = []
moves_to placement point (Some next) = map item.Plain (placement.between point next)

-- and to the first point of a block
abbrev pub moves_into : Flow → Placement → ℕ → ℕ → List Item
moves_into flow placement point block = moves_to placement point (slice_get (points_of flow block) 0)

-- ---- the items of a graph

-- the items of an op at a point
abbrev pub row : Flow → Placement → ℕ → Op → List Item
row flow placement point o =
    items_between (loop_label flow point) (moves_into flow placement point) flow.arrays placement.arrays
    (place_before placement point) (place_after placement point) o

-- a point and the items of its op
abbrev pub point_row : Flow → Placement → ℕ → List Item
point_row flow placement point =
    item.Point point ∷ row flow placement point (slice_index_or flow.ops point op.Turn)

-- those of a block's points in order, and the moves from each to the next
abbrev pub point_rows : Flow → Placement → List ℕ → List Item
point_rows flow placement [] = []
point_rows flow placement (point ∷ points) =
    point_row flow placement point
    ++ (moves_to placement point (slice_get points 0) ++ point_rows flow placement points)

-- the blocks from a number on, each behind its label
abbrev pub block_rows : Flow → Placement → ℕ → List (List ℕ) → List Item
block_rows flow placement k [] = []
block_rows flow placement k (points ∷ blocks) =
    (item.Label k ∷ point_rows flow placement points) ++ block_rows flow placement (suc k) blocks

-- The items of a graph whose variables and frame arrays stand in these places: its first items, the number of each
-- array's elements, and its blocks.
abbrev pub selected : Flow → Placement → List Item
selected flow placement =
    prologue placement.frame placement.zeroed (entry_label flow)
    ++ (headers flow.arrays placement.arrays ++ block_rows flow placement 0 flow.blocks)

-- The items of a graph over a map of it.
use Rattle.std.specs.Prelude.{◌≡◌, ◌≤◌, ◌<◌, ◌+◌, ◌*◌, ◌^◌, ℕ, List, length}
use Rattle.flow_graph.specs.Graphs.{Flow}
use Rattle.flow_graph.specs.Sizes.{most_words}
use Rattle.flow_graph.specs.WellFormed.{IsGraph}
use Rattle.puzzle_board.specs.Places.{PlaceMap}
use Rattle.allocator.specs.PointMaps.{IsLegalMap, bytes_of_arrays}
use Rattle.ia32_insn.specs.declared.insn.Insn.{Insn}
use Rattle.ia32_insn.specs.declared.item.Item.{Item}
use Rattle.ia32_rows.specs.Rows.{selected}
use Rattle.ia32_laws.specs.Supports.{Supports}
use Rattle.ia32_placements.specs.Placed.{placement_in}
use Rattle.ia32_select.specs.Sizes.{IsCodeIn}

-- What selecting the items of a graph over a map asks: the map is legal, it is of the graph's points and variables, a call
-- takes at most 0x4000 bytes of the stack even if each variable has a slot, and blocks and points are numbered in 32 bits
-- together.
pub record CanSelect (flow : Flow) (places : PlaceMap) : Type 0 where
  pub legal : IsLegalMap flow places
  pub points : length places.before ≡ length flow.ops
  pub variables : length places.slots ≡ length flow.widths
  pub small : 24 + 4 * length flow.widths + 4 * most_words flow.ops + bytes_of_arrays flow.arrays ≤ 0x4000
  pub labels : length flow.blocks + length flow.ops < 2 ^ 32

-- The items of a graph over a map: those that the definitions name, with some instructions between its points that move
-- each variable to where it is wanted next. They can be assembled, and name functions and objects of the graph's program
-- alone.
pub record IsSelection (flow : Flow) (places : PlaceMap) (items : List Item) : Type 0 where
  pub between : ℕ → ℕ → List Insn
  pub supports : Supports flow (placement_in flow places between)
  pub items_are : items ≡ selected flow (placement_in flow places between)
  pub code : (functions objects : ℕ) → IsGraph functions objects flow → IsCodeIn functions objects flow items

-- Graphs that all passes take, and code over maps of where their variables stand.
use Rattle.std.specs.Prelude.{◌≡◌, ◌<◌, ◌≤◌, ◌+◌, ◌*◌, ◌^◌, ℕ, List, length, slice_get, sum_by, Option, Some}
use Rattle.std.specs.List.{All}
use Rattle.flow_graph.specs.Graphs.{Flow}
use Rattle.flow_graph.specs.Sizes.{most_words}
use Rattle.flow_graph.specs.States.{GraphProgram}
use Rattle.flow_graph.specs.WellFormed.{IsGraph}
use Rattle.puzzle_board.specs.Places.{PlaceMap}
use Rattle.allocator.specs.Allocations.{NothingFirst}
use Rattle.allocator.specs.PointMaps.{FrameUse, bytes_of_arrays}
use Rattle.allocator.specs.SplitForms.{FixedOperandsDie}
use Rattle.elf_link.specs.Parts.{objects_size}
use Rattle.ia32_insn.specs.declared.insn.Insn.{Insn}
use Rattle.ia32_insn.specs.declared.item.Item.{Item}
use Rattle.ia32_laws.specs.Supports.{Supports}
use Rattle.ia32_placements.specs.Placed.{placement_in}
use Rattle.ia32_rows.specs.Placements.{Code, IsCode, Placement, objects_of, placement_of}
use Rattle.ia32_rows.specs.Rows.{selected}
use Rattle.ia32_select.specs.Sizes.{most_bytes}

-- The graph is one of a program of so many functions and objects. A call takes at most 0x4000 bytes of the stack, even
-- if each variable has a slot: the return address and EBP, the frame, and the argument words that it passes. Its blocks
-- and points are numbered in 31 bits together. Fixed operands die at their ops, and nothing is live at the first point.
pub record HasFrame (functions objects : ℕ) (flow : Flow) : Type 0 where
  pub graph : IsGraph functions objects flow
  pub small : 24 + 4 * length flow.widths + 4 * most_words flow.ops + bytes_of_arrays flow.arrays ≤ 0x4000
  pub labels : length flow.blocks + length flow.ops < 2 ^ 31
  pub dies : FixedOperandsDie flow
  pub nothing_first : NothingFirst flow

-- So are all graphs of a program, which has no more functions than tokens, and fewer than 2 ^ 30 bytes of code.
pub record HaveFrames (program : GraphProgram) : Type 0 where
  pub each : All (HasFrame (length program.functions) (length program.objects)) program.functions
  pub few : length program.functions ≤ 0x10000
  pub code : sum_by most_bytes program.functions < 2 ^ 30

-- The items of a graph are over this placement: it is that of a map of the graph, whose frame is used by its rule, with
-- some instructions between points, and it supports the graph.
pub record IsOverMap (flow : Flow) (placement : Placement) (items : Option (List Item)) : Type 0 where
  pub places : PlaceMap
  pub between : ℕ → ℕ → List Insn
  pub variables : length places.slots ≡ length flow.widths
  pub frame : FrameUse flow places
  pub supports : Supports flow (placement_in flow places between)
  pub placement_is : placement ≡ placement_in flow places between
  pub items_are : items ≡ Some (selected flow (placement_in flow places between))

-- The code of a program, whose graphs have their items over such placements, is laid out in a text that is shorter than
-- 2 ^ 30 bytes and the start and the routines.
pub record IsCodeOverMaps (code : Code) : Type 0 where
  pub laid : IsCode code
  pub each : (k : ℕ) (flow : Flow) → slice_get code.program.functions k ≡ Some flow
      → IsOverMap flow (placement_of code k) (slice_get code.items k)
  pub fits : length code.text < 2 ^ 30 + 0x400
  pub held : objects_size (objects_of code.program) ≤ 0x01000000

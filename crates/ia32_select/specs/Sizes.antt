-- How many bytes the code of a graph may have, and what an assembler and a linker ask of its items.
use Rattle.std.specs.Prelude.{◌≡◌, ◌<◌, ◌≤◌, ◌↔◌, ℕ, ◌+◌, ◌*◌, ◌^◌, List, length, sum_by, slice_get, Some}
use Rattle.ia32_insn.specs.declared.item.Item.{Item}
use Rattle.ia32_insn.specs.declared.item.Item.TheVariants as item
use Rattle.flow_graph.specs.Graphs.{Flow, IsPlaced}
use Rattle.flow_graph.specs.Sizes.{most_words, words_of}
use Rattle.flow_graph.specs.WellFormed.{IsGraph}
use Rattle.ia32_asm.specs.declared.section.Target.{Target}
use Rattle.ia32_asm.specs.Sections.{CanAssemble, Stands, items_size, target_of}
use Rattle.ia32_rows.specs.Placements.{Placement}
use Rattle.ia32_rows.specs.Rows.{selected}
use Rattle.ia32_laws.specs.Supports.{Supports}
use Rattle.elf_link.specs.Parts.{IsThere}

-- 800 for each point, 8 for each argument word that the ops pass, and 16 for each frame array
abbrev pub most_bytes : Flow → ℕ
most_bytes flow = 800 * length flow.ops + 8 * sum_by words_of flow.ops + 16 * length flow.arrays

-- the functions and objects that items name are among so many
abbrev pub NamesThere : ℕ → ℕ → List Item → Type 0
NamesThere functions objects items =
    (j : ℕ) (i : Item) (t : Target) → slice_get items j ≡ Some i → target_of i ≡ Some t → IsThere functions objects t

-- The items are code of a graph in a program of so many functions and objects: they have few bytes, and where these are
-- no more than a section may have, they can be assembled; a point stands among them exactly where it stands in a block;
-- and they name functions and objects of the program alone.
pub record IsCodeIn (functions objects : ℕ) (flow : Flow) (items : List Item) : Type 0 where
  pub size : items_size items ≤ most_bytes flow
  pub assembles : items_size items < 2 ^ 30 → CanAssemble items
  pub points : (p : ℕ) → Stands (item.Point p) items ↔ IsPlaced flow p
  pub names : NamesThere functions objects items

-- Those of every graph are, over any placement that supports it, where a call takes at most 0x4000 bytes of the stack.
abbrev pub SelectedIsCode : Type 0
SelectedIsCode =
    (functions objects : ℕ) (flow : Flow) (placement : Placement) → IsGraph functions objects flow
    → Supports flow placement → 8 + placement.frame + 4 * most_words flow.ops ≤ 0x4000
    → IsCodeIn functions objects flow (selected flow placement)

-- Each block of such a graph has a point, so that there are no more blocks than points.
abbrev pub BlocksAreFew : Type 0
BlocksAreFew =
    (functions objects : ℕ) (flow : Flow) → IsGraph functions objects flow → length flow.blocks ≤ length flow.ops

-- The bytes of a segment's memory (ELF, "Program Header"), and bytes of which the first and the last ones are kept,
-- with zeros between them.
use Rattle.std.specs.Prelude.{◌≡◌, ℕ, ◌+◌, ◌-◌, ◌≤◌, Bool, ◌||◌, List, ◌++◌, length, nat_le, vec_capacity}
use Rattle.pcc_base.specs.Bytes.{zeros}
use Rattle.ia32_memory.specs.declared.cells.Cells.{Cells}

-- the bytes, and then zeros up to this size
unfoldable pub padded : ℕ → List ℕ → List ℕ
padded size bytes = bytes ++ zeros (size - length bytes)

-- so many bytes, of which these are the first and the last, and all others are 0
unfoldable pub laid : ℕ → List ℕ → List ℕ → List ℕ
laid size front back = front ++ zeros (size - (length front + length back)) ++ back

-- the bytes, without how they are kept
abbrev pub cells_seen : Cells → List ℕ
cells_seen cells = laid cells.size cells.front.items cells.back.items

-- no byte is kept twice, and there is room for all as first bytes
abbrev pub AreCells : Cells → Type 0
AreCells cells = (length cells.front.items + length cells.back.items ≤ cells.size)
    × (cells.size ≤ vec_capacity cells.front)

-- the n bytes from a place on are all among the first, or all among the last
abbrev pub is_kept : ℕ → ℕ → Cells → Bool
is_kept offset n cells =
    nat_le (offset + n) (length cells.front.items) || nat_le (cells.size - length cells.back.items) offset

-- the bytes stay, and no fewer of them are first bytes
pub record KeepsMore (old new : Cells) : Type 0 where
  pub same : cells_seen new ≡ cells_seen old
  pub within : AreCells new
  pub size : new.size ≡ old.size
  pub front : length old.front.items ≤ length new.front.items

-- Which place of a map a place of a board is, and which standing a variable with its place.
use Rattle.std.specs.Prelude.{ℕ, suc, ℤ, pos, negsuc, List, map, Option, Some, None}
use Rattle.puzzle_board.specs.declared.piece.Columns.{Columns}
use Rattle.puzzle_board.specs.declared.piece.Columns.TheVariants.{Low, High, All}
use Rattle.puzzle_board.specs.declared.place.Place as boards
use Rattle.puzzle_board.specs.declared.place.Place.TheVariants.{Cells, Slot}
use Rattle.ia32_insn.specs.declared.register_names.Reg32.{Reg32}
use Rattle.ia32_insn.specs.declared.register_names.Reg32.TheVariants.{Esp}
use Rattle.ia32_insn.specs.declared.register_names.Reg8.{Reg8}
use Rattle.ia32_insn.specs.Places.{Place, InWord, InByte, InSlot, word_of_area, low_of_area, high_of_area}
use Rattle.map_text.specs.Maps.{Standing}

-- an area that there isn't gives a register in which no variable stands
abbrev pub word_place : Option Reg32 → Place
word_place None = InWord Esp
word_place (Some r) = InWord r

abbrev pub byte_place : Option Reg8 → Place
byte_place None = InWord Esp
byte_place (Some r) = InByte r

-- all columns of an area are its register, and one column is that byte of it
abbrev pub cells_place : ℕ → Columns → Place
cells_place area All = word_place (word_of_area area)
cells_place area Low = byte_place (low_of_area area)
cells_place area High = byte_place (high_of_area area)

-- how far below 0 a number is; 0 where it isn't
abbrev pub below : ℤ → ℕ
below (pos n) = 0
below (negsuc n) = suc n

-- an offset from EBP is a slot so far below it, and one that isn't negative is no place
abbrev pub place_of : boards.Place → Place
place_of (Cells spot) = cells_place spot.area spot.columns
place_of (Slot offset) = InSlot (below offset)

-- a variable and its place
abbrev pub standing_of : ℕ × boards.Place → Standing
standing_of entry = record { variable = entry.0; place = place_of entry.1 }

abbrev pub standings_of : List (ℕ × boards.Place) → List Standing
standings_of entries = map standing_of entries

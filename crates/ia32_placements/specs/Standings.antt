-- Which registers and slots the places of boards are: columns of an area are a register or a byte of one, and a place
-- in the frame is a slot.
use Rattle.std.specs.Prelude.{ℕ, suc, ℤ, pos, negsuc, Option, Some, None, option_map}
use Rattle.ia32_insn.specs.Places.{Place, InWord, InByte, InSlot, word_of_area, low_of_area, high_of_area}
use Rattle.puzzle_board.specs.declared.piece.Columns.{Columns}
use Rattle.puzzle_board.specs.declared.piece.Columns.TheVariants.{Low, High, All}
use Rattle.puzzle_board.specs.declared.place.Place.{Place as BoardPlace}
use Rattle.puzzle_board.specs.declared.place.Place.TheVariants.{Cells, Slot}
use Rattle.puzzle_board.specs.Places.{PlaceMap}
use Rattle.allocator.specs.PointMaps.{place_before, place_after}

-- the register of an area, or the byte of it that is one column; only areas 0 to 3 are registers
abbrev pub register_at : ℕ → Columns → Option Place
register_at area Low = option_map InByte (low_of_area area)
register_at area High = option_map InByte (high_of_area area)
register_at area All = option_map InWord (word_of_area area)

-- the slot at an offset from EBP, which is negative
abbrev pub slot_at : ℤ → Option Place
slot_at (pos offset) = None
slot_at (negsuc n) = Some (InSlot (suc n))

-- where that place is: a register, a byte of one, or a slot
abbrev pub standing_of : BoardPlace → Option Place
standing_of (Cells spot) = register_at spot.area spot.columns
standing_of (Slot offset) = slot_at offset

abbrev pub standing_if_any : Option BoardPlace → Option Place
standing_if_any None = None
standing_if_any (Some place) = standing_of place

-- where a variable stands before a point, and after it
abbrev pub standing_before : PlaceMap → ℕ → ℕ → Option Place
standing_before places point v = standing_if_any (place_before places point v)

abbrev pub standing_after : PlaceMap → ℕ → ℕ → Option Place
standing_after places point v = standing_if_any (place_after places point v)

-- Which registers and slots a few places are; and a small graph, over a map that is legal for it.
use Rattle.std.specs.Prelude.{◌≡◌, ℕ, pos, negsuc, List, [], ◌∷◌, Some, None}
use Rattle.ia32_insn.specs.declared.insn.Insn.{Insn}
use Rattle.ia32_insn.specs.declared.insn.Insn.TheVariants as insn
use Rattle.ia32_insn.specs.declared.operand.Rm32.TheVariants as rm
use Rattle.ia32_insn.specs.declared.register_names.Reg32.TheVariants.{Eax, Ebx}
use Rattle.ia32_insn.specs.declared.register_names.Reg8.TheVariants.{Ch, Dl}
use Rattle.ia32_insn.specs.Places.{InWord, InByte, InSlot}
use Rattle.puzzle_board.specs.declared.piece.Columns.{Columns}
use Rattle.puzzle_board.specs.declared.piece.Columns.TheVariants.{Low, High, All}
use Rattle.puzzle_board.specs.declared.place.Place.{Place}
use Rattle.puzzle_board.specs.declared.place.Place.TheVariants.{Cells, Slot}
use Rattle.puzzle_board.specs.Places.{PlaceMap}
use Rattle.allocator.specs.WorkedBoards.{at_place, five_in_eax, five_returned, in_area}
use Rattle.ia32_laws.specs.Supports.{AreMoves, Supports}
use Rattle.ia32_placements.specs.Placed.{no_moves, placement_in}
use Rattle.ia32_placements.specs.Standings.{standing_of}

abbrev pub cells : ℕ → Columns → Place
cells area columns = Cells (record { area = area; columns = columns })

-- area 1 is EBX, the high column of area 2 CH and the low one of area 3 DL; there is no area 4; and only an offset
-- below EBP is a slot
abbrev pub PlacesAreRegisters : Type 0
PlacesAreRegisters =
    (standing_of (cells 1 All) ≡ Some (InWord Ebx)) × (standing_of (cells 2 High) ≡ Some (InByte Ch))
    × (standing_of (cells 3 Low) ≡ Some (InByte Dl)) × (standing_of (cells 4 All) ≡ None)
    × (standing_of (Slot (negsuc 19)) ≡ Some (InSlot 20)) × (standing_of (Slot (pos 4)) ≡ None)

-- 5 is put into a variable that stands in EAX behind that point and before the one that returns it: nothing moves.
abbrev pub EaxSupports : Type 0
EaxSupports = Supports five_returned (placement_in five_returned (five_in_eax 16) no_moves)

-- the same variable in EBX before the second point
abbrev pub five_in_ebx : PlaceMap
five_in_ebx = record {
  before = [] ∷ (at_place 0 (in_area 1) ∷ []) ∷ [];
  after = (at_place 0 (in_area 0) ∷ []) ∷ [] ∷ [];
  spilled = [] ∷ [] ∷ [];
  slots = None ∷ [];
  frame = 16;
}

-- there a MOV brings it
abbrev pub one_move : ℕ → ℕ → List Insn
one_move point next = insn.Mov (rm.Reg Ebx) Eax ∷ []

abbrev pub EbxIsMoved : Type 0
EbxIsMoved = AreMoves five_returned (placement_in five_returned five_in_ebx one_move) 0 1

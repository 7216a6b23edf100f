-- Tests of places.
use Rattle.std.specs.Prelude.{ℕ, ◌+◌, ◌%◌, ◌==◌, ◌&&◌, Bool, true, false, nat_lt}
use Rattle.ia32_insn.specs.declared.register_names.Reg32.{Reg32}
use Rattle.ia32_insn.specs.declared.register_names.Reg32.TheVariants.{Eax, Ecx, Edx, Ebx, Esp, Ebp, Esi, Edi}
use Rattle.ia32_insn.specs.Registers.{number32, number8}
use Rattle.ia32_insn.specs.Places.{Place, InWord, InByte, InSlot}

-- two slots of four bytes each have a byte in common
abbrev pub slots_overlap : ℕ → ℕ → Bool
slots_overlap k j = nat_lt k (j + 4) && nat_lt j (k + 4)

-- two places have a byte in common
abbrev pub overlap : Place → Place → Bool
overlap (InWord r) (InWord q) = number32 r == number32 q
overlap (InWord r) (InByte q) = number8 q % 4 == number32 r
overlap (InWord r) (InSlot j) = false
overlap (InByte r) (InWord q) = number8 r % 4 == number32 q
overlap (InByte r) (InByte q) = number8 r == number8 q
overlap (InByte r) (InSlot j) = false
overlap (InSlot k) (InWord q) = false
overlap (InSlot k) (InByte q) = false
overlap (InSlot k) (InSlot j) = slots_overlap k j

-- two places are one register, or one byte of a register
abbrev pub is_same : Place → Place → Bool
is_same (InWord r) (InWord q) = number32 r == number32 q
is_same (InWord r) (InByte q) = false
is_same (InWord r) (InSlot j) = false
is_same (InByte r) (InWord q) = false
is_same (InByte r) (InByte q) = number8 r == number8 q
is_same (InByte r) (InSlot j) = false
is_same (InSlot k) q = false

-- the place is a word of one of the registers for variables
abbrev pub is_general : Place → Bool
is_general (InWord Eax) = true
is_general (InWord Ecx) = true
is_general (InWord Edx) = true
is_general (InWord Ebx) = true
is_general (InWord Esp) = false
is_general (InWord Ebp) = false
is_general (InWord Esi) = false
is_general (InWord Edi) = false
is_general (InByte r) = false
is_general (InSlot k) = false

-- a move from the one to the other changes nothing: both are slots, or they are one place
abbrev pub is_idle : Place → Place → Bool
is_idle (InSlot k) (InSlot j) = true
is_idle (InSlot k) (InWord r) = false
is_idle (InSlot k) (InByte r) = false
is_idle (InWord r) q = is_same (InWord r) q
is_idle (InByte r) q = is_same (InByte r) q

-- The registers as 32 bytes (Intel manual, volume 1, section 3.4.1).
use Rattle.std.specs.Prelude.{◌≡◌, ℕ, ◌+◌, ◌*◌, ◌<◌, List, ◌++◌, length, take, drop, replicate, slice_index}
use Rattle.byteorder.specs.Endian.{little_number, little_bytes}
use Rattle.ia32_insn.specs.declared.register_names.Reg32.{Reg32}
use Rattle.ia32_insn.specs.declared.register_names.Reg32.TheVariants.{Eax, Ecx, Edx, Ebx, Esp, Ebp, Esi, Edi}
use Rattle.ia32_insn.specs.declared.register_names.Reg8.{Reg8}
use Rattle.ia32_insn.specs.declared.register_names.Reg8.TheVariants.{Al, Cl, Dl, Bl, Ah, Ch, Dh, Bh}

-- the number of a register in an instruction
abbrev pub number32 : Reg32 → ℕ
number32 Eax = 0
number32 Ecx = 1
number32 Edx = 2
number32 Ebx = 3
number32 Esp = 4
number32 Ebp = 5
number32 Esi = 6
number32 Edi = 7

abbrev pub number8 : Reg8 → ℕ
number8 Al = 0
number8 Cl = 1
number8 Dl = 2
number8 Bl = 3
number8 Ah = 4
number8 Ch = 5
number8 Dh = 6
number8 Bh = 7

-- where a byte of its own stands: the lowest byte of a register, or its second
abbrev pub byte_place : Reg8 → ℕ
byte_place Al = 0
byte_place Cl = 4
byte_place Dl = 8
byte_place Bl = 12
byte_place Ah = 1
byte_place Ch = 5
byte_place Dh = 9
byte_place Bh = 13

-- where the four bytes of a register begin
abbrev pub word_place : Reg32 → ℕ
word_place r = 4 * number32 r

-- the number in the four bytes of a register, the lowest first
abbrev pub register : Reg32 → List ℕ → ℕ
register r bytes = little_number 4 (drop (word_place r) bytes)

-- the bytes with another number in the four of a register
abbrev pub with_register : Reg32 → ℕ → List ℕ → List ℕ
with_register r value bytes = take (word_place r) bytes ++ little_bytes 4 value ++ drop (word_place r + 4) bytes

-- every register is 0
abbrev pub zero_registers : List ℕ
zero_registers = replicate 32 0

-- thirty-two cells, each of them a byte
pub record AreRegisters (bytes : List ℕ) : Type 0 where
  pub cells : length bytes ≡ 32
  pub below : (k : ℕ) → slice_index bytes k < 256

-- Where a variable stands, and how areas and columns name the registers that variables stand in.
use Rattle.std.specs.Prelude.{◌≤◌, ⊤, ℕ, ◌^◌, List, [], ◌∷◌, slice_get, Option}
use Rattle.ia32_insn.specs.declared.register_names.Reg32.{Reg32}
use Rattle.ia32_insn.specs.declared.register_names.Reg32.TheVariants.{Eax, Ecx, Edx, Ebx, Esp, Ebp, Esi, Edi}
use Rattle.ia32_insn.specs.declared.register_names.Reg8.{Reg8}
use Rattle.ia32_insn.specs.declared.register_names.Reg8.TheVariants.{Al, Cl, Dl, Bl, Ah, Ch, Dh, Bh}

-- a register, a byte of one, or a slot so many bytes below EBP
pub data Place : Type 0 where
  InWord : (r : Reg32) → Place
  InByte : (r : Reg8) → Place
  InSlot : (below : ℕ) → Place

-- the registers that variables stand in: those whose two low bytes are registers too
abbrev pub IsGeneral : Reg32 → Type 0
IsGeneral Eax = ⊤
IsGeneral Ecx = ⊤
IsGeneral Edx = ⊤
IsGeneral Ebx = ⊤
IsGeneral Esp = ⊥
IsGeneral Ebp = ⊥
IsGeneral Esi = ⊥
IsGeneral Edi = ⊥

abbrev pub IsPlace : Place → Type 0
IsPlace (InWord r) = IsGeneral r
IsPlace (InByte r) = ⊤
IsPlace (InSlot below) = (1 ≤ below) × (below ≤ 2 ^ 31)

-- ---- areas and columns

-- An area of a board is such a register, and its two columns are the register's two low bytes: areas 0 to 3 are EAX,
-- EBX, ECX and EDX (Quintão Pereira and Palsberg, "Register Allocation by Puzzle Solving", PLDI 2008).
abbrev pub area_words : List Reg32
area_words = Eax ∷ Ebx ∷ Ecx ∷ Edx ∷ []

-- the low column of each area is the register's lowest byte
abbrev pub low_columns : List Reg8
low_columns = Al ∷ Bl ∷ Cl ∷ Dl ∷ []

-- and the high column its second
abbrev pub high_columns : List Reg8
high_columns = Ah ∷ Bh ∷ Ch ∷ Dh ∷ []

abbrev pub word_of_area : ℕ → Option Reg32
word_of_area area = slice_get area_words area

abbrev pub low_of_area : ℕ → Option Reg8
low_of_area area = slice_get low_columns area

abbrev pub high_of_area : ℕ → Option Reg8
high_of_area area = slice_get high_columns area

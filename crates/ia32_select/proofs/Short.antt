-- An instruction has at most twelve bytes in the spelling that is preferred, and so has each item.
use Rattle.std.proofs.Common.{◌≡◌, ℕ, suc, ◌+◌, ◌*◌, ◌≤◌, ℤ, Bool, true, false, List, [], ◌∷◌, ◌++◌, length, Option}
use Rattle.std.proofs.Common.{Some, None, arith, cond, length-append}
use Rattle.std.specs.Prelude.{neg_ℤ, pos}
use Rattle.ia32_insn.specs.Registers.{number32, number8}
use Rattle.ia32_insn.specs.declared.register_names.Reg32.{Reg32}
use Rattle.ia32_insn.specs.declared.register_names.Reg32.TheVariants.{Ebp}
use Rattle.ia32_insn.specs.Places.{Place, InWord, InByte, InSlot}
use Rattle.ia32_insn.specs.declared.operand.Rm32.TheVariants as rm
use Rattle.ia32_insn.specs.declared.insn.Insn.{Insn}
use Rattle.ia32_insn.specs.declared.insn.Insn.TheVariants as insn
use Rattle.ia32_insn.specs.declared.item.Item.{Item}
use Rattle.ia32_insn.specs.declared.item.Item.TheVariants as item
use Rattle.ia32_insn.specs.Spelling.{Operand, InRegister, InMemory, operand32, operand8, alu_number, shift_number}
use Rattle.ia32_insn.specs.Spelling.{cond_number}
use Rattle.ia32_insn.specs.Preferred.{preferred, fields_for, fields_byte, fits_byte, mod_for, sib_for, needs_sib}
use Rattle.ia32_insn.specs.Preferred.{base_number, displacement_for, word_bytes, byte_bytes}
use Rattle.ia32_asm.specs.Sections.{item_size, items_size}
use Rattle.ia32_asm.proofs.Laying.{items_size-append}
use Rattle.ia32_rows.specs.Rows.{pass, pass_all}
use Rattle.ia32_rows.proofs.ItemKinds.{either-way}

-- ---- what follows an opcode

choice : (a b : Bool) (x y : List ℕ) → length x ≤ 4 → length y ≤ 4 → length (cond a [] (cond b x y)) ≤ 4
choice true b x y h k = omega arith
choice false true x y h k = h
choice false false x y h k = k

-- a displacement has at most four bytes
displacement-short : (base : Option Reg32) (z : ℤ) → length (displacement_for base z) ≤ 4
displacement-short None z = omega arith
displacement-short (Some r) z = choice _ _ (byte_bytes z) (word_bytes z) (omega arith) (omega arith)

two-before : (a b : ℕ) (xs : List ℕ) → length xs ≤ 4 → length (a ∷ b ∷ xs) ≤ 6
two-before a b xs h = omega arith

one-before : (a : ℕ) (xs : List ℕ) → length xs ≤ 4 → length (a ∷ xs) ≤ 6
one-before a xs h = omega arith

-- ModRM and what follows it has at most six
fields-short : (reg : ℕ) (o : Operand) → length (fields_for reg o) ≤ 6
fields-short reg (InRegister number) = omega arith
fields-short reg (InMemory m) =
    either-way (λ (l : List ℕ). length l ≤ 6) (needs_sib m.index m.base)
    (fields_byte (mod_for m.base m.disp) reg 4 ∷ sib_for m.index m.base ∷ displacement_for m.base m.disp)
    (fields_byte (mod_for m.base m.disp) reg (base_number m.base) ∷ displacement_for m.base m.disp)
    (two-before (fields_byte (mod_for m.base m.disp) reg 4) (sib_for m.index m.base) (displacement_for m.base m.disp)
    (displacement-short m.base m.disp))
    (one-before (fields_byte (mod_for m.base m.disp) reg (base_number m.base)) (displacement_for m.base m.disp)
    (displacement-short m.base m.disp))

-- ---- instructions

-- an opcode of one byte or two, and fields
short-one : (a reg : ℕ) (o : Operand) → length (a ∷ fields_for reg o) ≤ 12
short-one a reg o = behind (fields_for reg o) (fields-short reg o)
  where
    behind : (xs : List ℕ) → length xs ≤ 6 → length (a ∷ xs) ≤ 12
    behind xs h = omega arith

short-two : (a b reg : ℕ) (o : Operand) → length (a ∷ b ∷ fields_for reg o) ≤ 12
short-two a b reg o = behind (fields_for reg o) (fields-short reg o)
  where
    behind : (xs : List ℕ) → length xs ≤ 6 → length (a ∷ b ∷ xs) ≤ 12
    behind xs h = omega arith

-- and an immediate
short-with : (a reg : ℕ) (o : Operand) (ys : List ℕ) → length ys ≤ 4 → length (a ∷ fields_for reg o ++ ys) ≤ 12
short-with a reg o ys few = behind (fields_for reg o) (fields-short reg o)
  where
    behind : (xs : List ℕ) → length xs ≤ 6 → length (a ∷ xs ++ ys) ≤ 12
    behind xs h = omega (arith, h, few, length-append xs ys)

insn-short : (i : Insn) → length (preferred i) ≤ 12
insn-short (insn.Mov operand r) = short-one 0x89 (number32 r) (operand32 operand)
insn-short (insn.MovLoad r m) = short-one 0x8b (number32 r) (InMemory m)
insn-short (insn.MovImm (rm.Reg r) z) = omega arith
insn-short (insn.MovImm (rm.Mem m) z) = short-with 0xc7 0 (InMemory m) (word_bytes z) (omega arith)
insn-short (insn.Mov8 operand r) = short-one 0x88 (number8 r) (operand8 operand)
insn-short (insn.Mov8Load r m) = short-one 0x8a (number8 r) (InMemory m)
insn-short (insn.Mov8Imm r n) = omega arith
insn-short (insn.Mov16 operand r) = short-two 0x66 0x89 (number32 r) (operand32 operand)
insn-short (insn.MovZx8 r operand) = short-two 0x0f 0xb6 (number32 r) (operand8 operand)
insn-short (insn.MovZx16 r operand) = short-two 0x0f 0xb7 (number32 r) (operand32 operand)
insn-short (insn.MovSx8 r operand) = short-two 0x0f 0xbe (number32 r) (operand8 operand)
insn-short (insn.MovSx16 r operand) = short-two 0x0f 0xbf (number32 r) (operand32 operand)
insn-short (insn.Xchg8 operand r) = short-one 0x86 (number8 r) (operand8 operand)
insn-short (insn.Xchg operand r) = short-one 0x87 (number32 r) (operand32 operand)
insn-short (insn.Lea r m) = short-one 0x8d (number32 r) (InMemory m)
insn-short (insn.Alu op operand r) = short-one (8 * alu_number op + 1) (number32 r) (operand32 operand)
insn-short (insn.AluLoad op r m) = short-one (8 * alu_number op + 3) (number32 r) (InMemory m)
insn-short (insn.AluImm op operand z) =
    either-way (λ (l : List ℕ). length l ≤ 12) (fits_byte z)
    (0x83 ∷ fields_for (alu_number op) (operand32 operand) ++ byte_bytes z)
    (0x81 ∷ fields_for (alu_number op) (operand32 operand) ++ word_bytes z)
    (short-with 0x83 (alu_number op) (operand32 operand) (byte_bytes z) (omega arith))
    (short-with 0x81 (alu_number op) (operand32 operand) (word_bytes z) (omega arith))
insn-short (insn.Test operand r) = short-one 0x85 (number32 r) (operand32 operand)
insn-short (insn.IMul r operand) = short-two 0x0f 0xaf (number32 r) (operand32 operand)
insn-short (insn.Not operand) = short-one 0xf7 2 (operand32 operand)
insn-short (insn.Neg operand) = short-one 0xf7 3 (operand32 operand)
insn-short (insn.Div operand) = short-one 0xf7 6 (operand32 operand)
insn-short (insn.IDiv operand) = short-one 0xf7 7 (operand32 operand)
insn-short insn.Cdq = omega arith
insn-short (insn.ShiftCl op operand) = short-one 0xd3 (shift_number op) (operand32 operand)
insn-short (insn.ShiftImm op operand n) = short-with 0xc1 (shift_number op) (operand32 operand) (n ∷ []) (omega arith)
insn-short (insn.Push (rm.Reg r)) = omega arith
insn-short (insn.Push (rm.Mem m)) = short-one 0xff 6 (InMemory m)
insn-short (insn.PushImm z) = omega arith
insn-short (insn.Pop r) = omega arith
insn-short (insn.Call distance) = omega arith
insn-short insn.Ret = omega arith
insn-short insn.Leave = omega arith
insn-short (insn.Jmp distance) = omega arith
insn-short (insn.Jcc c distance) = omega arith
insn-short (insn.SetCc c operand) = short-two 0x0f (0x90 + cond_number c) 0 (operand8 operand)
insn-short (insn.Int n) = omega arith
insn-short insn.Ud2 = omega arith
insn-short insn.Nop = omega arith

-- ---- items

item-short : (i : Item) → item_size i ≤ 12
item-short (item.Plain i) = insn-short i
item-short (item.Label l) = omega arith
item-short (item.Point p) = omega arith
item-short (item.JumpTo l) = omega arith
item-short (item.JumpIf c l) = omega arith
item-short (item.CallFunction f) = omega arith
item-short (item.CallStub s) = omega arith
item-short (item.JumpTrap None) = omega arith
item-short (item.JumpTrap (Some c)) = omega arith
item-short (item.AddressOf r k) = omega arith

pub items-short : (items : List Item) → items_size items ≤ 12 * length items
items-short [] = omega arith
items-short (i ∷ items) = more (item_size i) (items_size items) (length items) (item-short i) (items-short items)
  where
    more : (x y n : ℕ) → x ≤ 12 → y ≤ 12 * n → x + y ≤ 12 * suc n
    more x y n h k = omega arith

-- ---- argument words

-- the word of a place goes onto the stack by at most eight bytes
pass-short : (p : Place) → items_size (pass p) ≤ 8
pass-short (InWord r) = omega arith
pass-short (InByte r) = omega arith
pass-short (InSlot k) =
    let four : length (displacement_for (Some Ebp) (neg_ℤ (pos k))) ≤ 4 = displacement-short (Some Ebp) (neg_ℤ (pos k))
    in
    omega arith

pub pass_all-short : (places : List Place) → items_size (pass_all places) ≤ 8 * length places
pass_all-short [] = omega arith
pass_all-short (p ∷ places) =
    more (items_size (pass_all places ++ pass p)) (items_size (pass_all places)) (items_size (pass p)) (length places)
    (items_size-append (pass_all places) (pass p)) (pass_all-short places) (pass-short p)
  where
    more : (w x y n : ℕ) → w ≡ x + y → x ≤ 8 * n → y ≤ 8 → w ≤ 8 * suc n
    more w x y n e h k = omega arith

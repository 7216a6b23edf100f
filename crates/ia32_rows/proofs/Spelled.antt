-- How spellings begin: with a byte at least, which is that of NOP for NOP alone.
use Rattle.std.proofs.Common.{◌≡◌, ◌≢◌, ℕ, ◌+◌, ◌*◌, ◌<◌, ℤ, List, [], ◌∷◌, ◌++◌, ap, ◌∙◌, inl, inr, arith}
use Rattle.std.proofs.Common.{append_assoc}
use Rattle.ia32_insn.specs.Registers.{number32, number8}
use Rattle.ia32_insn.proofs.Registers.{number32_below}
use Rattle.ia32_insn.specs.declared.operand.Rm32.TheVariants as rm
use Rattle.ia32_insn.specs.declared.insn.AluOp.{AluOp}
use Rattle.ia32_insn.specs.declared.insn.AluOp.TheVariants as alu
use Rattle.ia32_insn.specs.declared.insn.Insn.{Insn}
use Rattle.ia32_insn.specs.declared.insn.Insn.TheVariants as insn
use Rattle.ia32_insn.proofs.Rows.{cond_below}
use Rattle.ia32_insn.specs.Spelling.{Spells, Operand, InRegister, InMemory, operand32, operand8, Row, RowWith}
use Rattle.ia32_insn.specs.Spelling.{Immediate, Reversed, alu_number, shift_number, cond_number}

-- the bytes begin with a byte that isn't 0x90
abbrev pub BeginsOther : List ℕ → Type 0
BeginsOther bytes = (first : ℕ) × (rest : List ℕ) × (bytes ≡ first ∷ rest) × (first ≢ 0x90)

row-begins : (first : ℕ) (more : List ℕ) (reg : ℕ) (operand : Operand) (bytes : List ℕ) → first ≢ 0x90
    → Row (first ∷ more) reg operand bytes → BeginsOther bytes
row-begins first more reg operand bytes other (fields, whole, has) = (first, more ++ fields, whole, other)

row_with-begins : (first : ℕ) (more : List ℕ) (reg : ℕ) (operand : Operand) (n : ℕ) (z : ℤ) (bytes : List ℕ)
    → first ≢ 0x90 → RowWith (first ∷ more) reg operand n z bytes → BeginsOther bytes
row_with-begins first more reg operand n z bytes other (fields, rest, whole, has, reads) =
    (first, more ++ (fields ++ rest), whole ∙ ap (λ (l : List ℕ). first ∷ l) (append_assoc more fields rest), other)

immediate-begins : (first : ℕ) (more : List ℕ) (n : ℕ) (z : ℤ) (bytes : List ℕ) → first ≢ 0x90
    → Immediate (first ∷ more) n z bytes → BeginsOther bytes
immediate-begins first more n z bytes other (rest, whole, reads) = (first, more ++ rest, whole, other)

reversed-begins : (first : ℕ) (more : List ℕ) (operand : Operand) (source : ℕ) (bytes : List ℕ) → first ≢ 0x90
    → Reversed (first ∷ more) operand source bytes → BeginsOther bytes
reversed-begins first more (InRegister number) source bytes other h =
    row-begins first more number (InRegister source) bytes other h
reversed-begins first more (InMemory m) source bytes other h = absurd h

-- an instruction that is no NOP
abbrev pub IsCommon : Insn → Type 0
IsCommon (insn.Mov operand r) = Unit {0}
IsCommon (insn.MovLoad r m) = Unit {0}
IsCommon (insn.MovImm operand z) = Unit {0}
IsCommon (insn.Mov8 operand r) = Unit {0}
IsCommon (insn.Mov8Load r m) = Unit {0}
IsCommon (insn.Mov8Imm r n) = Unit {0}
IsCommon (insn.Mov16 operand r) = Unit {0}
IsCommon (insn.MovZx8 r operand) = Unit {0}
IsCommon (insn.MovZx16 r operand) = Unit {0}
IsCommon (insn.MovSx8 r operand) = Unit {0}
IsCommon (insn.MovSx16 r operand) = Unit {0}
IsCommon (insn.Xchg8 operand r) = Unit {0}
IsCommon (insn.Xchg operand r) = Unit {0}
IsCommon (insn.Lea r m) = Unit {0}
IsCommon (insn.Alu op operand r) = Unit {0}
IsCommon (insn.AluLoad op r m) = Unit {0}
IsCommon (insn.AluImm op operand z) = Unit {0}
IsCommon (insn.Test operand r) = Unit {0}
IsCommon (insn.IMul r operand) = Unit {0}
IsCommon (insn.Not operand) = Unit {0}
IsCommon (insn.Neg operand) = Unit {0}
IsCommon (insn.Div operand) = Unit {0}
IsCommon (insn.IDiv operand) = Unit {0}
IsCommon insn.Cdq = Unit {0}
IsCommon (insn.ShiftCl op operand) = Unit {0}
IsCommon (insn.ShiftImm op operand n) = Unit {0}
IsCommon (insn.Push operand) = Unit {0}
IsCommon (insn.PushImm z) = Unit {0}
IsCommon (insn.Pop r) = Unit {0}
IsCommon (insn.Call distance) = Unit {0}
IsCommon insn.Ret = Unit {0}
IsCommon insn.Leave = Unit {0}
IsCommon (insn.Jmp distance) = Unit {0}
IsCommon (insn.Jcc c distance) = Unit {0}
IsCommon (insn.SetCc c operand) = Unit {0}
IsCommon (insn.Int n) = Unit {0}
IsCommon insn.Ud2 = Unit {0}
IsCommon insn.Nop = ⊥

alu_other : (op : AluOp) (k : ℕ) → k < 4 → 8 * alu_number op + k ≢ 0x90
alu_other alu.Add k h e = omega arith
alu_other alu.Or k h e = omega arith
alu_other alu.And k h e = omega arith
alu_other alu.Sub k h e = omega arith
alu_other alu.Xor k h e = omega arith
alu_other alu.Cmp k h e = omega arith

pub common-begins : (i : Insn) (bytes : List ℕ) → IsCommon i → Spells i bytes → BeginsOther bytes
common-begins (insn.Mov operand r) bytes c (inl h) =
    row-begins 0x89 [] (number32 r) (operand32 operand) bytes (λ e. omega arith) h
common-begins (insn.Mov operand r) bytes c (inr h) =
    reversed-begins 0x8b [] (operand32 operand) (number32 r) bytes (λ e. omega arith) h
common-begins (insn.MovLoad r m) bytes c h = row-begins 0x8b [] (number32 r) (InMemory m) bytes (λ e. omega arith) h
common-begins (insn.MovImm (rm.Reg r) z) bytes c (inl h) =
    immediate-begins (0xb8 + number32 r) [] 4 z bytes (λ e. omega arith) h
common-begins (insn.MovImm (rm.Reg r) z) bytes c (inr h) =
    row_with-begins 0xc7 [] 0 (InRegister (number32 r)) 4 z bytes (λ e. omega arith) h
common-begins (insn.MovImm (rm.Mem m) z) bytes c h =
    row_with-begins 0xc7 [] 0 (InMemory m) 4 z bytes (λ e. omega arith) h
common-begins (insn.Mov8 operand r) bytes c (inl h) =
    row-begins 0x88 [] (number8 r) (operand8 operand) bytes (λ e. omega arith) h
common-begins (insn.Mov8 operand r) bytes c (inr h) =
    reversed-begins 0x8a [] (operand8 operand) (number8 r) bytes (λ e. omega arith) h
common-begins (insn.Mov8Load r m) bytes c h = row-begins 0x8a [] (number8 r) (InMemory m) bytes (λ e. omega arith) h
common-begins (insn.Mov8Imm r n) bytes c h = (0xb0 + number8 r, n ∷ [], h, λ e. omega arith)
common-begins (insn.MovZx8 r operand) bytes c h =
    row-begins 0x0f (0xb6 ∷ []) (number32 r) (operand8 operand) bytes (λ e. omega arith) h
common-begins (insn.MovSx8 r operand) bytes c h =
    row-begins 0x0f (0xbe ∷ []) (number32 r) (operand8 operand) bytes (λ e. omega arith) h
common-begins (insn.Lea r m) bytes c h = row-begins 0x8d [] (number32 r) (InMemory m) bytes (λ e. omega arith) h
common-begins (insn.Alu op operand r) bytes c (inl h) =
    row-begins (8 * alu_number op + 1) [] (number32 r) (operand32 operand) bytes (alu_other op 1 (omega arith)) h
common-begins (insn.Alu op operand r) bytes c (inr h) =
    reversed-begins (8 * alu_number op + 3) [] (operand32 operand) (number32 r) bytes (alu_other op 3 (omega arith)) h
common-begins (insn.AluLoad op r m) bytes c h =
    row-begins (8 * alu_number op + 3) [] (number32 r) (InMemory m) bytes (alu_other op 3 (omega arith)) h
common-begins (insn.AluImm op operand z) bytes c (inl h) =
    row_with-begins 0x83 [] (alu_number op) (operand32 operand) 1 z bytes (λ e. omega arith) h
common-begins (insn.AluImm op operand z) bytes c (inr h) =
    row_with-begins 0x81 [] (alu_number op) (operand32 operand) 4 z bytes (λ e. omega arith) h
common-begins (insn.Push (rm.Reg r)) bytes c (inl h) =
    (0x50 + number32 r, [], h, λ e. let below = number32_below r in omega arith)
common-begins (insn.Push (rm.Reg r)) bytes c (inr h) =
    row-begins 0xff [] 6 (InRegister (number32 r)) bytes (λ e. omega arith) h
common-begins (insn.Push (rm.Mem m)) bytes c h = row-begins 0xff [] 6 (InMemory m) bytes (λ e. omega arith) h
common-begins (insn.Pop r) bytes c h = (0x58 + number32 r, [], h, λ e. let below = number32_below r in omega arith)
common-begins (insn.Call distance) bytes c h = immediate-begins 0xe8 [] 4 distance bytes (λ e. omega arith) h
common-begins insn.Ret bytes c h = (0xc3, [], h, λ e. omega arith)
common-begins insn.Leave bytes c h = (0xc9, [], h, λ e. omega arith)
common-begins (insn.Int n) bytes c h = (0xcd, n ∷ [], h, λ e. omega arith)
common-begins (insn.Mov16 operand r) bytes c h =
    row-begins 0x66 (0x89 ∷ []) (number32 r) (operand32 operand) bytes (λ e. omega arith) h
common-begins (insn.MovZx16 r operand) bytes c h =
    row-begins 0x0f (0xb7 ∷ []) (number32 r) (operand32 operand) bytes (λ e. omega arith) h
common-begins (insn.MovSx16 r operand) bytes c h =
    row-begins 0x0f (0xbf ∷ []) (number32 r) (operand32 operand) bytes (λ e. omega arith) h
common-begins (insn.Xchg8 operand r) bytes c h =
    row-begins 0x86 [] (number8 r) (operand8 operand) bytes (λ e. omega arith) h
common-begins (insn.Xchg operand r) bytes c h =
    row-begins 0x87 [] (number32 r) (operand32 operand) bytes (λ e. omega arith) h
common-begins (insn.Test operand r) bytes c h =
    row-begins 0x85 [] (number32 r) (operand32 operand) bytes (λ e. omega arith) h
common-begins (insn.IMul r operand) bytes c h =
    row-begins 0x0f (0xaf ∷ []) (number32 r) (operand32 operand) bytes (λ e. omega arith) h
common-begins (insn.Not operand) bytes c h = row-begins 0xf7 [] 2 (operand32 operand) bytes (λ e. omega arith) h
common-begins (insn.Neg operand) bytes c h = row-begins 0xf7 [] 3 (operand32 operand) bytes (λ e. omega arith) h
common-begins (insn.Div operand) bytes c h = row-begins 0xf7 [] 6 (operand32 operand) bytes (λ e. omega arith) h
common-begins (insn.IDiv operand) bytes c h = row-begins 0xf7 [] 7 (operand32 operand) bytes (λ e. omega arith) h
common-begins insn.Cdq bytes c h = (0x99, [], h, λ e. omega arith)
common-begins (insn.ShiftCl op operand) bytes c h =
    row-begins 0xd3 [] (shift_number op) (operand32 operand) bytes (λ e. omega arith) h
common-begins (insn.ShiftImm op operand n) bytes c (fields, whole, has) =
    (0xc1, fields ++ n ∷ [], whole, λ e. omega arith)
common-begins (insn.PushImm z) bytes c h = immediate-begins 0x68 [] 4 z bytes (λ e. omega arith) h
common-begins (insn.Jmp distance) bytes c (inl h) = immediate-begins 0xe9 [] 4 distance bytes (λ e. omega arith) h
common-begins (insn.Jmp distance) bytes c (inr h) = immediate-begins 0xeb [] 1 distance bytes (λ e. omega arith) h
common-begins (insn.Jcc k distance) bytes c (inl h) =
    immediate-begins 0x0f ((0x80 + cond_number k) ∷ []) 4 distance bytes (λ e. omega arith) h
common-begins (insn.Jcc k distance) bytes c (inr h) =
    immediate-begins (0x70 + cond_number k) [] 1 distance bytes (λ e. let below = cond_below k in omega arith) h
common-begins (insn.SetCc k operand) bytes c (reg, h) =
    row-begins 0x0f ((0x90 + cond_number k) ∷ []) reg (operand8 operand) bytes (λ e. omega arith) h
common-begins insn.Ud2 bytes c h = (0x0f, 0x0b ∷ [], h, λ e. omega arith)
common-begins insn.Nop bytes c h = absurd c

-- Every spelling is read, row by row.
use Rattle.std.specs.Prelude.{◌≡◌, ◌⊎◌, ℕ, ◌+◌, ◌*◌, ◌<◌, ℤ, List, [], ◌∷◌, ◌++◌, length, drop, Option, Some, refl}
use Rattle.std.proofs.Common.{sym, ◌∙◌, ap, arith, inl, inr, append_assoc}
use Rattle.std.proofs.Math.Seq.{drop-append_seam}
use Rattle.std.proofs.lemmas.List.{length-append}
use Rattle.ia32_insn.specs.Registers.{number32, number8}
use Rattle.ia32_insn.proofs.Registers.{number32_below}
use Rattle.ia32_insn.specs.declared.register_names.Reg32.{Reg32}
use Rattle.ia32_insn.specs.declared.register_names.Reg8.{Reg8}
use Rattle.ia32_insn.specs.declared.register_names.Reg8.TheVariants.{Al, Cl, Dl, Bl, Ah, Ch, Dh, Bh}
use Rattle.ia32_insn.specs.declared.operand.Mem.{Mem}
use Rattle.ia32_insn.specs.declared.operand.Rm32.{Rm32}
use Rattle.ia32_insn.specs.declared.operand.Rm32.TheVariants as rm
use Rattle.ia32_insn.specs.declared.operand.Rm8.{Rm8}
use Rattle.ia32_insn.specs.declared.operand.Rm8.TheVariants as rm8
use Rattle.ia32_insn.specs.declared.insn.AluOp.{AluOp}
use Rattle.ia32_insn.specs.declared.insn.AluOp.TheVariants as alu
use Rattle.ia32_insn.specs.declared.insn.ShiftOp.{ShiftOp}
use Rattle.ia32_insn.specs.declared.insn.Cond.{Cond}
use Rattle.ia32_insn.specs.declared.insn.Cond.TheVariants as cond
use Rattle.ia32_insn.specs.declared.insn.Insn.{Insn}
use Rattle.ia32_insn.specs.declared.insn.Insn.TheVariants as insn
use Rattle.ia32_insn.specs.Spelling.{InMemory, HasFields, Row, RowWith, Immediate, Reversed, operand32, operand8}
use Rattle.ia32_insn.specs.Spelling.{alu_number, shift_number, cond_number, Spells}
use Rattle.ia32_insn.specs.Reading.{◌>>=◌, register_at, byte_register_at, condition_at, operation_at, shift_at}
use Rattle.ia32_insn.specs.Reading.{read_signed, read_byte, read_fields32, read_fields8, lone_insn, byte_insn}
use Rattle.ia32_insn.specs.Reading.{short_insn, long_insn, alu_insn, unary_insn, fields32_insn, fields8_insn}
use Rattle.ia32_insn.specs.Reading.{immediate_insn, extended32_insn, extended8_insn, sixteen_insn, read_lone}
use Rattle.ia32_insn.specs.Reading.{read_with_byte, read_with_signed, read_with32, read_with8, read_immediate}
use Rattle.ia32_insn.specs.Reading.{read_shift, read_extended, read_sixteen, read_two_byte, read_opcode, read_insn}
use Rattle.ia32_insn.proofs.Parts.{then_reads}
use Rattle.ia32_insn.proofs.Numbers.{register_at-number, byte_register_at-number, condition_at-number}
use Rattle.ia32_insn.proofs.Numbers.{operation_at-number, shift_at-number}
use Rattle.ia32_insn.proofs.Fields.{read_signed-reads, read_fields32-reads, read_fields8-reads}
use Rattle.ia32_insn.proofs.Opcodes.{push_opcode, push_made, pop_opcode, pop_made, mov8_opcode, mov8_made, mov_opcode}
use Rattle.ia32_insn.proofs.Opcodes.{mov_made, short_opcode, short_made, near_opcode, set_opcode, set_made, alu_opcode}
use Rattle.ia32_insn.proofs.Opcodes.{alu_made}

-- ---- numbers are below their limits

pub number8_below : (r : Reg8) → number8 r < 8
number8_below Al = omega arith
number8_below Cl = omega arith
number8_below Dl = omega arith
number8_below Bl = omega arith
number8_below Ah = omega arith
number8_below Ch = omega arith
number8_below Dh = omega arith
number8_below Bh = omega arith

pub alu_below : (op : AluOp) → alu_number op < 8
alu_below alu.Add = omega arith
alu_below alu.Or = omega arith
alu_below alu.And = omega arith
alu_below alu.Sub = omega arith
alu_below alu.Xor = omega arith
alu_below alu.Cmp = omega arith

pub cond_below : (c : Cond) → cond_number c < 16
cond_below cond.O = omega arith
cond_below cond.No = omega arith
cond_below cond.B = omega arith
cond_below cond.Ae = omega arith
cond_below cond.E = omega arith
cond_below cond.Ne = omega arith
cond_below cond.Be = omega arith
cond_below cond.A = omega arith
cond_below cond.S = omega arith
cond_below cond.Ns = omega arith
cond_below cond.P = omega arith
cond_below cond.Np = omega arith
cond_below cond.L = omega arith
cond_below cond.Ge = omega arith
cond_below cond.Le = omega arith
cond_below cond.G = omega arith

-- ---- forms of rows

-- the spelling is read, whatever follows it
abbrev pub Reads : Insn → List ℕ → Type 0
Reads i xs = (after : List ℕ) → read_insn (xs ++ after) ≡ Some (i, length xs)

-- the length of a spelling is counted
counted : (i : Insn) (m n : ℕ) → m ≡ n → ◌≡◌ {A = Option (Insn × ℕ)} (Some (i, m)) (Some (i, n))
counted i m n e = ap (λ (k : ℕ). let o : Option (Insn × ℕ) = Some (i, k) in o) e

-- a row in which fields with an operand of 32 bits follow the opcode
row32 : (opcode : List ℕ) (size : ℕ) (make : ℕ → Rm32 → Option Insn) (reg : ℕ) (x : Rm32) (i : Insn) (xs : List ℕ)
    → size ≡ length opcode → ((rest : List ℕ) → read_insn (opcode ++ rest) ≡ read_with32 size make rest)
    → make reg x ≡ Some i → Row opcode reg (operand32 x) xs → Reads i xs
unfolding read_with32
row32 opcode size make reg x i xs size_is map made (fields, xs_are, h) after =
    let finish : Insn → Option (Insn × ℕ) = λ j. Some (j, size + length fields) in
    ap read_insn (ap (λ bs. bs ++ after) xs_are ∙ append_assoc opcode fields after)
    ∙ map (fields ++ after)
    ∙ then_reads (read_fields32 (fields ++ after)) (λ f. make f.0 f.1 >>= (λ j. Some (j, size + f.2))) (
      reg,
      x,
      length fields,
    ) (read_fields32-reads reg x fields after h)
    ∙ then_reads (make reg x) finish i made
    ∙ counted i (size + length fields) (length xs) (omega (arith, ap length xs_are, length-append opcode fields))

-- and of 8 bits
row8 : (opcode : List ℕ) (size : ℕ) (make : ℕ → Rm8 → Option Insn) (reg : ℕ) (x : Rm8) (i : Insn) (xs : List ℕ)
    → size ≡ length opcode → ((rest : List ℕ) → read_insn (opcode ++ rest) ≡ read_with8 size make rest)
    → make reg x ≡ Some i → Row opcode reg (operand8 x) xs → Reads i xs
unfolding read_with8
row8 opcode size make reg x i xs size_is map made (fields, xs_are, h) after =
    let finish : Insn → Option (Insn × ℕ) = λ j. Some (j, size + length fields) in
    ap read_insn (ap (λ bs. bs ++ after) xs_are ∙ append_assoc opcode fields after)
    ∙ map (fields ++ after)
    ∙ then_reads (read_fields8 (fields ++ after)) (λ f. make f.0 f.1 >>= (λ j. Some (j, size + f.2))) (
      reg,
      x,
      length fields,
    ) (read_fields8-reads reg x fields after h)
    ∙ then_reads (make reg x) finish i made
    ∙ counted i (size + length fields) (length xs) (omega (arith, ap length xs_are, length-append opcode fields))

-- fields, and then a signed number of n bytes
row_with : (opcode n : ℕ) (make : ℕ → Rm32 → ℤ → Option Insn) (reg : ℕ) (x : Rm32) (z : ℤ) (i : Insn) (xs : List ℕ)
    → ((rest : List ℕ) → read_insn (opcode ∷ rest) ≡ read_immediate n make rest) → make reg x z ≡ Some i
    → RowWith (opcode ∷ []) reg (operand32 x) n z xs → Reads i xs
unfolding read_immediate
row_with opcode n make reg x z i xs map made (fields, rest, xs_are, h, number) after =
    let finish : Insn → Option (Insn × ℕ) = λ j. Some (j, 1 + length fields + n) in
    let make_then : ℤ → Option (Insn × ℕ) = λ v. make reg x v >>= finish in
    let dropped : drop (length fields) (fields ++ (rest ++ after)) ≡ rest ++ after =
    drop-append_seam fields (rest ++ after) in
    ap read_insn (ap (λ bs. bs ++ after) xs_are ∙ ap (λ bs. opcode ∷ bs) (append_assoc fields rest after))
    ∙ map (fields ++ (rest ++ after))
    ∙ then_reads (read_fields32 (fields ++ (rest ++ after))) (λ f. read_signed n (drop f.2 (fields ++ (rest ++ after)))
    >>= (λ v. make f.0 f.1 v >>= (λ j. Some (j, 1 + f.2 + n)))) (
      reg,
      x,
      length fields,
    ) (read_fields32-reads reg x fields (rest ++ after) h)
    ∙ ap (λ bs. read_signed n bs >>= make_then) dropped
    ∙ then_reads (read_signed n (rest ++ after)) make_then z (read_signed-reads n rest after z number)
    ∙ then_reads (make reg x z) finish i made
    ∙ counted i (1 + length fields + n) (length xs) (omega (
      arith,
      ap length xs_are,
      length-append fields rest,
      number.count,
    ))

-- a signed number of n bytes
row_signed : (opcode : List ℕ) (size n : ℕ) (make : ℤ → Option Insn) (z : ℤ) (i : Insn) (xs : List ℕ)
    → size ≡ length opcode → ((rest : List ℕ) → read_insn (opcode ++ rest) ≡ read_with_signed size n make rest)
    → make z ≡ Some i → Immediate opcode n z xs → Reads i xs
unfolding read_with_signed
row_signed opcode size n make z i xs size_is map made (rest, xs_are, number) after =
    let finish : Insn → Option (Insn × ℕ) = λ j. Some (j, size + n) in
    ap read_insn (ap (λ bs. bs ++ after) xs_are ∙ append_assoc opcode rest after)
    ∙ map (rest ++ after)
    ∙ then_reads (read_signed n (rest ++ after)) (λ v. make v >>= finish) z (read_signed-reads n rest after z number)
    ∙ then_reads (make z) finish i made
    ∙ counted i (size + n) (length xs) (omega (arith, ap length xs_are, length-append opcode rest, number.count))

-- one byte
row_byte : (opcode n : ℕ) (make : ℕ → Option Insn) (i : Insn) (xs : List ℕ)
    → ((rest : List ℕ) → read_insn (opcode ∷ rest) ≡ read_with_byte make rest) → make n ≡ Some i → xs ≡ opcode ∷ n ∷ []
    → Reads i xs
unfolding read_with_byte read_byte
row_byte opcode n make i xs map made xs_are after =
    let finish : Insn → Option (Insn × ℕ) = λ j. Some (j, 2) in
    ap read_insn (ap (λ bs. bs ++ after) xs_are)
    ∙ map (n ∷ after)
    ∙ then_reads (make n) finish i made
    ∙ counted i 2 (length xs) (sym (ap length xs_are))

-- nothing
row_lone : (opcode : ℕ) (made : Option Insn) (i : Insn) (xs : List ℕ)
    → ((rest : List ℕ) → read_insn (opcode ∷ rest) ≡ read_lone made) → made ≡ Some i → xs ≡ opcode ∷ [] → Reads i xs
unfolding read_lone
row_lone opcode made i xs map made_is xs_are after =
    let finish : Insn → Option (Insn × ℕ) = λ j. Some (j, 1) in
    ap read_insn (ap (λ bs. bs ++ after) xs_are)
    ∙ map after
    ∙ then_reads made finish i made_is
    ∙ counted i 1 (length xs) (sym (ap length xs_are))

-- fields, and then a byte
row_shift : (op : ShiftOp) (x : Rm32) (n : ℕ) (xs : List ℕ) → (fields : List ℕ) × (xs ≡ 0xc1 ∷ fields ++ n ∷ [])
    × HasFields (shift_number op) (operand32 x) fields → Reads (insn.ShiftImm op x n) xs
unfolding read_insn read_opcode read_shift read_byte
row_shift op x n xs (fields, xs_are, h) after =
    let finish : ShiftOp → Option (Insn × ℕ) = λ o. Some (insn.ShiftImm o x n, 2 + length fields) in
    let made : ℕ → Option (Insn × ℕ) =
    λ k. shift_at (shift_number op) >>= (λ o. Some (insn.ShiftImm o x k, 2 + length fields)) in
    ap read_insn (ap (λ bs. bs ++ after) xs_are ∙ ap (λ bs. 0xc1 ∷ bs) (append_assoc fields (n ∷ []) after))
    ∙ then_reads (read_fields32 (fields ++ (n ∷ after))) (λ f. read_byte (drop f.2 (fields ++ (n ∷ after)))
    >>= (λ k. shift_at f.0 >>= (λ o. Some (insn.ShiftImm o f.1 k, 2 + f.2)))) (
      shift_number op,
      x,
      length fields,
    ) (read_fields32-reads (shift_number op) x fields (n ∷ after) h)
    ∙ ap (λ bs. read_byte bs >>= made) (drop-append_seam fields (n ∷ after))
    ∙ then_reads (shift_at (shift_number op)) finish op (shift_at-number op)
    ∙ counted (insn.ShiftImm op x n) (2 + length fields) (length xs) (omega (
      arith,
      ap length xs_are,
      length-append fields (n ∷ []),
    ))

-- ---- the rows

-- an instruction that is made of the register of a number is made of the register
of_register : (make : Reg32 → Option Insn) (r : Reg32) → make (register_at (number32 r)) ≡ make r
of_register make r = ap make (register_at-number r)

of_byte_register : (make : Reg8 → Option Insn) (r : Reg8) → make (byte_register_at (number8 r)) ≡ make r
of_byte_register make r = ap make (byte_register_at-number r)

of_condition : (make : Cond → Option Insn) (c : Cond) → make (condition_at (cond_number c)) ≡ make c
of_condition make c = ap make (condition_at-number c)

mov_reads : (x : Rm32) (r : Reg32) (xs : List ℕ) → Row (0x89 ∷ []) (number32 r) (operand32 x) xs
    ⊎ Reversed (0x8b ∷ []) (operand32 x) (number32 r) xs → Reads (insn.Mov x r) xs
unfolding read_insn read_opcode fields32_insn
mov_reads x r xs (inl row) =
    row32 (0x89 ∷ []) 1 (fields32_insn 0x89) (number32 r) x (insn.Mov x r) xs refl (λ rest. refl)
    (of_register (λ v. Some (insn.Mov x v)) r) row
mov_reads (rm.Reg d) r xs (inr row) =
    row32 (0x8b ∷ []) 1 (fields32_insn 0x8b) (number32 d) (rm.Reg r) (insn.Mov (rm.Reg d) r) xs refl (λ rest. refl)
    (of_register (λ v. Some (insn.Mov (rm.Reg v) r)) d) row
mov_reads (rm.Mem m) r xs (inr row) = elim row [ ]

mov8_reads : (x : Rm8) (r : Reg8) (xs : List ℕ) → Row (0x88 ∷ []) (number8 r) (operand8 x) xs
    ⊎ Reversed (0x8a ∷ []) (operand8 x) (number8 r) xs → Reads (insn.Mov8 x r) xs
unfolding read_insn read_opcode fields8_insn
mov8_reads x r xs (inl row) =
    row8 (0x88 ∷ []) 1 (fields8_insn 0x88) (number8 r) x (insn.Mov8 x r) xs refl (λ rest. refl)
    (of_byte_register (λ v. Some (insn.Mov8 x v)) r) row
mov8_reads (rm8.Reg d) r xs (inr row) =
    row8 (0x8a ∷ []) 1 (fields8_insn 0x8a) (number8 d) (rm8.Reg r) (insn.Mov8 (rm8.Reg d) r) xs refl (λ rest. refl)
    (of_byte_register (λ v. Some (insn.Mov8 (rm8.Reg v) r)) d) row
mov8_reads (rm8.Mem m) r xs (inr row) = elim row [ ]

mov_imm_reads : (x : Rm32) (z : ℤ) (xs : List ℕ) → RowWith (0xc7 ∷ []) 0 (operand32 x) 4 z xs
    → Reads (insn.MovImm x z) xs
unfolding read_insn read_opcode immediate_insn
mov_imm_reads x z xs row = row_with 0xc7 4 (immediate_insn 0xc7) 0 x z (insn.MovImm x z) xs (λ rest. refl) refl row

-- what the operations of two operands make
alu_makes : (op : AluOp) (way : ℕ) (reg : ℕ) (x : Rm32) → way < 4 → fields32_insn (8 * alu_number op + way) reg x
    ≡ alu_insn way op (register_at reg) x
alu_makes op way reg x h =
    alu_made (alu_number op) way reg x (alu_below op) h
    ∙ then_reads (operation_at (alu_number op)) (λ o. alu_insn way o (register_at reg) x) op (operation_at-number op)

alu_map : (op : AluOp) (way : ℕ) (rest : List ℕ) → way < 4 → read_insn ((8 * alu_number op + way) ∷ rest)
    ≡ read_with32 1 (fields32_insn (8 * alu_number op + way)) rest
unfolding read_insn
alu_map op way rest h = alu_opcode (alu_number op) way rest (alu_below op) h

alu_reads : (op : AluOp) (x : Rm32) (r : Reg32) (xs : List ℕ)
    → Row ((8 * alu_number op + 1) ∷ []) (number32 r) (operand32 x) xs
    ⊎ Reversed ((8 * alu_number op + 3) ∷ []) (operand32 x) (number32 r) xs → Reads (insn.Alu op x r) xs
unfolding alu_insn
alu_reads op x r xs (inl row) =
    row32 ((8 * alu_number op + 1) ∷ []) 1 (fields32_insn (8 * alu_number op + 1)) (number32 r) x (insn.Alu op x r) xs
    refl (λ rest. alu_map op 1 rest (omega arith))
    (alu_makes op 1 (number32 r) x (omega arith) ∙ of_register (λ v. Some (insn.Alu op x v)) r) row
alu_reads op (rm.Reg d) r xs (inr row) =
    row32 ((8 * alu_number op + 3) ∷ []) 1 (fields32_insn (8 * alu_number op + 3)) (number32 d) (rm.Reg r)
    (insn.Alu op (rm.Reg d) r) xs refl (λ rest. alu_map op 3 rest (omega arith))
    (alu_makes op 3 (number32 d) (rm.Reg r) (omega arith) ∙ of_register (λ v. Some (insn.Alu op (rm.Reg v) r)) d) row
alu_reads op (rm.Mem m) r xs (inr row) = elim row [ ]

alu_load_reads : (op : AluOp) (r : Reg32) (m : Mem) (xs : List ℕ)
    → Row ((8 * alu_number op + 3) ∷ []) (number32 r) (InMemory m) xs → Reads (insn.AluLoad op r m) xs
unfolding alu_insn
alu_load_reads op r m xs row =
    row32 ((8 * alu_number op + 3) ∷ []) 1 (fields32_insn (8 * alu_number op + 3)) (number32 r) (rm.Mem m)
    (insn.AluLoad op r m) xs refl (λ rest. alu_map op 3 rest (omega arith))
    (alu_makes op 3 (number32 r) (rm.Mem m) (omega arith) ∙ of_register (λ v. Some (insn.AluLoad op v m)) r) row

alu_imm_reads : (op : AluOp) (x : Rm32) (z : ℤ) (xs : List ℕ) → RowWith (0x83 ∷ []) (alu_number op) (operand32 x) 1 z xs
    ⊎ RowWith (0x81 ∷ []) (alu_number op) (operand32 x) 4 z xs → Reads (insn.AluImm op x z) xs
unfolding read_insn read_opcode immediate_insn
alu_imm_reads op x z xs (inl row) =
    row_with 0x83 1 (immediate_insn 0x83) (alu_number op) x z (insn.AluImm op x z) xs (λ rest. refl)
    (then_reads (operation_at (alu_number op)) (λ o. Some (insn.AluImm o x z)) op (operation_at-number op)) row
alu_imm_reads op x z xs (inr row) =
    row_with 0x81 4 (immediate_insn 0x81) (alu_number op) x z (insn.AluImm op x z) xs (λ rest. refl)
    (then_reads (operation_at (alu_number op)) (λ o. Some (insn.AluImm o x z)) op (operation_at-number op)) row

-- F7, D3 and FF, with the number after / in the reg field
number_reads : (opcode number : ℕ) (x : Rm32) (i : Insn) (xs : List ℕ)
    → ((rest : List ℕ) → read_insn (opcode ∷ rest) ≡ read_with32 1 (fields32_insn opcode) rest)
    → fields32_insn opcode number x ≡ Some i → Row (opcode ∷ []) number (operand32 x) xs → Reads i xs
number_reads opcode number x i xs map made row =
    row32 (opcode ∷ []) 1 (fields32_insn opcode) number x i xs refl map made row

unary_reads : (number : ℕ) (x : Rm32) (i : Insn) (xs : List ℕ) → unary_insn number x ≡ Some i
    → Row (0xf7 ∷ []) number (operand32 x) xs → Reads i xs
unfolding read_insn read_opcode fields32_insn
unary_reads number x i xs made row = number_reads 0xf7 number x i xs (λ rest. refl) made row

shift_reads : (op : ShiftOp) (x : Rm32) (xs : List ℕ) → Row (0xd3 ∷ []) (shift_number op) (operand32 x) xs
    → Reads (insn.ShiftCl op x) xs
unfolding read_insn read_opcode fields32_insn
shift_reads op x xs row =
    number_reads 0xd3 (shift_number op) x (insn.ShiftCl op x) xs (λ rest. refl)
    (then_reads (shift_at (shift_number op)) (λ o. Some (insn.ShiftCl o x)) op (shift_at-number op)) row

push_operand_reads : (x : Rm32) (xs : List ℕ) → Row (0xff ∷ []) 6 (operand32 x) xs → Reads (insn.Push x) xs
unfolding read_insn read_opcode fields32_insn
push_operand_reads x xs row = number_reads 0xff 6 x (insn.Push x) xs (λ rest. refl) refl row

-- one register in the reg field, and an operand of 32 bits
plain32_reads : (opcode : ℕ) (r : Reg32) (x : Rm32) (make : Reg32 → Insn) (xs : List ℕ)
    → ((rest : List ℕ) → read_insn (opcode ∷ rest) ≡ read_with32 1 (fields32_insn opcode) rest)
    → fields32_insn opcode (number32 r) x ≡ Some (make (register_at (number32 r)))
    → Row (opcode ∷ []) (number32 r) (operand32 x) xs → Reads (make r) xs
plain32_reads opcode r x make xs map made row =
    row32 (opcode ∷ []) 1 (fields32_insn opcode) (number32 r) x (make r) xs refl map
    (made ∙ of_register (λ v. Some (make v)) r) row

one_byte_reads : (opcode : ℕ) (i : Insn) (xs : List ℕ)
    → ((rest : List ℕ) → read_insn (opcode ∷ rest) ≡ read_lone (lone_insn opcode)) → lone_insn opcode ≡ Some i
    → xs ≡ opcode ∷ [] → Reads i xs
one_byte_reads opcode i xs map made xs_are = row_lone opcode (lone_insn opcode) i xs map made xs_are

push_reads : (r : Reg32) (xs : List ℕ) → (xs ≡ (0x50 + number32 r) ∷ []) → Reads (insn.Push (rm.Reg r)) xs
unfolding read_insn
push_reads r xs xs_are =
    one_byte_reads (0x50 + number32 r) (insn.Push (rm.Reg r)) xs
    (λ rest. push_opcode (number32 r) rest (number32_below r))
    (push_made (number32 r) (number32_below r) ∙ of_register (λ v. Some (insn.Push (rm.Reg v))) r) xs_are

pop_reads : (r : Reg32) (xs : List ℕ) → (xs ≡ (0x58 + number32 r) ∷ []) → Reads (insn.Pop r) xs
unfolding read_insn
pop_reads r xs xs_are =
    one_byte_reads (0x58 + number32 r) (insn.Pop r) xs (λ rest. pop_opcode (number32 r) rest (number32_below r))
    (pop_made (number32 r) (number32_below r) ∙ of_register (λ v. Some (insn.Pop v)) r) xs_are

mov_register_reads : (r : Reg32) (z : ℤ) (xs : List ℕ) → Immediate ((0xb8 + number32 r) ∷ []) 4 z xs
    → Reads (insn.MovImm (rm.Reg r) z) xs
unfolding read_insn
mov_register_reads r z xs row =
    row_signed ((0xb8 + number32 r) ∷ []) 1 4 (long_insn (0xb8 + number32 r)) z (insn.MovImm (rm.Reg r) z) xs refl
    (λ rest. mov_opcode (number32 r) rest (number32_below r))
    (mov_made (number32 r) z (number32_below r) ∙ of_register (λ v. Some (insn.MovImm (rm.Reg v) z)) r) row

mov8_imm_reads : (r : Reg8) (n : ℕ) (xs : List ℕ) → xs ≡ (0xb0 + number8 r) ∷ n ∷ [] → Reads (insn.Mov8Imm r n) xs
unfolding read_insn
mov8_imm_reads r n xs xs_are =
    row_byte (0xb0 + number8 r) n (byte_insn (0xb0 + number8 r)) (insn.Mov8Imm r n) xs
    (λ rest. mov8_opcode (number8 r) rest (number8_below r))
    (mov8_made (number8 r) n (number8_below r) ∙ of_byte_register (λ v. Some (insn.Mov8Imm v n)) r) xs_are

jcc_reads : (c : Cond) (z : ℤ) (xs : List ℕ) → Immediate (0x0f ∷ (0x80 + cond_number c) ∷ []) 4 z xs
    ⊎ Immediate ((0x70 + cond_number c) ∷ []) 1 z xs → Reads (insn.Jcc c z) xs
unfolding read_insn read_opcode read_two_byte
jcc_reads c z xs (inl row) =
    row_signed (0x0f ∷ (0x80 + cond_number c) ∷ []) 2 4 (λ v. Some (insn.Jcc (condition_at (cond_number c)) v)) z
    (insn.Jcc c z) xs refl
    (λ rest. near_opcode (cond_number c) rest (cond_below c)) (of_condition (λ v. Some (insn.Jcc v z)) c) row
jcc_reads c z xs (inr row) =
    row_signed ((0x70 + cond_number c) ∷ []) 1 1 (short_insn (0x70 + cond_number c)) z (insn.Jcc c z) xs refl
    (λ rest. short_opcode (cond_number c) rest (cond_below c))
    (short_made (cond_number c) z (cond_below c) ∙ of_condition (λ v. Some (insn.Jcc v z)) c) row

set_reads : (c : Cond) (x : Rm8) (reg : ℕ) (xs : List ℕ) → Row (0x0f ∷ (0x90 + cond_number c) ∷ []) reg (operand8 x) xs
    → Reads (insn.SetCc c x) xs
unfolding read_insn read_opcode read_two_byte
set_reads c x reg xs row =
    row8 (0x0f ∷ (0x90 + cond_number c) ∷ []) 2 (extended8_insn (0x90 + cond_number c)) reg x (insn.SetCc c x) xs refl
    (λ rest. set_opcode (cond_number c) rest (cond_below c))
    (set_made (cond_number c) reg x (cond_below c) ∙ of_condition (λ v. Some (insn.SetCc v x)) c) row

-- after 0F and 66
extended32_reads : (opcode : ℕ) (r : Reg32) (x : Rm32) (make : Reg32 → Insn) (xs : List ℕ)
    → ((rest : List ℕ) → read_insn (0x0f ∷ opcode ∷ rest) ≡ read_with32 2 (extended32_insn opcode) rest)
    → extended32_insn opcode (number32 r) x ≡ Some (make (register_at (number32 r)))
    → Row (0x0f ∷ opcode ∷ []) (number32 r) (operand32 x) xs → Reads (make r) xs
extended32_reads opcode r x make xs map made row =
    row32 (0x0f ∷ opcode ∷ []) 2 (extended32_insn opcode) (number32 r) x (make r) xs refl map
    (made ∙ of_register (λ v. Some (make v)) r) row

extended8_reads : (opcode : ℕ) (r : Reg32) (x : Rm8) (make : Reg32 → Insn) (xs : List ℕ)
    → ((rest : List ℕ) → read_insn (0x0f ∷ opcode ∷ rest) ≡ read_with8 2 (extended8_insn opcode) rest)
    → extended8_insn opcode (number32 r) x ≡ Some (make (register_at (number32 r)))
    → Row (0x0f ∷ opcode ∷ []) (number32 r) (operand8 x) xs → Reads (make r) xs
extended8_reads opcode r x make xs map made row =
    row8 (0x0f ∷ opcode ∷ []) 2 (extended8_insn opcode) (number32 r) x (make r) xs refl map
    (made ∙ of_register (λ v. Some (make v)) r) row

sixteen_reads : (x : Rm32) (r : Reg32) (xs : List ℕ) → Row (0x66 ∷ 0x89 ∷ []) (number32 r) (operand32 x) xs
    → Reads (insn.Mov16 x r) xs
unfolding read_insn read_opcode read_sixteen sixteen_insn
sixteen_reads x r xs row =
    row32 (0x66 ∷ 0x89 ∷ []) 2 (sixteen_insn 0x89) (number32 r) x (insn.Mov16 x r) xs refl (λ rest. refl)
    (of_register (λ v. Some (insn.Mov16 x v)) r) row

ud2_reads : (xs : List ℕ) → xs ≡ 0x0f ∷ 0x0b ∷ [] → Reads insn.Ud2 xs
unfolding read_insn read_opcode read_two_byte read_extended
ud2_reads xs xs_are after =
    ap read_insn (ap (λ bs. bs ++ after) xs_are) ∙ counted insn.Ud2 2 (length xs) (sym (ap length xs_are))

-- every spelling is read
pub spelling_reads : (i : Insn) (xs : List ℕ) → Spells i xs → Reads i xs
unfolding read_insn read_opcode read_two_byte read_extended fields32_insn fields8_insn unary_insn extended32_insn
    extended8_insn long_insn short_insn byte_insn lone_insn
spelling_reads (insn.Mov x r) xs h = mov_reads x r xs h
spelling_reads (insn.MovLoad r m) xs h = plain32_reads 0x8b r (rm.Mem m) (λ v. insn.MovLoad v m) xs (λ rest. refl) refl
    h
spelling_reads (insn.MovImm (rm.Reg r) z) xs (inl h) = mov_register_reads r z xs h
spelling_reads (insn.MovImm (rm.Reg r) z) xs (inr h) = mov_imm_reads (rm.Reg r) z xs h
spelling_reads (insn.MovImm (rm.Mem m) z) xs h = mov_imm_reads (rm.Mem m) z xs h
spelling_reads (insn.Mov8 x r) xs h = mov8_reads x r xs h
spelling_reads (insn.Mov8Load r m) xs h =
    row8 (0x8a ∷ []) 1 (fields8_insn 0x8a) (number8 r) (rm8.Mem m) (insn.Mov8Load r m) xs refl (λ rest. refl)
    (of_byte_register (λ v. Some (insn.Mov8Load v m)) r) h
spelling_reads (insn.Mov8Imm r n) xs h = mov8_imm_reads r n xs h
spelling_reads (insn.Mov16 x r) xs h = sixteen_reads x r xs h
spelling_reads (insn.MovZx8 r x) xs h = extended8_reads 0xb6 r x (λ v. insn.MovZx8 v x) xs (λ rest. refl) refl h
spelling_reads (insn.MovZx16 r x) xs h = extended32_reads 0xb7 r x (λ v. insn.MovZx16 v x) xs (λ rest. refl) refl h
spelling_reads (insn.MovSx8 r x) xs h = extended8_reads 0xbe r x (λ v. insn.MovSx8 v x) xs (λ rest. refl) refl h
spelling_reads (insn.MovSx16 r x) xs h = extended32_reads 0xbf r x (λ v. insn.MovSx16 v x) xs (λ rest. refl) refl h
spelling_reads (insn.Xchg8 x r) xs h =
    row8 (0x86 ∷ []) 1 (fields8_insn 0x86) (number8 r) x (insn.Xchg8 x r) xs refl (λ rest. refl)
    (of_byte_register (λ v. Some (insn.Xchg8 x v)) r) h
spelling_reads (insn.Xchg x r) xs h = plain32_reads 0x87 r x (λ v. insn.Xchg x v) xs (λ rest. refl) refl h
spelling_reads (insn.Lea r m) xs h = plain32_reads 0x8d r (rm.Mem m) (λ v. insn.Lea v m) xs (λ rest. refl) refl h
spelling_reads (insn.Alu op x r) xs h = alu_reads op x r xs h
spelling_reads (insn.AluLoad op r m) xs h = alu_load_reads op r m xs h
spelling_reads (insn.AluImm op x z) xs h = alu_imm_reads op x z xs h
spelling_reads (insn.Test x r) xs h = plain32_reads 0x85 r x (λ v. insn.Test x v) xs (λ rest. refl) refl h
spelling_reads (insn.IMul r x) xs h = extended32_reads 0xaf r x (λ v. insn.IMul v x) xs (λ rest. refl) refl h
spelling_reads (insn.Not x) xs h = unary_reads 2 x (insn.Not x) xs refl h
spelling_reads (insn.Neg x) xs h = unary_reads 3 x (insn.Neg x) xs refl h
spelling_reads (insn.Div x) xs h = unary_reads 6 x (insn.Div x) xs refl h
spelling_reads (insn.IDiv x) xs h = unary_reads 7 x (insn.IDiv x) xs refl h
spelling_reads insn.Cdq xs h = one_byte_reads 0x99 insn.Cdq xs (λ rest. refl) refl h
spelling_reads (insn.ShiftCl op x) xs h = shift_reads op x xs h
spelling_reads (insn.ShiftImm op x n) xs h = row_shift op x n xs h
spelling_reads (insn.Push (rm.Reg r)) xs (inl h) = push_reads r xs h
spelling_reads (insn.Push (rm.Reg r)) xs (inr h) = push_operand_reads (rm.Reg r) xs h
spelling_reads (insn.Push (rm.Mem m)) xs h = push_operand_reads (rm.Mem m) xs h
spelling_reads (insn.PushImm z) xs h =
    row_signed (0x68 ∷ []) 1 4 (long_insn 0x68) z (insn.PushImm z) xs refl (λ rest. refl) refl h
spelling_reads (insn.Pop r) xs h = pop_reads r xs h
spelling_reads (insn.Call z) xs h =
    row_signed (0xe8 ∷ []) 1 4 (long_insn 0xe8) z (insn.Call z) xs refl (λ rest. refl) refl h
spelling_reads insn.Ret xs h = one_byte_reads 0xc3 insn.Ret xs (λ rest. refl) refl h
spelling_reads insn.Leave xs h = one_byte_reads 0xc9 insn.Leave xs (λ rest. refl) refl h
spelling_reads (insn.Jmp z) xs (inl h) =
    row_signed (0xe9 ∷ []) 1 4 (long_insn 0xe9) z (insn.Jmp z) xs refl (λ rest. refl) refl h
spelling_reads (insn.Jmp z) xs (inr h) =
    row_signed (0xeb ∷ []) 1 1 (short_insn 0xeb) z (insn.Jmp z) xs refl (λ rest. refl) refl h
spelling_reads (insn.Jcc c z) xs h = jcc_reads c z xs h
spelling_reads (insn.SetCc c x) xs (reg, h) = set_reads c x reg xs h
spelling_reads (insn.Int n) xs h = row_byte 0xcd n (byte_insn 0xcd) (insn.Int n) xs (λ rest. refl) refl h
spelling_reads insn.Ud2 xs h = ud2_reads xs h
spelling_reads insn.Nop xs h = one_byte_reads 0x90 insn.Nop xs (λ rest. refl) refl h

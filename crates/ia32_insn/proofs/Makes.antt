-- What an opcode makes of its fields is spelled by the opcode and the fields.
use Rattle.std.specs.Prelude.{◌≡◌, ℕ, ◌+◌, ◌-◌, ◌*◌, ◌/◌, ◌%◌, ◌≤◌, ◌<◌, ℤ, ◌&&◌, ◌==◌, nat_le, nat_lt, cond, List, []}
use Rattle.std.specs.Prelude.{◌∷◌, ◌++◌, Option, Some, IfSome, refl}
use Rattle.std.proofs.Common.{sym, ap, subst, arith, inl, inr}
use Rattle.std.proofs.lemmas.Bool.{cond_both, and_parts, eqb-true, leb-true, ltb-true}
use Rattle.ia32_insn.specs.Registers.{number32, number8}
use Rattle.ia32_insn.specs.declared.operand.Rm32.{Rm32}
use Rattle.ia32_insn.specs.declared.operand.Rm32.TheVariants as rm
use Rattle.ia32_insn.specs.declared.operand.Rm8.{Rm8}
use Rattle.ia32_insn.specs.declared.operand.Rm8.TheVariants as rm8
use Rattle.ia32_insn.specs.declared.insn.AluOp.{AluOp}
use Rattle.ia32_insn.specs.declared.insn.ShiftOp.{ShiftOp}
use Rattle.ia32_insn.specs.declared.insn.Insn.{Insn}
use Rattle.ia32_insn.specs.declared.insn.Insn.TheVariants as insn
use Rattle.ia32_insn.specs.Spelling.{ReadsSigned, HasFields, Row, RowWith, operand32, operand8, alu_number}
use Rattle.ia32_insn.specs.Spelling.{shift_number, cond_number, Spells}
use Rattle.ia32_insn.specs.Reading.{register_at, byte_register_at, condition_at, operation_at, shift_at, lone_insn}
use Rattle.ia32_insn.specs.Reading.{byte_insn, short_insn, long_insn, mov_from, mov8_from, alu_from, lea_from, alu_insn}
use Rattle.ia32_insn.specs.Reading.{unary_insn, fields32_insn, fields8_insn, immediate_insn, extended32_insn}
use Rattle.ia32_insn.specs.Reading.{extended8_insn, sixteen_insn}
use Rattle.ia32_insn.proofs.Parts.{then_holds}
use Rattle.ia32_insn.proofs.Numbers.{number-register_at, number-byte_register_at, number-condition_at}
use Rattle.ia32_insn.proofs.Numbers.{number-operation_at, number-shift_at}

-- a test that a number is another one
where_same : (a b : ℕ) (found others : Option Insn) (P : Insn → Type 0) → (a ≡ b → IfSome found P) → IfSome others P
    → IfSome (cond (a == b) found others) P
where_same a b found others P first second =
    cond_both (a == b) found others (λ o. IfSome o P) (λ e. first (eqb-true a b e)) (λ e. second)

-- and that it lies in a range
where_within : (low high a : ℕ) (found others : Option Insn) (P : Insn → Type 0) → (low ≤ a → a < high → IfSome found P)
    → IfSome others P → IfSome (cond (nat_le low a && nat_lt a high) found others) P
where_within low high a found others P first second =
    cond_both (nat_le low a && nat_lt a high) found others (λ o. IfSome o P)
    (λ e.
    let parts = and_parts (nat_le low a) (nat_lt a high) e in
    first (leb-true low a parts.0) (ltb-true a high parts.1))
    (λ e. second)

-- an opcode that is the sum of a number and another one
offset : (low a k : ℕ) → low ≤ a → k ≡ a - low → a ≡ low + k
offset low a k h e = omega arith

pub lone_spells : (opcode : ℕ) → IfSome (lone_insn opcode) (λ i. Spells i (opcode ∷ []))
unfolding lone_insn
lone_spells opcode =
    let P : Insn → Type 0 = λ i. Spells i (opcode ∷ []) in
    let one : (k : ℕ) → opcode ≡ k → opcode ∷ [] ≡ k ∷ [] = λ k e. ap (λ n. n ∷ []) e in
    where_within 0x50 0x58 opcode _ _ P
    (λ low high. inl
    (one (0x50 + number32 (register_at (opcode - 0x50)))
    (offset 0x50 opcode _ low (number-register_at (opcode - 0x50) (omega arith)))))
    (where_within 0x58 0x60 opcode _ _ P
    (λ low high. one (0x58 + number32 (register_at (opcode - 0x58)))
    (offset 0x58 opcode _ low (number-register_at (opcode - 0x58) (omega arith))))
    (where_same opcode 0x90 _ _ P (λ e. one 0x90 e)
    (where_same opcode 0x99 _ _ P (λ e. one 0x99 e)
    (where_same opcode 0xc3 _ _ P (λ e. one 0xc3 e)
    (where_same opcode 0xc9 _ _ P (λ e. one 0xc9 e) tt)))))

pub byte_spells : (opcode n : ℕ) → IfSome (byte_insn opcode n) (λ i. Spells i (opcode ∷ n ∷ []))
unfolding byte_insn
byte_spells opcode n =
    let P : Insn → Type 0 = λ i. Spells i (opcode ∷ n ∷ []) in
    let two : (k : ℕ) → opcode ≡ k → opcode ∷ n ∷ [] ≡ k ∷ n ∷ [] = λ k e. ap (λ m. m ∷ n ∷ []) e in
    where_within 0xb0 0xb8 opcode _ _ P
    (λ low high. two (0xb0 + number8 (byte_register_at (opcode - 0xb0)))
    (offset 0xb0 opcode _ low (number-byte_register_at (opcode - 0xb0) (omega arith))))
    (where_same opcode 0xcd _ _ P (λ e. two 0xcd e) tt)

pub short_spells : (opcode : ℕ) (z : ℤ) (rest : List ℕ) → ReadsSigned 1 rest z
    → IfSome (short_insn opcode z) (λ i. Spells i (opcode ∷ rest))
unfolding short_insn
short_spells opcode z rest h =
    let P : Insn → Type 0 = λ i. Spells i (opcode ∷ rest) in
    let led : (k : ℕ) → opcode ≡ k → opcode ∷ rest ≡ k ∷ rest = λ k e. ap (λ n. n ∷ rest) e in
    where_within 0x70 0x80 opcode _ _ P (λ low high. inr (
      rest,
      led (0x70 + cond_number (condition_at (opcode - 0x70)))
          (offset 0x70 opcode _ low (number-condition_at (opcode - 0x70) (omega arith))),
      h,
    ))
    (where_same opcode 0xeb _ _ P (λ e. inr (rest, led 0xeb e, h)) tt)

pub long_spells : (opcode : ℕ) (z : ℤ) (rest : List ℕ) → ReadsSigned 4 rest z
    → IfSome (long_insn opcode z) (λ i. Spells i (opcode ∷ rest))
unfolding long_insn
long_spells opcode z rest h =
    let P : Insn → Type 0 = λ i. Spells i (opcode ∷ rest) in
    let led : (k : ℕ) → opcode ≡ k → opcode ∷ rest ≡ k ∷ rest = λ k e. ap (λ n. n ∷ rest) e in
    where_same opcode 0x68 _ _ P (λ e. (rest, led 0x68 e, h))
    (where_within 0xb8 0xc0 opcode _ _ P (λ low high. inl (
      rest,
      led (0xb8 + number32 (register_at (opcode - 0xb8)))
          (offset 0xb8 opcode _ low (number-register_at (opcode - 0xb8) (omega arith))),
      h,
    ))
    (where_same opcode 0xe8 _ _ P (λ e. (rest, led 0xe8 e, h))
    (where_same opcode 0xe9 _ _ P (λ e. inl (rest, led 0xe9 e, h)) tt)))

-- 0F 80+cc
pub near_spells : (opcode : ℕ) (z : ℤ) (rest : List ℕ) → 0x80 ≤ opcode → opcode < 0x90 → ReadsSigned 4 rest z
    → Spells (insn.Jcc (condition_at (opcode - 0x80)) z) (0x0f ∷ opcode ∷ rest)
near_spells opcode z rest low high h =
    let e : opcode ≡ 0x80 + cond_number (condition_at (opcode - 0x80)) =
    offset 0x80 opcode _ low (number-condition_at (opcode - 0x80) (omega arith)) in
    inl (rest, ap (λ n. 0x0f ∷ n ∷ rest) e, h)

-- ---- ModRM follows the opcode

-- the fields by the number of the register in the reg field
abbrev HasRegister : ℕ → Rm32 → List ℕ → Type 0
HasRegister reg x fields = HasFields (number32 (register_at reg)) (operand32 x) fields

by_register : (reg : ℕ) (x : Rm32) (fields : List ℕ) → reg < 8 → HasFields reg (operand32 x) fields
    → HasRegister reg x fields
by_register reg x fields below h =
    let Has : ℕ → Type 0 = λ k. HasFields k (operand32 x) fields in
    subst Has (sym (number-register_at reg below)) h

by_number : (reg k : ℕ) (x : Rm32) (fields : List ℕ) → reg ≡ k → HasFields reg (operand32 x) fields
    → HasFields k (operand32 x) fields
by_number reg k x fields e h =
    let Has : ℕ → Type 0 = λ n. HasFields n (operand32 x) fields in
    subst Has e h

mov_from_spells : (opcode reg : ℕ) (x : Rm32) (fields : List ℕ) → opcode ≡ 0x8b → HasRegister reg x fields
    → Spells (mov_from (register_at reg) x) (opcode ∷ fields)
mov_from_spells opcode reg (rm.Reg source) fields e h = inr (fields, ap (λ n. n ∷ fields) e, h)
mov_from_spells opcode reg (rm.Mem m) fields e h = (fields, ap (λ n. n ∷ fields) e, h)

lea_from_spells : (opcode reg : ℕ) (x : Rm32) (fields : List ℕ) → opcode ≡ 0x8d → HasRegister reg x fields
    → IfSome (lea_from (register_at reg) x) (λ i. Spells i (opcode ∷ fields))
lea_from_spells opcode reg (rm.Reg source) fields e h = tt
lea_from_spells opcode reg (rm.Mem m) fields e h = (fields, ap (λ n. n ∷ fields) e, h)

push_spells : (opcode : ℕ) (x : Rm32) (fields : List ℕ) → opcode ≡ 0xff → HasFields 6 (operand32 x) fields
    → Spells (insn.Push x) (opcode ∷ fields)
push_spells opcode (rm.Reg r) fields e h = inr (fields, ap (λ n. n ∷ fields) e, h)
push_spells opcode (rm.Mem m) fields e h = (fields, ap (λ n. n ∷ fields) e, h)

alu_from_spells : (opcode reg : ℕ) (op : AluOp) (x : Rm32) (fields : List ℕ) → opcode ≡ 8 * alu_number op + 3
    → HasRegister reg x fields → Spells (alu_from op (register_at reg) x) (opcode ∷ fields)
alu_from_spells opcode reg op (rm.Reg source) fields e h = inr (fields, ap (λ n. n ∷ fields) e, h)
alu_from_spells opcode reg op (rm.Mem m) fields e h = (fields, ap (λ n. n ∷ fields) e, h)

alu_spells : (opcode reg : ℕ) (op : AluOp) (x : Rm32) (fields : List ℕ) → alu_number op ≡ opcode / 8
    → HasRegister reg x fields → IfSome (alu_insn (opcode % 8) op (register_at reg) x) (λ i. Spells i (opcode ∷ fields))
unfolding alu_insn
alu_spells opcode reg op x fields number h =
    let P : Insn → Type 0 = λ i. Spells i (opcode ∷ fields) in
    where_same (opcode % 8) 1 _ _ P (λ e. inl (
      fields,
      (let same : opcode ≡ 8 * alu_number op + 1 = omega arith in ap (λ n. n ∷ fields) same),
      h,
    ))
    (where_same (opcode % 8) 3 _ _ P (λ e. alu_from_spells opcode reg op x fields (omega arith) h) tt)

unary_spells : (opcode reg : ℕ) (x : Rm32) (fields : List ℕ) → opcode ≡ 0xf7 → HasFields reg (operand32 x) fields
    → IfSome (unary_insn reg x) (λ i. Spells i (opcode ∷ fields))
unfolding unary_insn
unary_spells opcode reg x fields e h =
    let P : Insn → Type 0 = λ i. Spells i (opcode ∷ fields) in
    let row : (k : ℕ) → reg ≡ k → Row (0xf7 ∷ []) k (operand32 x) (opcode ∷ fields) =
    λ k number. (fields, ap (λ n. n ∷ fields) e, by_number reg k x fields number h) in
    where_same reg 2 _ _ P (row 2)
    (where_same reg 3 _ _ P (row 3) (where_same reg 6 _ _ P (row 6) (where_same reg 7 _ _ P (row 7) tt)))

pub fields32_spells : (opcode reg : ℕ) (x : Rm32) (fields : List ℕ) → reg < 8 → HasFields reg (operand32 x) fields
    → IfSome (fields32_insn opcode reg x) (λ i. Spells i (opcode ∷ fields))
unfolding fields32_insn
fields32_spells opcode reg x fields below h =
    let P : Insn → Type 0 = λ i. Spells i (opcode ∷ fields) in
    let named : HasRegister reg x fields = by_register reg x fields below h in
    let row : (k : ℕ) → opcode ≡ k → Row (k ∷ []) (number32 (register_at reg)) (operand32 x) (opcode ∷ fields) =
    λ k e. (fields, ap (λ n. n ∷ fields) e, named) in
    cond_both (nat_lt opcode 0x40) _ _ (λ o. IfSome o P)
    (λ e.
    let small : opcode < 0x40 = ltb-true opcode 0x40 e in
    then_holds (operation_at (opcode / 8)) (λ op. alu_insn (opcode % 8) op (register_at reg) x) (λ op. alu_number op
    ≡ opcode / 8) P (number-operation_at (opcode / 8) (omega arith))
    (λ op number. alu_spells opcode reg op x fields number named))
    (λ e. where_same opcode 0x85 _ _ P (λ e. row 0x85 e)
    (where_same opcode 0x87 _ _ P (λ e. row 0x87 e)
    (where_same opcode 0x89 _ _ P (λ e. inl (row 0x89 e))
    (where_same opcode 0x8b _ _ P (λ e. mov_from_spells opcode reg x fields e named)
    (where_same opcode 0x8d _ _ P (λ e. lea_from_spells opcode reg x fields e named)
    (where_same opcode 0xd3 _ _ P
    (λ e. then_holds (shift_at reg) (λ op. Some (insn.ShiftCl op x)) (λ op. shift_number op
    ≡ reg) P (number-shift_at reg below)
    (λ op number. (fields, ap (λ n. n ∷ fields) e, by_number reg (shift_number op) x fields (sym number) h)))
    (where_same opcode 0xf7 _ _ P (λ e. unary_spells opcode reg x fields e h)
    (cond_both (opcode == 0xff && reg == 6) _ _ (λ o. IfSome o P)
    (λ e.
    let parts = and_parts (opcode == 0xff) (reg == 6) e in
    push_spells opcode x fields (eqb-true opcode 0xff parts.0) (by_number reg 6 x fields (eqb-true reg 6 parts.1) h))
    (λ e. tt)))))))))

-- the same for operands of 8 bits
by_byte_register : (reg : ℕ) (x : Rm8) (fields : List ℕ) → reg < 8 → HasFields reg (operand8 x) fields
    → HasFields (number8 (byte_register_at reg)) (operand8 x) fields
by_byte_register reg x fields below h =
    let Has : ℕ → Type 0 = λ k. HasFields k (operand8 x) fields in
    subst Has (sym (number-byte_register_at reg below)) h

mov8_from_spells : (opcode reg : ℕ) (x : Rm8) (fields : List ℕ) → opcode ≡ 0x8a
    → HasFields (number8 (byte_register_at reg)) (operand8 x) fields
    → Spells (mov8_from (byte_register_at reg) x) (opcode ∷ fields)
mov8_from_spells opcode reg (rm8.Reg source) fields e h = inr (fields, ap (λ n. n ∷ fields) e, h)
mov8_from_spells opcode reg (rm8.Mem m) fields e h = (fields, ap (λ n. n ∷ fields) e, h)

pub fields8_spells : (opcode reg : ℕ) (x : Rm8) (fields : List ℕ) → reg < 8 → HasFields reg (operand8 x) fields
    → IfSome (fields8_insn opcode reg x) (λ i. Spells i (opcode ∷ fields))
unfolding fields8_insn
fields8_spells opcode reg x fields below h =
    let P : Insn → Type 0 = λ i. Spells i (opcode ∷ fields) in
    let named : HasFields (number8 (byte_register_at reg)) (operand8 x) fields =
    by_byte_register reg x fields below h in
    where_same opcode 0x86 _ _ P (λ e. (fields, ap (λ n. n ∷ fields) e, named))
    (where_same opcode 0x88 _ _ P (λ e. inl (fields, ap (λ n. n ∷ fields) e, named))
    (where_same opcode 0x8a _ _ P (λ e. mov8_from_spells opcode reg x fields e named) tt))

-- after 0F
pub extended32_spells : (opcode reg : ℕ) (x : Rm32) (fields : List ℕ) → reg < 8 → HasFields reg (operand32 x) fields
    → IfSome (extended32_insn opcode reg x) (λ i. Spells i (0x0f ∷ opcode ∷ fields))
unfolding extended32_insn
extended32_spells opcode reg x fields below h =
    let P : Insn → Type 0 = λ i. Spells i (0x0f ∷ opcode ∷ fields) in
    let named : HasRegister reg x fields = by_register reg x fields below h in
    let row : (k : ℕ) → opcode ≡ k
    → Row (0x0f ∷ k ∷ []) (number32 (register_at reg)) (operand32 x) (0x0f ∷ opcode ∷ fields) =
    λ k e. (fields, ap (λ n. 0x0f ∷ n ∷ fields) e, named) in
    where_same opcode 0xaf _ _ P (row 0xaf)
    (where_same opcode 0xb7 _ _ P (row 0xb7) (where_same opcode 0xbf _ _ P (row 0xbf) tt))

pub extended8_spells : (opcode reg : ℕ) (x : Rm8) (fields : List ℕ) → reg < 8 → HasFields reg (operand8 x) fields
    → IfSome (extended8_insn opcode reg x) (λ i. Spells i (0x0f ∷ opcode ∷ fields))
unfolding extended8_insn
extended8_spells opcode reg x fields below h =
    let P : Insn → Type 0 = λ i. Spells i (0x0f ∷ opcode ∷ fields) in
    let Has : ℕ → Type 0 = λ k. HasFields k (operand8 x) fields in
    let named : Has (number32 (register_at reg)) = subst Has (sym (number-register_at reg below)) h in
    let row : (k : ℕ) → opcode ≡ k
    → Row (0x0f ∷ k ∷ []) (number32 (register_at reg)) (operand8 x) (0x0f ∷ opcode ∷ fields) =
    λ k e. (fields, ap (λ n. 0x0f ∷ n ∷ fields) e, named) in
    where_within 0x90 0xa0 opcode _ _ P
    (λ low high. (
      reg,
      (
        fields,
        ap (λ n. 0x0f ∷ n ∷ fields) (offset 0x90 opcode _ low (number-condition_at (opcode - 0x90) (omega arith))),
        h,
      ),
    ))
    (where_same opcode 0xb6 _ _ P (row 0xb6) (where_same opcode 0xbe _ _ P (row 0xbe) tt))

-- after 66
pub sixteen_spells : (opcode reg : ℕ) (x : Rm32) (fields : List ℕ) → reg < 8 → HasFields reg (operand32 x) fields
    → IfSome (sixteen_insn opcode reg x) (λ i. Spells i (0x66 ∷ opcode ∷ fields))
unfolding sixteen_insn
sixteen_spells opcode reg x fields below h =
    let P : Insn → Type 0 = λ i. Spells i (0x66 ∷ opcode ∷ fields) in
    where_same opcode 0x89 _ _ P (λ e. (fields, ap (λ n. 0x66 ∷ n ∷ fields) e, by_register reg x fields below h)) tt

-- ---- a signed number follows the fields

pub short_immediate_spells : (reg : ℕ) (x : Rm32) (z : ℤ) (fields rest : List ℕ) → reg < 8
    → HasFields reg (operand32 x) fields → ReadsSigned 1 rest z
    → IfSome (immediate_insn 0x83 reg x z) (λ i. Spells i (0x83 ∷ fields ++ rest))
unfolding immediate_insn
short_immediate_spells reg x z fields rest below h number =
    then_holds (operation_at reg) (λ op. Some (insn.AluImm op x z)) (λ op. alu_number op
    ≡ reg) (λ i. Spells i (0x83 ∷ fields ++ rest)) (number-operation_at reg below)
    (λ op e. inl (fields, rest, refl, by_number reg (alu_number op) x fields (sym e) h, number))

pub long_immediate_spells : (reg : ℕ) (x : Rm32) (z : ℤ) (fields rest : List ℕ) → reg < 8
    → HasFields reg (operand32 x) fields → ReadsSigned 4 rest z
    → IfSome (immediate_insn 0x81 reg x z) (λ i. Spells i (0x81 ∷ fields ++ rest))
unfolding immediate_insn
long_immediate_spells reg x z fields rest below h number =
    then_holds (operation_at reg) (λ op. Some (insn.AluImm op x z)) (λ op. alu_number op
    ≡ reg) (λ i. Spells i (0x81 ∷ fields ++ rest)) (number-operation_at reg below)
    (λ op e. inr (fields, rest, refl, by_number reg (alu_number op) x fields (sym e) h, number))

mov_imm_spells : (x : Rm32) (z : ℤ) (bytes : List ℕ) → RowWith (0xc7 ∷ []) 0 (operand32 x) 4 z bytes
    → Spells (insn.MovImm x z) bytes
mov_imm_spells (rm.Reg r) z bytes row = inr row
mov_imm_spells (rm.Mem m) z bytes row = row

pub mov_immediate_spells : (reg : ℕ) (x : Rm32) (z : ℤ) (fields rest : List ℕ) → reg < 8
    → HasFields reg (operand32 x) fields → ReadsSigned 4 rest z
    → IfSome (immediate_insn 0xc7 reg x z) (λ i. Spells i (0xc7 ∷ fields ++ rest))
unfolding immediate_insn
mov_immediate_spells reg x z fields rest below h number =
    let P : Insn → Type 0 = λ i. Spells i (0xc7 ∷ fields ++ rest) in
    where_same reg 0 _ _ P (λ e. mov_imm_spells x z (0xc7 ∷ fields ++ rest) (
      fields,
      rest,
      refl,
      by_number reg 0 x fields e h,
      number,
    )) tt

-- and an unsigned byte
pub shift_spells : (reg n : ℕ) (op : ShiftOp) (x : Rm32) (fields : List ℕ) → shift_number op ≡ reg
    → HasFields reg (operand32 x) fields → Spells (insn.ShiftImm op x n) (0xc1 ∷ fields ++ n ∷ [])
shift_spells reg n op x fields e h = (fields, refl, by_number reg (shift_number op) x fields (sym e) h)

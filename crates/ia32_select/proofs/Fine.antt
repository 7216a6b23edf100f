-- The pieces of rows, over places that can be named: each instruction has a spelling, and there are few of them.
use Rattle.std.specs.List.{AllByRecursion}
use Rattle.std.proofs.Common.{◌≡◌, ◌≢◌, ℕ, zero, suc, ◌+◌, ◌*◌, ◌^◌, ◌≤◌, ℤ, List, [], ◌∷◌, ◌++◌, length}
use Rattle.std.proofs.Common.{refl, arith, length-append}
use Rattle.std.specs.Prelude.{◌%◌, ◌==◌, ◌||◌, ⊤, neg_ℤ, pos}
use Rattle.std.specs.Int.{w32}
use Rattle.std.specs.Int.RustNames.{FitsSigned}
use Rattle.std.proofs.lemmas.Int.{ints}
use Rattle.ia32_insn.specs.Registers.{number32, number8}
use Rattle.ia32_insn.specs.declared.register_names.Reg32.{Reg32}
use Rattle.ia32_insn.specs.declared.register_names.Reg32.TheVariants.{Eax, Ecx, Edx, Ebx, Esp, Ebp, Esi, Edi}
use Rattle.ia32_insn.specs.declared.register_names.Reg8.TheVariants.{Al, Cl}
use Rattle.ia32_insn.specs.Places.{Place, InWord, InByte, InSlot, IsGeneral}
use Rattle.ia32_insn.specs.declared.operand.Mem.{Mem}
use Rattle.ia32_insn.specs.declared.operand.Rm32.{Rm32}
use Rattle.ia32_insn.specs.declared.operand.Rm32.TheVariants as rm
use Rattle.ia32_insn.specs.declared.operand.Rm8.{Rm8}
use Rattle.ia32_insn.specs.declared.operand.Rm8.TheVariants as rm8
use Rattle.ia32_insn.specs.declared.insn.AluOp.{AluOp}
use Rattle.ia32_insn.specs.declared.insn.AluOp.TheVariants as alu
use Rattle.ia32_insn.specs.declared.insn.Cond.{Cond}
use Rattle.ia32_insn.specs.declared.insn.Insn.{Insn}
use Rattle.ia32_insn.specs.declared.insn.Insn.TheVariants as insn
use Rattle.ia32_insn.specs.declared.insn.ShiftOp.{ShiftOp}
use Rattle.ia32_insn.specs.declared.item.Item.{Item}
use Rattle.ia32_insn.specs.declared.item.Item.TheVariants as item
use Rattle.ia32_insn.specs.Items.{near, plain}
use Rattle.ia32_insn.specs.Spelling.{Operand, operand32, operand8}
use Rattle.flow_graph.specs.declared.op.Bits.{Bits}
use Rattle.flow_graph.specs.declared.op.Bits.TheVariants.{Eight, Sixteen, ThirtyTwo}
use Rattle.flow_graph.specs.Meaning.{bytes_of}
use Rattle.flow_graph.proofs.Numbers.{signed-fits}
use Rattle.ia32_asm.specs.Parts.{HasIndex, IsInRange, IsIndex, IsIndexed, IsOperand}
use Rattle.ia32_rows.specs.Placements.{below}
use Rattle.ia32_rows.specs.Rows.{scratch, read, write, operate, working, has_operand, target_of, number_row, copy_row}
use Rattle.ia32_rows.specs.Rows.{is_at, is_in, by_register, in_slot, operation, commuting, sum_of, adding, pass}
use Rattle.ia32_rows.specs.Rows.{multiply, product_of, multiplying, changing, low_byte, byte_operand, extend, widening}
use Rattle.ia32_rows.specs.Rows.{lowering, extend_half, halving, into_count, shifted_in, shifting, clear_divisor}
use Rattle.ia32_rows.specs.Rows.{divisor_of, before_division, dividing, comparing, set_row, setting, argument_word}
use Rattle.ia32_rows.specs.Rows.{leave}
use Rattle.ia32_rows.specs.Rows.{return_row, loading, storing, store_at, store_to, index_register, element}
use Rattle.ia32_rows.proofs.ItemKinds.{either-way, all-append}

-- ---- so many items, each of which passes a test

abbrev pub Within : (Item → Type 0) → ℕ → List Item → Type 0
Within P n items = AllByRecursion P items × (length items ≤ n)

pub join : (P : Item → Type 0) (m n : ℕ) (xs ys : List Item) → Within P m xs → Within P n ys
    → Within P (m + n) (xs ++ ys)
join P m n xs ys a b = (
  all-append P xs ys a.0 b.0,
  sums m n (length xs) (length ys) (length (xs ++ ys)) a.1 b.1
      (length-append xs ys),
)
  where
    sums : (m n x y z : ℕ) → x ≤ m → y ≤ n → z ≡ x + y → z ≤ m + n
    sums m n x y z h k e = omega arith

-- an instruction whose numbers fit, and whose operands can be named
abbrev pub IsFine : Item → Type 0
IsFine (item.Plain i) = IsInRange i × IsIndexed i
IsFine (item.Label l) = ⊥
IsFine (item.Point p) = ⊥
IsFine (item.JumpTo l) = ⊥
IsFine (item.JumpIf c l) = ⊥
IsFine (item.CallFunction f) = ⊥
IsFine (item.CallStub s) = ⊥
IsFine (item.JumpTrap c) = ⊥
IsFine (item.AddressOf r k) = ⊥

abbrev pub AreFine : ℕ → List Item → Type 0
AreFine n items = Within IsFine n items

pub none : (n : ℕ) → AreFine n []
none n = (tt, omega arith)

pub one : (n : ℕ) (i : Insn) → IsInRange i → IsIndexed i → AreFine (suc n) (plain i ∷ [])
one n i h k = (((h, k), tt), omega arith)

pub two : (n : ℕ) (i j : Insn) → IsFine (plain i) → IsFine (plain j) → AreFine (suc (suc n)) (plain i ∷ plain j ∷ [])
two n i j h k = ((h, (k, tt)), omega arith)

three : (i j k : Insn) → IsFine (plain i) → IsFine (plain j) → IsFine (plain k)
    → AreFine 3 (plain i ∷ plain j ∷ plain k ∷ [])
three i j k h l m = ((h, (l, (m, tt))), omega arith)

-- ---- places

-- the place is a register for variables, a byte of one, or a slot near EBP
abbrev pub IsNear : Place → Type 0
IsNear (InWord r) = IsGeneral r
IsNear (InByte r) = ⊤
IsNear (InSlot k) = k ≤ 0x4000

pub fits-below : (d : ℕ) → d ≤ 0x4000 → FitsSigned w32 (neg_ℤ (pos d))
fits-below zero h = grind (arith, ints)
fits-below (suc n) h = omega (arith, ints)

pub fits-near : (d : ℕ) → d ≤ 0x4000 → FitsSigned w32 (pos d)
fits-near d h = omega (arith, ints)

scratch-fits : FitsSigned w32 (neg_ℤ (pos scratch))
scratch-fits = fits-below 16 (omega arith)

general-index : (r : Reg32) → IsGeneral r → number32 r ≢ 4
general-index Eax h = λ e. omega (arith, e)
general-index Ecx h = λ e. omega (arith, e)
general-index Edx h = λ e. omega (arith, e)
general-index Ebx h = λ e. omega (arith, e)
general-index Esp h = absurd h
general-index Ebp h = absurd h
general-index Esi h = absurd h
general-index Edi h = absurd h

-- ---- moves

pub read-fine : (t : Reg32) (p : Place) → IsNear p → AreFine 1 (read t p)
read-fine t (InWord r) h =
    either-way (AreFine 1) (number32 r == number32 t) [] (plain (insn.Mov (rm.Reg t) r) ∷ []) (none 1)
    (one 0 (insn.Mov (rm.Reg t) r) tt tt)
read-fine t (InByte r) h = one 0 (insn.MovSx8 t (rm8.Reg r)) tt tt
read-fine t (InSlot k) h = one 0 (insn.MovLoad t (below k)) (fits-below k h) tt

pub write-fine : (p : Place) (t : Reg32) → IsNear p → AreFine 2 (write p t)
write-fine (InWord r) t h =
    either-way (AreFine 2) (number32 r == number32 t) [] (plain (insn.Mov (rm.Reg r) t) ∷ []) (none 2)
    (one 1 (insn.Mov (rm.Reg r) t) tt tt)
write-fine (InByte r) t h =
    two 0 (insn.Mov (rm.Mem (below scratch)) t) (insn.Mov8Load r (below scratch)) (scratch-fits, tt) (scratch-fits, tt)
write-fine (InSlot k) t h = one 1 (insn.Mov (rm.Mem (below k)) t) (fits-below k h) tt

pub operate-fine : (how : AluOp) (t : Reg32) (p : Place) → IsNear p → AreFine 2 (operate how t p)
operate-fine how t (InWord r) h = one 1 (insn.Alu how (rm.Reg t) r) tt tt
operate-fine how t (InByte r) h =
    two 0 (insn.MovSx8 Edi (rm8.Reg r)) (insn.Alu how (rm.Reg t) Edi) (tt, tt) (tt, tt)
operate-fine how t (InSlot k) h = one 1 (insn.AluLoad how t (below k)) (fits-below k h) tt

pub number-fine : (p : Place) (n : ℤ) → IsNear p → FitsSigned w32 n → AreFine 1 (number_row p n)
number-fine (InWord r) n h fits = one 0 (insn.MovImm (rm.Reg r) n) (tt, fits) (tt, tt)
number-fine (InByte r) n h fits = ((((tt, tt)), tt), omega arith)
number-fine (InSlot k) n h fits = one 0 (insn.MovImm (rm.Mem (below k)) n) (fits-below k h, fits) (tt, tt)

pub copy-fine : (p q : Place) → IsNear p → IsNear q → AreFine 2 (copy_row p q)
copy-fine (InWord s) (InWord d) h k = one 1 (insn.Mov (rm.Reg d) s) tt tt
copy-fine (InWord s) (InByte d) h k = write-fine (InByte d) s k
copy-fine (InWord s) (InSlot d) h k = one 1 (insn.Mov (rm.Mem (below d)) s) (fits-below d k) tt
copy-fine (InByte s) (InWord d) h k = one 1 (insn.MovSx8 d (rm8.Reg s)) tt tt
copy-fine (InByte s) (InByte d) h k = one 1 (insn.Mov8 (rm8.Reg d) s) tt tt
copy-fine (InByte s) (InSlot d) h k = one 1 (insn.Mov8 (rm8.Mem (below d)) s) (fits-below d k) tt
copy-fine (InSlot s) (InWord d) h k = one 1 (insn.MovLoad d (below s)) (fits-below s h) tt
copy-fine (InSlot s) (InByte d) h k = one 1 (insn.Mov8Load d (below s)) (fits-below s h) tt
copy-fine (InSlot s) (InSlot d) h k =
    two 0 (insn.MovLoad Esi (below s)) (insn.Mov (rm.Mem (below d)) Esi) (fits-below s h, tt) (fits-below d k, tt)

-- a row that is written at its end
written : (n : ℕ) (items : List Item) (p : Place) (t : Reg32) → AreFine n items → IsNear p
    → AreFine (n + 2) (items ++ write p t)
written n items p t a h = join IsFine n 2 items (write p t) a (write-fine p t h)

by_register-fine : (how : AluOp) (p q r : Place) → IsNear p → IsNear q → IsNear r → AreFine 5 (by_register how p q r)
by_register-fine how p q r h k l =
    let t : Reg32 = working p q r in
    written 3 (read t q ++ operate how t r) p t
    (join IsFine 1 2 (read t q) (operate how t r) (read-fine t q k) (operate-fine how t r l)) h

in_slot-fine : (how : AluOp) (k : ℕ) (r : Place) → k ≤ 0x4000 → IsNear r → AreFine 5 (in_slot how k r)
in_slot-fine how k r h l =
    let t : Reg32 = target_of r in
    let change : List Item = plain (insn.Alu how (rm.Mem (below k)) t) ∷ [] in
    join IsFine 1 4 (read t r) change (read-fine t r l) (one 3 (insn.Alu how (rm.Mem (below k)) t) (fits-below k h) tt)

pub operation-fine : (how : AluOp) (p q r : Place) → IsNear p → IsNear q → IsNear r → AreFine 5 (operation how p q r)
operation-fine how (InWord d) q r h k l = by_register-fine how (InWord d) q r h k l
operation-fine how (InByte d) q r h k l = by_register-fine how (InByte d) q r h k l
operation-fine how (InSlot b) q r h k l =
    either-way (AreFine 5) (is_at b q) (in_slot how b r) (by_register how (InSlot b) q r) (in_slot-fine how b r h l)
    (by_register-fine how (InSlot b) q r h k l)

pub commuting-fine : (how : AluOp) (p q r : Place) → IsNear p → IsNear q → IsNear r → AreFine 5 (commuting how p q r)
commuting-fine how p q r h k l =
    either-way (AreFine 5) (has_operand p r) (operation how p r q) (operation how p q r)
    (operation-fine how p r q h l k) (operation-fine how p q r h k l)

-- the address of two registers
sum-fine : (p : Place) (a b : Reg32) → IsNear p → IsGeneral b
    → AreFine 5 (plain (insn.Lea (target_of p) (sum_of a b)) ∷ write p (target_of p))
sum-fine p a b h k =
    let lea : Insn = insn.Lea (target_of p) (sum_of a b) in
    written 3 (plain lea ∷ []) p (target_of p) (one 2 lea (fits-near 0 (omega arith)) (general-index b k, refl)) h

pub adding-fine : (p q r : Place) → IsNear p → IsNear q → IsNear r → AreFine 5 (adding p q r)
adding-fine p (InWord a) (InWord b) h k l =
    either-way (AreFine 5) (has_operand p (InWord a) || has_operand p (InWord b))
    (commuting alu.Add p (InWord a) (InWord b))
    (plain (insn.Lea (target_of p) (sum_of a b)) ∷ write p (target_of p))
    (commuting-fine alu.Add p (InWord a) (InWord b) h k l) (sum-fine p a b h l)
adding-fine p (InWord a) (InByte b) h k l = commuting-fine alu.Add p (InWord a) (InByte b) h k l
adding-fine p (InWord a) (InSlot b) h k l = commuting-fine alu.Add p (InWord a) (InSlot b) h k l
adding-fine p (InByte a) r h k l = commuting-fine alu.Add p (InByte a) r h k l
adding-fine p (InSlot a) r h k l = commuting-fine alu.Add p (InSlot a) r h k l

pub pass-fine : (p : Place) → IsNear p → AreFine 2 (pass p)
pass-fine (InWord r) h = one 1 (insn.Push (rm.Reg r)) tt tt
pass-fine (InByte r) h = two 0 (insn.MovSx8 Esi (rm8.Reg r)) (insn.Push (rm.Reg Esi)) (tt, tt) (tt, tt)
pass-fine (InSlot k) h = one 1 (insn.Push (rm.Mem (below k))) (fits-below k h) tt

-- ---- computed values

multiply-fine : (t : Reg32) (p : Place) → IsNear p → AreFine 2 (multiply t p)
multiply-fine t (InWord r) h = one 1 (insn.IMul t (rm.Reg r)) tt tt
multiply-fine t (InByte r) h =
    two 0 (insn.MovSx8 Edi (rm8.Reg r)) (insn.IMul t (rm.Reg Edi)) (tt, tt) (tt, tt)
multiply-fine t (InSlot k) h = one 1 (insn.IMul t (rm.Mem (below k))) (fits-below k h) tt

product-fine : (p q r : Place) → IsNear p → IsNear q → IsNear r → AreFine 5 (product_of p q r)
product-fine p q r h k l =
    let t : Reg32 = working p q r in
    written 3 (read t q ++ multiply t r) p t
    (join IsFine 1 2 (read t q) (multiply t r) (read-fine t q k) (multiply-fine t r l)) h

pub multiplying-fine : (p q r : Place) → IsNear p → IsNear q → IsNear r → AreFine 5 (multiplying p q r)
multiplying-fine p q r h k l =
    either-way (AreFine 5) (is_in (target_of p) r) (product_of p r q) (product_of p q r) (product-fine p r q h l k)
    (product-fine p q r h k l)

pub changing-fine : (how : Rm32 → Insn) (p q : Place) → ((r : Reg32) → IsFine (plain (how (rm.Reg r)))) → IsNear p
    → IsNear q → AreFine 4 (changing how p q)
changing-fine how p q fine h k =
    let t : Reg32 = target_of p in
    let change : List Item = plain (how (rm.Reg t)) ∷ [] in
    written 2 (read t q ++ change) p t
    (join IsFine 1 1 (read t q) change (read-fine t q k) ((fine t, tt), omega arith)) h

-- the operand can be named
abbrev pub IsNamed : Operand → Type 0
IsNamed operand = IsOperand operand × HasIndex operand

byte-named : (p : Place) → IsNear p → IsNamed (operand8 (byte_operand p))
byte-named (InWord r) h = (tt, tt)
byte-named (InByte r) h = (tt, tt)
byte-named (InSlot k) h = (fits-below k h, tt)

pub widening-fine : (how : Reg32 → Rm8 → Insn) (p q : Place)
    → ((t : Reg32) (o : Rm8) → IsNamed (operand8 o) → IsFine (plain (how t o))) → IsNear p → IsNear q
    → AreFine 3 (widening how p q)
widening-fine how p q fine h k =
    let t : Reg32 = target_of p in
    written 1 (extend how t q) p t ((fine t (byte_operand q) (byte-named q k), tt), omega arith) h

pub lowering-fine : (p q : Place) → IsNear p → IsNear q → AreFine 2 (lowering p q)
lowering-fine (InWord r) q h k = copy-fine q (InWord r) k h
lowering-fine (InByte r) (InWord q) h k = copy-fine (InByte (low_byte q)) (InByte r) tt tt
lowering-fine (InByte r) (InByte q) h k = copy-fine (InByte q) (InByte r) tt tt
lowering-fine (InByte r) (InSlot b) h k = one 1 (insn.Mov8Load r (below b)) (fits-below b k) tt
lowering-fine (InSlot b) q h k = copy-fine q (InSlot b) k h

half-fine : (t : Reg32) (p : Place) → IsNear p → AreFine 2 (extend_half t p)
half-fine t (InWord r) h = one 1 (insn.MovSx16 t (rm.Reg r)) tt tt
half-fine t (InByte r) h = two 0 (insn.MovSx8 t (rm8.Reg r)) (insn.MovSx16 t (rm.Reg t)) (tt, tt) (tt, tt)
half-fine t (InSlot k) h = one 1 (insn.MovSx16 t (rm.Mem (below k))) (fits-below k h) tt

pub halving-fine : (p q : Place) → IsNear p → IsNear q → AreFine 4 (halving p q)
halving-fine p q h k = written 2 (extend_half (target_of p) q) p (target_of p) (half-fine (target_of p) q k) h

count-fine : (p : Place) → IsNear p → AreFine 1 (into_count p)
count-fine (InWord r) h = one 0 (insn.Mov8 (rm8.Reg Cl) (low_byte r)) tt tt
count-fine (InByte r) h =
    either-way (AreFine 1) (number8 r == number8 Cl) [] (plain (insn.Mov8 (rm8.Reg Cl) r) ∷ []) (none 1)
    (one 0 (insn.Mov8 (rm8.Reg Cl) r) tt tt)
count-fine (InSlot k) h = one 0 (insn.Mov8Load Cl (below k)) (fits-below k h) tt

pub shifting-fine : (how : ShiftOp) (p q c : Place) → IsNear p → IsNear q → IsNear c → AreFine 5 (shifting how p q c)
shifting-fine how p q c h k l =
    let t : Reg32 = shifted_in p q c in
    let shift : List Item = plain (insn.ShiftCl how (rm.Reg t)) ∷ [] in
    written 3 (read t q ++ (into_count c ++ shift)) p t
    (join IsFine 1 2 (read t q) (into_count c ++ shift) (read-fine t q k)
    (join IsFine 1 1 (into_count c) shift (count-fine c l) (one 0 (insn.ShiftCl how (rm.Reg t)) tt tt))) h

clear-fine : (p : Place) → IsNear p → AreFine 1 (clear_divisor p)
clear-fine (InWord r) h =
    either-way (AreFine 1) (number32 r == number32 Eax || number32 r == number32 Edx) (read Esi (InWord r)) []
    (read-fine Esi (InWord r) h) (none 1)
clear-fine (InByte r) h = one 0 (insn.MovSx8 Esi (rm8.Reg r)) tt tt
clear-fine (InSlot k) h = none 1

divisor-named : (p : Place) → IsNear p → IsNamed (operand32 (divisor_of p))
divisor-named (InWord r) h =
    either-way (λ (o : Rm32). IsNamed (operand32 o)) (number32 r == number32 Eax || number32 r == number32 Edx)
    (rm.Reg Esi) (rm.Reg r) (tt, tt) (tt, tt)
divisor-named (InByte r) h = (tt, tt)
divisor-named (InSlot k) h = (fits-below k h, tt)

pub dividing-fine : (upper : Insn) (divide : Rm32 → Insn) (part : Reg32) (p q r : Place) → IsFine (plain upper)
    → ((o : Rm32) → IsNamed (operand32 o) → IsFine (plain (divide o))) → IsNear p → IsNear q → IsNear r
    → AreFine 6 (dividing upper divide part p q r)
dividing-fine upper divide part p q r above fine h k l =
    let makes : List Item = plain upper ∷ [] in
    let divides : List Item = plain (divide (divisor_of r)) ∷ [] in
    written 4 (before_division upper q r ++ divides) p part
    (join IsFine 3 1 (before_division upper q r) divides
    (join IsFine 2 1 (clear_divisor r ++ read Eax q) makes
    (join IsFine 1 1 (clear_divisor r) (read Eax q) (clear-fine r l) (read-fine Eax q k)) ((above, tt), omega arith))
    ((fine (divisor_of r) (divisor-named r l), tt), omega arith)) h

-- ---- comparisons

wider : (n : ℕ) (items : List Item) → AreFine n items → AreFine (suc n) items
wider n items h = (h.0, more (length items) n h.1)
  where
    more : (x n : ℕ) → x ≤ n → x ≤ suc n
    more x n h = omega arith

pub comparing-fine : (p q : Place) → IsNear p → IsNear q → AreFine 3 (comparing p q)
comparing-fine (InWord r) q h k = wider 2 (operate alu.Cmp r q) (operate-fine alu.Cmp r q k)
comparing-fine (InByte r) q h k =
    join IsFine 1 2 (read Esi (InByte r)) (operate alu.Cmp Esi q) (read-fine Esi (InByte r) tt)
    (operate-fine alu.Cmp Esi q k)
comparing-fine (InSlot b) (InWord q) h k = one 2 (insn.Alu alu.Cmp (rm.Mem (below b)) q) (fits-below b h) tt
comparing-fine (InSlot b) (InByte q) h k =
    join IsFine 1 2 (read Esi (InSlot b)) (operate alu.Cmp Esi (InByte q)) (read-fine Esi (InSlot b) h)
    (operate-fine alu.Cmp Esi (InByte q) tt)
comparing-fine (InSlot b) (InSlot c) h k =
    join IsFine 1 2 (read Esi (InSlot b)) (operate alu.Cmp Esi (InSlot c)) (read-fine Esi (InSlot b) h)
    (operate-fine alu.Cmp Esi (InSlot c) k)

set-fine : (c : Cond) (p : Place) → IsNear p → AreFine 3 (set_row c p)
set-fine c (InWord r) h =
    two 1 (insn.SetCc c (rm8.Reg (low_byte r))) (insn.MovZx8 r (rm8.Reg (low_byte r))) (tt, tt) (tt, tt)
set-fine c (InByte r) h = one 2 (insn.SetCc c (rm8.Reg r)) tt tt
set-fine c (InSlot k) h =
    three (insn.SetCc c (rm8.Mem (below k))) (insn.MovZx8 Esi (rm8.Mem (below k))) (insn.Mov (rm.Mem (below k)) Esi)
    (fits-below k h, tt) (fits-below k h, tt) (fits-below k h, tt)

pub setting-fine : (c : Cond) (p q r : Place) → IsNear p → IsNear q → IsNear r → AreFine 6 (setting c p q r)
setting-fine c p q r h k l =
    join IsFine 3 3 (comparing q r) (set_row c p) (comparing-fine q r k l) (set-fine c p h)

-- ---- a function's last items, and argument words

leave-fine : AreFine 5 leave
leave-fine = (
  (
    (fits-below 4 (omega arith), tt),
    ((fits-below 8 (omega arith), tt), ((fits-below 12 (omega arith), tt), ((tt, tt), ((tt, tt), tt)))),
  ),
  omega arith,
)

pub leaves : AreFine 6 leave
leaves = wider 5 leave leave-fine

pub return-fine : (p : Place) → IsNear p → AreFine 6 (return_row p)
return-fine p h = join IsFine 1 5 (read Eax p) leave (read-fine Eax p h) leave-fine

pub argument-fits : (k : ℕ) → FitsSigned w32 (argument_word k).disp
argument-fits k = signed-fits ((8 + 4 * k) % 2 ^ 32)

-- ---- accesses

pub loading-fine : (bits : Bits) (t : Reg32) (m : Mem) → FitsSigned w32 m.disp → IsIndex m.index
    → IsFine (plain (loading bits t m))
loading-fine Eight t m h k = (h, k)
loading-fine Sixteen t m h k = (h, k)
loading-fine ThirtyTwo t m h k = (h, k)

storing-fine : (bits : Bits) (m : Mem) (p : Place) → FitsSigned w32 m.disp → IsIndex m.index
    → AreFine 3 (storing bits m p)
storing-fine ThirtyTwo m p h k = one 2 (insn.Mov (rm.Mem m) (target_of p)) h k
storing-fine Sixteen m p h k = one 2 (insn.Mov16 (rm.Mem m) (target_of p)) h k
storing-fine Eight m (InWord r) h k = one 2 (insn.Mov8 (rm8.Mem m) (low_byte r)) h k
storing-fine Eight m (InByte r) h k = one 2 (insn.Mov8 (rm8.Mem m) r) h k
storing-fine Eight m (InSlot b) h k =
    three (insn.Xchg (rm.Reg Esi) Eax) (insn.Mov8 (rm8.Mem m) Al) (insn.Xchg (rm.Reg Esi) Eax) (tt, tt) (h, k) (tt, tt)

pub store_to-fine : (bits : Bits) (p : Place) → IsNear p → AreFine 4 (store_to bits p)
store_to-fine bits p h =
    join IsFine 1 3 (read (target_of p) p) (storing bits (near Edi 0) p) (read-fine (target_of p) p h)
    (storing-fine bits (near Edi 0) p (fits-near 0 (omega arith)) tt)

-- the address of an element to EDI, and the value on to it
store-behind : (bits : Bits) (m : Mem) (p : Place) → IsNear p → FitsSigned w32 m.disp → IsIndex m.index
    → AreFine 5 (plain (insn.Lea Edi m) ∷ store_to bits p)
store-behind bits m p h k l =
    join IsFine 1 4 (plain (insn.Lea Edi m) ∷ []) (store_to bits p) (one 0 (insn.Lea Edi m) k l)
    (store_to-fine bits p h)

pub store_at-fine : (bits : Bits) (m : Mem) (p : Place) → IsNear p → FitsSigned w32 m.disp → IsIndex m.index
    → AreFine 5 (store_at bits m p)
store_at-fine bits m (InWord r) h k l =
    wider 4 (storing bits m (InWord r)) (wider 3 (storing bits m (InWord r)) (storing-fine bits m (InWord r) k l))
store_at-fine bits m (InByte r) h k l = store-behind bits m (InByte r) h k l
store_at-fine bits m (InSlot b) h k l = store-behind bits m (InSlot b) h k l

index-general : (p : Place) → IsNear p → number32 (index_register p) ≢ 4
index-general (InWord r) h = general-index r h
index-general (InByte r) h = λ e. omega (arith, e)
index-general (InSlot k) h = λ e. omega (arith, e)

-- an element is taken by its width
pub element-index : (bits : Bits) (t : Reg32) (p : Place) → IsNear p
    → IsIndex (element (bytes_of bits) t (index_register p)).index
element-index Eight t p h = (index-general p h, refl)
element-index Sixteen t p h = (index-general p h, refl)
element-index ThirtyTwo t p h = (index-general p h, refl)

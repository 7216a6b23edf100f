-- What kinds of items the code of a graph has, over any placement.
use Rattle.std.specs.List.{AllByRecursion}
use Rattle.std.proofs.Common.{◌≡◌, ℕ, zero, suc, ◌+◌, ◌<◌, ◌≤◌, List, [], ◌∷◌, ◌++◌, length, Some, None, sym, ap}
use Rattle.std.proofs.Common.{subst, refl, ◌∙◌, arith, Option, map}
use Rattle.std.specs.Prelude.{◌==◌, ◌||◌, ⊤, ℤ, Bool, true, false, if◌then◌else◌, option_map, slice_get, slice_index_or}
use Rattle.std.specs.Prelude.{nat_lt, pos}
use Rattle.std.proofs.lemmas.Option.{same_Some}
pub use Rattle.pcc_base.proofs.Lists.{all-append, all-at, all-weaker, element-at}
use Rattle.ia32_insn.specs.declared.register_names.Reg32.{Reg32}
use Rattle.ia32_insn.specs.declared.register_names.Reg32.TheVariants.{Eax, Edx, Esp, Esi, Edi}
use Rattle.ia32_insn.specs.declared.register_names.Reg8.TheVariants.{Cl}
use Rattle.ia32_insn.specs.Registers.{number32, number8}
use Rattle.ia32_insn.specs.Places.{Place, InWord, InByte, InSlot}
use Rattle.ia32_insn.specs.declared.operand.Mem.{Mem}
use Rattle.ia32_insn.specs.declared.operand.Rm32.{Rm32}
use Rattle.ia32_insn.specs.declared.operand.Rm32.TheVariants as rm
use Rattle.ia32_insn.specs.declared.operand.Rm8.TheVariants as rm8
use Rattle.ia32_insn.specs.declared.insn.AluOp.{AluOp}
use Rattle.ia32_insn.specs.declared.insn.AluOp.TheVariants as alu
use Rattle.ia32_insn.specs.declared.operand.Rm8.{Rm8}
use Rattle.ia32_insn.specs.declared.insn.Cond.{Cond}
use Rattle.ia32_insn.specs.declared.insn.Cond.TheVariants as cond
use Rattle.ia32_insn.specs.declared.insn.Insn.{Insn}
use Rattle.ia32_insn.specs.declared.insn.Insn.TheVariants as insn
use Rattle.ia32_insn.specs.declared.insn.ShiftOp.{ShiftOp}
use Rattle.ia32_insn.specs.declared.insn.ShiftOp.TheVariants as shift
use Rattle.ia32_insn.specs.declared.item.Item.{Item}
use Rattle.ia32_insn.specs.declared.item.Item.TheVariants as item
use Rattle.ia32_insn.specs.declared.item.Stub.TheVariants as stub
use Rattle.ia32_insn.specs.Items.{Symbols, Places, ItemAt, ItemsAt, LeadsTo, jump_if, near, plain, stub_address}
use Rattle.ia32_insn.specs.Spelling.{Spells}
use Rattle.flow_graph.specs.declared.op.Bits.{Bits}
use Rattle.flow_graph.specs.declared.op.Bits.TheVariants.{Eight, Sixteen, ThirtyTwo}
use Rattle.flow_graph.specs.declared.op.Op.{Op}
use Rattle.flow_graph.specs.declared.op.Op.TheVariants as op
use Rattle.flow_graph.specs.Graphs.{Flow, points_of}
use Rattle.flow_graph.specs.Meaning.{bytes_of}
use Rattle.ia32_rows.proofs.Spelled.{IsCommon, common-begins}
use Rattle.ia32_rows.proofs.Straight.{straight-common}
use Rattle.ia32_rows.specs.Effects.{IsStraight}
use Rattle.ia32_rows.specs.Filling.{fill}
use Rattle.ia32_rows.specs.Follows.{is_nop}
use Rattle.ia32_rows.specs.Placements.{Placement, below}
use Rattle.ia32_rows.specs.Moves.{has_operand, is_at, is_in, target_of, working, read, write, operate, number_row}
use Rattle.ia32_rows.specs.Moves.{adding, by_register, copy_row, in_slot, operation, commuting, pass, sum_of}
use Rattle.ia32_rows.specs.Computing.{multiply, product_of, multiplying, changing, low_byte, byte_operand, extend}
use Rattle.ia32_rows.specs.Computing.{widening, lowering}
use Rattle.ia32_rows.specs.Computing.{extend_half, halving, into_count, shifted_in, shifting, clear_divisor}
use Rattle.ia32_rows.specs.Computing.{choosing, divisor_of, before_division, dividing, cond_of, cond_of_order, comparing}
use Rattle.ia32_rows.specs.Computing.{branching, jumping, set_row, setting, zero_edx}
use Rattle.ia32_rows.specs.Passing.{argument_word, param_row, pass_all, deepen, undeepen, drop_words, write_any}
use Rattle.ia32_rows.specs.Passing.{before_call, behind_call, call_row, leave, return_row, prologue}
use Rattle.ia32_rows.specs.Accesses.{loading, load_from, storing, store_to, index_register, count_before, element}
use Rattle.ia32_rows.specs.Accesses.{check_array, check_index, checking, load_row, store_at, store_row}
use Rattle.ia32_rows.specs.Rows.{entry_label, row, place_before, place_after, point_row, point_rows}
use Rattle.ia32_rows.specs.Rows.{block_rows, headers, loop_label, moves_into, moves_to, selected}

-- ---- the kinds of items

-- an item of a row: an instruction, or the label of a loop, and no point
abbrev pub IsRowItem : Item → Type 0
IsRowItem (item.Plain i) = ⊤
IsRowItem (item.Label l) = ⊤
IsRowItem (item.Point p) = ⊥
IsRowItem (item.JumpTo l) = ⊤
IsRowItem (item.JumpIf c l) = ⊤
IsRowItem (item.CallFunction f) = ⊤
IsRowItem (item.CallStub s) = ⊤
IsRowItem (item.JumpTrap c) = ⊤
IsRowItem (item.AddressOf r k) = ⊤

-- an instruction of a row, but NOP
abbrev pub IsOther : Item → Type 0
IsOther (item.Plain i) = IsCommon i
IsOther (item.Label l) = ⊥
IsOther (item.Point p) = ⊥
IsOther (item.JumpTo l) = ⊤
IsOther (item.JumpIf c l) = ⊤
IsOther (item.CallFunction f) = ⊤
IsOther (item.CallStub s) = ⊤
IsOther (item.JumpTrap c) = ⊤
IsOther (item.AddressOf r k) = ⊤

-- instructions of a row, but NOP
abbrev pub AreOthers : List Item → Type 0
AreOthers items = AllByRecursion IsOther items

-- an instruction as it stands, but NOP
abbrev pub IsPlain : Item → Type 0
IsPlain (item.Plain i) = IsCommon i
IsPlain (item.Label l) = ⊥
IsPlain (item.Point p) = ⊥
IsPlain (item.JumpTo l) = ⊥
IsPlain (item.JumpIf c l) = ⊥
IsPlain (item.CallFunction f) = ⊥
IsPlain (item.CallStub s) = ⊥
IsPlain (item.JumpTrap c) = ⊥
IsPlain (item.AddressOf r k) = ⊥

-- there is one at least
abbrev pub IsSome : List Item → Type 0
IsSome [] = ⊥
IsSome (i ∷ items) = ⊤

-- all items pass a test, and there are some
abbrev pub AreSome : (Item → Type 0) → List Item → Type 0
AreSome P items = AllByRecursion P items × IsSome items

-- instructions of a row, but NOP, and some
abbrev pub IsOtherRow : List Item → Type 0
IsOtherRow items = AreSome IsOther items

-- an instruction: neither a label nor a point
abbrev pub TakesRoom : Item → Type 0
TakesRoom (item.Plain i) = ⊤
TakesRoom (item.Label l) = ⊥
TakesRoom (item.Point p) = ⊥
TakesRoom (item.JumpTo l) = ⊤
TakesRoom (item.JumpIf c l) = ⊤
TakesRoom (item.CallFunction f) = ⊤
TakesRoom (item.CallStub s) = ⊤
TakesRoom (item.JumpTrap c) = ⊤
TakesRoom (item.AddressOf r k) = ⊤

-- they begin with one
abbrev pub BeginsWithRoom : List Item → Type 0
BeginsWithRoom [] = ⊥
BeginsWithRoom (i ∷ items) = TakesRoom i

-- items of a row, the first of which is an instruction
abbrev pub IsRow : List Item → Type 0
IsRow items = AllByRecursion IsRowItem items × BeginsWithRoom items

-- they begin with an instruction that is no NOP
abbrev pub BeginsWithOther : List Item → Type 0
BeginsWithOther [] = ⊥
BeginsWithOther (i ∷ items) = IsOther i

-- instructions as they stand alone
abbrev pub ArePlain : List Item → Type 0
ArePlain items = AllByRecursion IsPlain items

abbrev pub IsPlainRow : List Item → Type 0
IsPlainRow items = AreSome IsPlain items

plain-other : (i : Item) → IsPlain i → IsOther i
plain-other (item.Plain i) h = h
plain-other i h = absurd h

pub plain-others : (items : List Item) → ArePlain items → AreOthers items
plain-others items h = all-weaker IsPlain IsOther items plain-other h

plain-row : (items : List Item) → IsPlainRow items → IsOtherRow items
plain-row items h = (plain-others items h.0, h.1)

other-item : (i : Item) → IsOther i → IsRowItem i
other-item (item.Label l) h = absurd h
other-item (item.Point p) h = absurd h
other-item i h = tt

other-room : (i : Item) → IsOther i → TakesRoom i
other-room (item.Label l) h = absurd h
other-room (item.Point p) h = absurd h
other-room i h = tt

other-row : (items : List Item) → IsOtherRow items → IsRow items
other-row [] h = absurd h.1
other-row (i ∷ items) h = (all-weaker IsOther IsRowItem (i ∷ items) other-item h.0, other-room i h.0.0)

other-first : (items : List Item) → IsOtherRow items → BeginsWithOther items
other-first [] h = absurd h.1
other-first (i ∷ items) h = h.0.0

-- what holds of both of two choices holds of the choice
pub either-way : {X : Type 0} (P : X → Type 0) (b : Bool) (x y : X) → P x → P y → P (if b then x else y)
either-way P true x y p q = p
either-way P false x y p q = q

some-before : (xs ys : List Item) → IsSome xs → IsSome (xs ++ ys)
some-before [] ys h = absurd h
some-before (x ∷ xs) ys h = tt

some-behind : (xs ys : List Item) → IsSome ys → IsSome (xs ++ ys)
some-behind [] ys h = h
some-behind (x ∷ xs) ys h = tt

-- items before a row, and behind it
row-behind : (P : Item → Type 0) (xs ys : List Item) → AllByRecursion P xs → AreSome P ys → AreSome P (xs ++ ys)
row-behind P xs ys a b = (all-append P xs ys a b.0, some-behind xs ys b.1)

row-before : (P : Item → Type 0) (xs ys : List Item) → AreSome P xs → AllByRecursion P ys → AreSome P (xs ++ ys)
row-before P xs ys a b = (all-append P xs ys a.0 b, some-before xs ys a.1)

-- ---- of moves

read-insns : (t : Reg32) (p : Place) → ArePlain (read t p)
read-insns t (InWord r) =
    either-way ArePlain (number32 r == number32 t) [] (plain (insn.Mov (rm.Reg t) r) ∷ []) tt (tt, tt)
read-insns t (InByte r) = (tt, tt)
read-insns t (InSlot k) = (tt, tt)

write-insns : (p : Place) (t : Reg32) → ArePlain (write p t)
write-insns (InWord r) t =
    either-way ArePlain (number32 r == number32 t) [] (plain (insn.Mov (rm.Reg r) t) ∷ []) tt (tt, tt)
write-insns (InByte r) t = (tt, (tt, tt))
write-insns (InSlot k) t = (tt, tt)

operate-row : (how : AluOp) (t : Reg32) (p : Place) → IsPlainRow (operate how t p)
operate-row how t (InWord r) = ((tt, tt), tt)
operate-row how t (InByte r) = ((tt, (tt, tt)), tt)
operate-row how t (InSlot k) = ((tt, tt), tt)

number-row : (p : Place) (n : ℤ) → IsPlainRow (number_row p n)
number-row (InWord r) n = ((tt, tt), tt)
number-row (InByte r) n = ((tt, tt), tt)
number-row (InSlot k) n = ((tt, tt), tt)

copy-row : (p q : Place) → IsPlainRow (copy_row p q)
copy-row (InWord s) (InWord d) = ((tt, tt), tt)
copy-row (InWord s) (InByte d) = ((tt, (tt, tt)), tt)
copy-row (InWord s) (InSlot d) = ((tt, tt), tt)
copy-row (InByte s) (InWord d) = ((tt, tt), tt)
copy-row (InByte s) (InByte d) = ((tt, tt), tt)
copy-row (InByte s) (InSlot d) = ((tt, tt), tt)
copy-row (InSlot s) (InWord d) = ((tt, tt), tt)
copy-row (InSlot s) (InByte d) = ((tt, tt), tt)
copy-row (InSlot s) (InSlot d) = ((tt, (tt, tt)), tt)

-- a row that is written at its end
written-row : (items : List Item) (p : Place) (t : Reg32) → IsPlainRow items → IsPlainRow (items ++ write p t)
written-row items p t h = row-before IsPlain items (write p t) h (write-insns p t)

by_register-row : (how : AluOp) (p q r : Place) → IsPlainRow (by_register how p q r)
by_register-row how p q r =
    let t : Reg32 = working p q r in
    written-row (read t q ++ operate how t r) p t
    (row-behind IsPlain (read t q) (operate how t r) (read-insns t q) (operate-row how t r))

in_slot-row : (how : AluOp) (k : ℕ) (r : Place) → IsPlainRow (in_slot how k r)
in_slot-row how k r =
    row-behind IsPlain (read (target_of r) r) (plain (insn.Alu how (rm.Mem (below k)) (target_of r)) ∷ [])
    (read-insns (target_of r) r) ((tt, tt), tt)

operation-row : (how : AluOp) (p q r : Place) → IsPlainRow (operation how p q r)
operation-row how (InWord d) q r = by_register-row how (InWord d) q r
operation-row how (InByte d) q r = by_register-row how (InByte d) q r
operation-row how (InSlot k) q r =
    either-way IsPlainRow (is_at k q) (in_slot how k r) (by_register how (InSlot k) q r) (in_slot-row how k r)
    (by_register-row how (InSlot k) q r)

commuting-row : (how : AluOp) (p q r : Place) → IsPlainRow (commuting how p q r)
commuting-row how p q r =
    either-way IsPlainRow (has_operand p r) (operation how p r q) (operation how p q r) (operation-row how p r q)
    (operation-row how p q r)

adding-row : (p q r : Place) → IsPlainRow (adding p q r)
adding-row p (InWord a) (InWord b) =
    let lea : List Item = plain (insn.Lea (target_of p) (sum_of a b)) ∷ [] in
    either-way IsPlainRow (has_operand p (InWord a) || has_operand p (InWord b))
    (commuting alu.Add p (InWord a) (InWord b)) (lea ++ write p (target_of p))
    (commuting-row alu.Add p (InWord a) (InWord b)) (written-row lea p (target_of p) ((tt, tt), tt))
adding-row p (InWord a) (InByte b) = commuting-row alu.Add p (InWord a) (InByte b)
adding-row p (InWord a) (InSlot k) = commuting-row alu.Add p (InWord a) (InSlot k)
adding-row p (InByte a) r = commuting-row alu.Add p (InByte a) r
adding-row p (InSlot k) r = commuting-row alu.Add p (InSlot k) r

pass-row : (p : Place) → IsPlainRow (pass p)
pass-row (InWord r) = ((tt, tt), tt)
pass-row (InByte r) = ((tt, (tt, tt)), tt)
pass-row (InSlot k) = ((tt, tt), tt)

-- ---- of computed values

multiply-row : (t : Reg32) (p : Place) → IsPlainRow (multiply t p)
multiply-row t (InWord r) = ((tt, tt), tt)
multiply-row t (InByte r) = ((tt, (tt, tt)), tt)
multiply-row t (InSlot k) = ((tt, tt), tt)

product-row : (p q r : Place) → IsPlainRow (product_of p q r)
product-row p q r =
    let t : Reg32 = working p q r in
    written-row (read t q ++ multiply t r) p t
    (row-behind IsPlain (read t q) (multiply t r) (read-insns t q) (multiply-row t r))

multiplying-row : (p q r : Place) → IsPlainRow (multiplying p q r)
multiplying-row p q r =
    either-way IsPlainRow (is_in (target_of p) r) (product_of p r q) (product_of p q r) (product-row p r q)
    (product-row p q r)

changing-row : (how : Rm32 → Insn) (p q : Place) → ((operand : Rm32) → IsCommon (how operand))
    → IsPlainRow (changing how p q)
changing-row how p q common =
    let t : Reg32 = target_of p in
    let one : List Item = plain (how (rm.Reg t)) ∷ [] in
    written-row (read t q ++ one) p t
    (row-behind IsPlain (read t q) one (read-insns t q) ((common (rm.Reg t), tt), tt))

widening-row : (how : Reg32 → Rm8 → Insn) (p q : Place) → ((t : Reg32) (operand : Rm8) → IsPlain (plain (how t operand)))
    → IsPlainRow (widening how p q)
widening-row how p q common =
    let t : Reg32 = target_of p in
    written-row (extend how t q) p t ((common t (byte_operand q), tt), tt)

lowering-row : (p q : Place) → IsPlainRow (lowering p q)
lowering-row (InWord r) q = copy-row q (InWord r)
lowering-row (InByte r) (InWord q) = copy-row (InByte (low_byte q)) (InByte r)
lowering-row (InByte r) (InByte q) = copy-row (InByte q) (InByte r)
lowering-row (InByte r) (InSlot k) = ((tt, tt), tt)
lowering-row (InSlot k) q = copy-row q (InSlot k)

half-row : (t : Reg32) (p : Place) → IsPlainRow (extend_half t p)
half-row t (InWord r) = ((tt, tt), tt)
half-row t (InByte r) = ((tt, (tt, tt)), tt)
half-row t (InSlot k) = ((tt, tt), tt)

halving-row : (p q : Place) → IsPlainRow (halving p q)
halving-row p q = written-row (extend_half (target_of p) q) p (target_of p) (half-row (target_of p) q)

count-insns : (p : Place) → ArePlain (into_count p)
count-insns (InWord r) = (tt, tt)
count-insns (InByte r) =
    either-way ArePlain (number8 r == number8 Cl) [] (plain (insn.Mov8 (rm8.Reg Cl) r) ∷ []) tt (tt, tt)
count-insns (InSlot k) = (tt, tt)

shifting-row : (how : ShiftOp) (p q c : Place) → IsPlainRow (shifting how p q c)
shifting-row how p q c =
    let t : Reg32 = shifted_in p q c in
    let one : List Item = plain (insn.ShiftCl how (rm.Reg t)) ∷ [] in
    written-row (read t q ++ (into_count c ++ one)) p t
    (row-behind IsPlain (read t q) (into_count c ++ one) (read-insns t q)
    (row-behind IsPlain (into_count c) one (count-insns c) ((tt, tt), tt)))

clear-insns : (p : Place) → ArePlain (clear_divisor p)
clear-insns (InWord r) =
    either-way ArePlain (number32 r == number32 Eax || number32 r == number32 Edx) (read Esi (InWord r)) []
    (read-insns Esi (InWord r)) tt
clear-insns (InByte r) = (tt, tt)
clear-insns (InSlot k) = tt

dividing-row : (above : Insn) (divide : Rm32 → Insn) (part : Reg32) (p q r : Place) → IsPlain (plain above)
    → IsPlain (plain (divide (divisor_of r))) → IsPlainRow (dividing above divide part p q r)
dividing-row above divide part p q r first last =
    let upper : List Item = plain above ∷ [] in
    let one : List Item = plain (divide (divisor_of r)) ∷ [] in
    written-row (before_division above q r ++ one) p part
    (row-behind IsPlain (before_division above q r) one
    (all-append IsPlain (clear_divisor r ++ read Eax q) upper
    (all-append IsPlain (clear_divisor r) (read Eax q) (clear-insns r) (read-insns Eax q)) (first, tt))
    ((last, tt), tt))

pub comparing-row : (p q : Place) → IsPlainRow (comparing p q)
comparing-row (InWord r) q = operate-row alu.Cmp r q
comparing-row (InByte r) q =
    row-behind IsPlain (read Esi (InByte r)) (operate alu.Cmp Esi q) (tt, tt) (operate-row alu.Cmp Esi q)
comparing-row (InSlot k) (InWord q) = ((tt, tt), tt)
comparing-row (InSlot k) (InByte q) = ((tt, (tt, (tt, tt))), tt)
comparing-row (InSlot k) (InSlot b) = ((tt, (tt, tt)), tt)

set-insns : (c : Cond) (p : Place) → ArePlain (set_row c p)
set-insns c (InWord r) = (tt, (tt, tt))
set-insns c (InByte r) = (tt, tt)
set-insns c (InSlot k) = (tt, (tt, (tt, tt)))

compared-row : (p q : Place) (items : List Item) → AreOthers items → IsOtherRow (comparing p q ++ items)
compared-row p q items h =
    row-before IsOther (comparing p q) items (plain-row (comparing p q) (comparing-row p q)) h

-- ---- of calls

-- the word of a register to a place is the last of a row
write-row : (p : Place) (t : Reg32) → AreOthers (write p t)
write-row p t = plain-others (write p t) (write-insns p t)

passed-row : (p : Place) (items : List Item) → AreOthers items → IsOtherRow (pass p ++ items)
passed-row p items h = row-before IsOther (pass p) items (plain-row (pass p) (pass-row p)) h

pass_all-insns : (places : List Place) → ArePlain (pass_all places)
pass_all-insns [] = tt
pass_all-insns (p ∷ places) = all-append IsPlain (pass_all places) (pass p) (pass_all-insns places) (pass-row p).0

drop-insns : (words : ℕ) → AreOthers (drop_words words)
drop-insns zero = tt
drop-insns (suc n) = (tt, tt)

write_any-insns : (p : Option Place) → AreOthers (write_any p)
write_any-insns None = tt
write_any-insns (Some p) = write-row p Eax

call-row : (result : Option Place) (f : ℕ) (arguments : List Place) → IsOtherRow (call_row result f arguments)
call-row result f arguments =
    let words : ℕ = length arguments in
    let back : AreOthers (behind_call result words) =
    all-append IsOther (drop_words words ++ undeepen) (write_any result)
    (all-append IsOther (drop_words words) undeepen (drop-insns words) (tt, (tt, tt))) (write_any-insns result) in
    row-before IsOther (before_call arguments) (item.CallFunction f ∷ behind_call result words)
    (row-before IsOther deepen (pass_all arguments) ((tt, (tt, (tt, (tt, tt)))), tt)
    (plain-others (pass_all arguments) (pass_all-insns arguments))) (tt, back)

leave-row : IsPlainRow leave
leave-row = ((tt, (tt, (tt, (tt, (tt, tt))))), tt)

return-row : (p : Place) → IsPlainRow (return_row p)
return-row p = row-behind IsPlain (read Eax p) leave (read-insns Eax p) leave-row

-- ---- of accesses

-- an item that is no NOP, and the word of a register to a place
written-behind : (i : Item) (p : Place) (t : Reg32) → IsOther i → IsOtherRow (i ∷ write p t)
written-behind i p t h = ((h, write-row p t), tt)

load_from-row : (bits : Bits) (p : Place) (m : Mem) → IsOtherRow (load_from bits p m)
load_from-row Eight p m = written-behind (plain (loading Eight (target_of p) m)) p (target_of p) tt
load_from-row Sixteen p m = written-behind (plain (loading Sixteen (target_of p) m)) p (target_of p) tt
load_from-row ThirtyTwo p m = written-behind (plain (loading ThirtyTwo (target_of p) m)) p (target_of p) tt

storing-row : (bits : Bits) (m : Mem) (p : Place) → IsOtherRow (storing bits m p)
storing-row ThirtyTwo m p = ((tt, tt), tt)
storing-row Sixteen m p = ((tt, tt), tt)
storing-row Eight m (InWord r) = ((tt, tt), tt)
storing-row Eight m (InByte r) = ((tt, tt), tt)
storing-row Eight m (InSlot k) = ((tt, (tt, (tt, tt))), tt)

read-row : (t : Reg32) (p : Place) → AreOthers (read t p)
read-row t p = plain-others (read t p) (read-insns t p)

store_to-insns : (bits : Bits) (p : Place) → AreOthers (store_to bits p)
store_to-insns bits p =
    all-append IsOther (read (target_of p) p) (storing bits (near Edi 0) p) (read-row (target_of p) p)
    (storing-row bits (near Edi 0) p).0

store_at-row : (bits : Bits) (m : Mem) (p : Place) → IsOtherRow (store_at bits m p)
store_at-row bits m (InWord r) = storing-row bits m (InWord r)
store_at-row bits m (InByte r) = ((tt, store_to-insns bits (InByte r)), tt)
store_at-row bits m (InSlot k) = ((tt, store_to-insns bits (InSlot k)), tt)

checking-insns : (p q : Place) → AreOthers (checking p q)
checking-insns p q =
    let test : List Item = plain (insn.Test (rm.Reg (target_of p)) (target_of p)) ∷ item.JumpTrap (Some cond.E) ∷ [] in
    let compare : List Item = plain (insn.AluLoad alu.Cmp (index_register q) (count_before (target_of p)))
    ∷ item.JumpTrap (Some cond.Ae) ∷ [] in
    all-append IsOther (check_array p) (check_index p q)
    (all-append IsOther (read (target_of p) p) test (read-row (target_of p) p) (tt, (tt, tt)))
    (all-append IsOther (read (index_register q) q) compare (read-row (index_register q) q) (tt, (tt, tt)))

load-row : (bits : Bits) (p q r : Place) → IsOtherRow (load_row bits p q r)
load-row bits p q r =
    let m : Mem = element (bytes_of bits) (target_of q) (index_register r) in
    row-behind IsOther (checking q r) (load_from bits p m) (checking-insns q r) (load_from-row bits p m)

store-row : (bits : Bits) (p q r : Place) → IsOtherRow (store_row bits p q r)
store-row bits p q r =
    let m : Mem = element (bytes_of bits) (target_of p) (index_register q) in
    row-behind IsOther (checking p q) (store_at bits m r) (checking-insns p q) (store_at-row bits m r)

-- ---- of moves between points

-- plain instructions take room
plain-room : (insns : List Insn) → AllByRecursion TakesRoom (map item.Plain insns)
plain-room [] = tt
plain-room (i ∷ insns) = (tt, plain-room insns)

moves-room : (placement : Placement) (p : ℕ) (next : Option ℕ) → AllByRecursion TakesRoom (moves_to placement p next)
moves-room placement p None = tt
moves-room placement p (Some q) = plain-room (placement.between p q)

-- what takes room is an item of a row
room-item : (i : Item) → TakesRoom i → IsRowItem i
room-item (item.Point p) h = absurd h
room-item i h = tt

room-items : (items : List Item) → AllByRecursion TakesRoom items → AllByRecursion IsRowItem items
room-items items h = all-weaker TakesRoom IsRowItem items room-item h

pub moves-items : (placement : Placement) (p : ℕ) (next : Option ℕ)
    → AllByRecursion IsRowItem (moves_to placement p next)
moves-items placement p next = room-items (moves_to placement p next) (moves-room placement p next)

begins-join : (xs ys : List Item) → BeginsWithRoom xs → BeginsWithRoom (xs ++ ys)
begins-join [] ys h = absurd h
begins-join (x ∷ xs) ys h = h

room-row : (items : List Item) → AreSome TakesRoom items → IsRow items
room-row [] h = absurd h.1
room-row (i ∷ items) h = (room-items (i ∷ items) h.0, h.0.0)

-- a jump behind moves, and a choice of two
jumping-row : (moves : List Item) (l : ℕ) → AllByRecursion TakesRoom moves → IsRow (jumping moves l)
jumping-row moves l h = room-row (jumping moves l) (row-behind TakesRoom moves (item.JumpTo l ∷ []) h ((tt, tt), tt))

choosing-items : (c : Cond) (detour taken other : ℕ) (first moves : List Item) → AllByRecursion TakesRoom first
    → AllByRecursion TakesRoom moves → AllByRecursion IsRowItem (choosing c detour first moves taken other)
choosing-items c detour taken other [] moves a b = (tt, (jumping-row moves other b).0)
choosing-items c detour taken other (x ∷ xs) moves a b = (
  tt,
  all-append IsRowItem (jumping moves other) (item.Label detour ∷ jumping (x ∷ xs) taken)
      (jumping-row moves other b).0 (tt, (jumping-row (x ∷ xs) taken a).0),
)

-- instructions that go on to the next one are no NOP
pub straight-others : (insns : List Insn) → AllByRecursion IsStraight insns → AreOthers (map item.Plain insns)
straight-others [] h = tt
straight-others (i ∷ insns) h = (straight-common i h.0, straight-others insns h.1)

setting-row : (c : Cond) (p q r : Place) → IsOtherRow (setting c p q r)
setting-row c p q r = compared-row q r (set_row c p) (plain-others (set_row c p) (set-insns c p))

-- ---- of ops

-- the op's row has a label, or moves on its way to a block
abbrev pub has_more : Op → Bool
has_more (op.Clear k) = true
has_more (op.Jump x) = true
has_more (op.Branch how a b x y) = true
has_more (op.Branchu how a b x y) = true
has_more o = false

-- the row of any other op but a mark and a turn has no NOP and no label
pub other-is : (flow : Flow) (placement : Placement) (p : ℕ) (o : Op) → has_more o ≡ false → is_nop (Some o) ≡ false
    → IsOtherRow (row flow placement p o)
other-is flow placement p (op.Const d n) straight none =
    plain-row (row flow placement p (op.Const d n))
    (number-row (place_after placement p d) n)
other-is flow placement p (op.Copy d s) straight none =
    plain-row (row flow placement p (op.Copy d s))
    (copy-row (place_before placement p s) (place_after placement p d))
other-is flow placement p (op.Wide d s) straight none =
    plain-row (row flow placement p (op.Wide d s))
    (widening-row insn.MovSx8 (place_after placement p d) (place_before placement p s) (λ t operand. tt))
other-is flow placement p (op.Zero d s) straight none =
    plain-row (row flow placement p (op.Zero d s))
    (widening-row insn.MovZx8 (place_after placement p d) (place_before placement p s) (λ t operand. tt))
other-is flow placement p (op.Low d s) straight none =
    plain-row (row flow placement p (op.Low d s))
    (lowering-row (place_after placement p d) (place_before placement p s))
other-is flow placement p (op.Low16 d s) straight none =
    plain-row (row flow placement p (op.Low16 d s))
    (halving-row (place_after placement p d) (place_before placement p s))
other-is flow placement p (op.Neg d s) straight none =
    plain-row (row flow placement p (op.Neg d s))
    (changing-row insn.Neg (place_after placement p d) (place_before placement p s) (λ operand. tt))
other-is flow placement p (op.Not d s) straight none =
    plain-row (row flow placement p (op.Not d s))
    (changing-row insn.Not (place_after placement p d) (place_before placement p s) (λ operand. tt))
other-is flow placement p (op.Add d a b) straight none =
    plain-row (row flow placement p (op.Add d a b))
    (adding-row (place_after placement p d) (place_before placement p a) (place_before placement p b))
other-is flow placement p (op.Sub d a b) straight none =
    plain-row (row flow placement p (op.Sub d a b))
    (operation-row alu.Sub (place_after placement p d) (place_before placement p a) (place_before placement p b))
other-is flow placement p (op.Mul d a b) straight none =
    plain-row (row flow placement p (op.Mul d a b))
    (multiplying-row (place_after placement p d) (place_before placement p a) (place_before placement p b))
other-is flow placement p (op.And d a b) straight none =
    plain-row (row flow placement p (op.And d a b))
    (commuting-row alu.And (place_after placement p d) (place_before placement p a) (place_before placement p b))
other-is flow placement p (op.Or d a b) straight none =
    plain-row (row flow placement p (op.Or d a b))
    (commuting-row alu.Or (place_after placement p d) (place_before placement p a) (place_before placement p b))
other-is flow placement p (op.Xor d a b) straight none =
    plain-row (row flow placement p (op.Xor d a b))
    (commuting-row alu.Xor (place_after placement p d) (place_before placement p a) (place_before placement p b))
other-is flow placement p (op.Shl d a b) straight none =
    plain-row (row flow placement p (op.Shl d a b))
    (shifting-row shift.Shl (place_after placement p d) (place_before placement p a) (place_before placement p b))
other-is flow placement p (op.Sar d a b) straight none =
    plain-row (row flow placement p (op.Sar d a b))
    (shifting-row shift.Sar (place_after placement p d) (place_before placement p a) (place_before placement p b))
other-is flow placement p (op.Shr d a b) straight none =
    plain-row (row flow placement p (op.Shr d a b))
    (shifting-row shift.Shr (place_after placement p d) (place_before placement p a) (place_before placement p b))
other-is flow placement p (op.Div d a b) straight none =
    plain-row (row flow placement p (op.Div d a b))
    (dividing-row insn.Cdq insn.IDiv Eax (place_after placement p d) (place_before placement p a)
    (place_before placement p b) tt tt)
other-is flow placement p (op.Rem d a b) straight none =
    plain-row (row flow placement p (op.Rem d a b))
    (dividing-row insn.Cdq insn.IDiv Edx (place_after placement p d) (place_before placement p a)
    (place_before placement p b) tt tt)
other-is flow placement p (op.Udiv d a b) straight none =
    plain-row (row flow placement p (op.Udiv d a b))
    (dividing-row zero_edx insn.Div Eax (place_after placement p d) (place_before placement p a)
    (place_before placement p b) tt tt)
other-is flow placement p (op.Urem d a b) straight none =
    plain-row (row flow placement p (op.Urem d a b))
    (dividing-row zero_edx insn.Div Edx (place_after placement p d) (place_before placement p a)
    (place_before placement p b) tt tt)
other-is flow placement p (op.Set how d a b) straight none =
    setting-row (cond_of how) (place_after placement p d) (place_before placement p a) (place_before placement p b)
other-is flow placement p (op.Setu how d a b) straight none =
    setting-row (cond_of_order how) (place_after placement p d) (place_before placement p a) (place_before placement p b)
other-is flow placement p (op.Param d k) straight none =
    let place : Place = place_after placement p d in
    let load : List Item = plain (insn.MovLoad (target_of place) (argument_word k)) ∷ [] in
    plain-row (param_row place k) (written-row load place (target_of place) ((tt, tt), tt))
other-is flow placement p (op.Call d f arguments) straight none =
    call-row (option_map (place_after placement p) d) f (map (place_before placement p) arguments)
other-is flow placement p (op.Putchar d s) straight none =
    passed-row (place_before placement p s)
    (item.CallStub stub.Putchar ∷ plain (insn.Pop Edi) ∷ write (place_after placement p d) Eax)
    (tt, (tt, write-row (place_after placement p d) Eax))
other-is flow placement p (op.Getchar d) straight none = ((tt, write-row (place_after placement p d) Eax), tt)
other-is flow placement p (op.Exit s) straight none =
    passed-row (place_before placement p s) (item.CallStub stub.Exit ∷ []) (tt, tt)
other-is flow placement p (op.Same a b) straight none =
    compared-row (place_before placement p a) (place_before placement p b) (item.JumpTrap (Some cond.Ne) ∷ []) (tt, tt)
other-is flow placement p (op.Mark s) straight none = absurd (let e : true ≡ false = none in cc)
other-is flow placement p op.Turn straight none = absurd (let e : true ≡ false = none in cc)
other-is flow placement p (op.Jump x) straight none = absurd (let e : true ≡ false = straight in cc)
other-is flow placement p (op.Branch how a b x y) straight none = absurd (let e : true ≡ false = straight in cc)
other-is flow placement p (op.Branchu how a b x y) straight none = absurd (let e : true ≡ false = straight in cc)
other-is flow placement p (op.Frame d k) straight none =
    let place : Place = place_after placement p d in
    written-behind (plain (insn.Lea (target_of place) (below (slice_index_or placement.arrays k 0)))) place
    (target_of place) tt
other-is flow placement p (op.Static d k) straight none =
    let place : Place = place_after placement p d in
    written-behind (item.AddressOf (target_of place) k) place (target_of place) tt
other-is flow placement p (op.Load bits d a i) straight none =
    load-row bits (place_after placement p d) (place_before placement p a) (place_before placement p i)
other-is flow placement p (op.Store bits a i s) straight none =
    store-row bits (place_before placement p a) (place_before placement p i) (place_before placement p s)
other-is flow placement p (op.Get bits d k) straight none =
    ((tt, (load_from-row bits (place_after placement p d) (near Esi 0)).0), tt)
other-is flow placement p (op.Put bits k s) straight none = ((tt, store_to-insns bits (place_before placement p s)), tt)
other-is flow placement p (op.Return (Some a)) straight none =
    plain-row (return_row (place_before placement p a)) (return-row (place_before placement p a))
other-is flow placement p (op.Return None) straight none = plain-row leave leave-row
other-is flow placement p (op.Clear k) straight none = absurd (let e : true ≡ false = straight in cc)

branching-row : (flow : Flow) (placement : Placement) (p : ℕ) (c : Cond) (a b x y : ℕ)
    → IsRow (branching c (loop_label flow p) (place_before placement p a) (place_before placement p b)
    (moves_into flow placement p x) (moves_into flow placement p y) x y)
branching-row flow placement p c a b x y =
    let first : List Item = comparing (place_before placement p a) (place_before placement p b) in
    let rest : List Item = choosing c (loop_label flow p) (moves_into flow placement p x) (moves_into flow placement p y) x
    y in
    let compared = other-row first (plain-row first (comparing-row (place_before placement p a)
    (place_before placement p b))) in (
      all-append IsRowItem first rest compared.0
          (choosing-items c (loop_label flow p) x y (moves_into flow placement p x) (moves_into flow placement p y)
          (moves-room placement p (slice_get (points_of flow x) 0)) (moves-room placement p (slice_get (points_of flow y) 0))),
      begins-join first rest compared.1,
    )

-- an op's row is one
pub row-is : (flow : Flow) (placement : Placement) (p : ℕ) (o : Op) → IsRow (row flow placement p o)
row-is flow placement p (op.Mark s) = ((tt, tt), tt)
row-is flow placement p op.Turn = ((tt, tt), tt)
row-is flow placement p (op.Clear k) = ((tt, (tt, (tt, (tt, (tt, (tt, (tt, tt))))))), tt)
row-is flow placement p (op.Jump x) =
    jumping-row (moves_into flow placement p x) x (moves-room placement p (slice_get (points_of flow x) 0))
row-is flow placement p (op.Branch how a b x y) = branching-row flow placement p (cond_of how) a b x y
row-is flow placement p (op.Branchu how a b x y) = branching-row flow placement p (cond_of_order how) a b x y
row-is flow placement p o = other-row (row flow placement p o) (other-is flow placement p o refl refl)

-- the moves of a jump are no NOPs
abbrev pub JumpsOverOthers : Flow → Placement → ℕ → Op → Type 0
JumpsOverOthers flow placement p o = (x : ℕ) → o ≡ op.Jump x → AreOthers (moves_into flow placement p x)

-- what begins with a comparison
comparison-begins : (p q : Place) (items : List Item) → BeginsWithOther (comparing p q ++ items)
comparison-begins p q items = first-joined (comparing p q) items (plain-row (comparing p q) (comparing-row p q))
  where
    first-joined : (xs ys : List Item) → IsOtherRow xs → BeginsWithOther (xs ++ ys)
    first-joined [] ys h = absurd h.1
    first-joined (x ∷ xs) ys h = h.0.0

-- that of a mark or a turn is a NOP, and that of any other op begins with another instruction
pub other-begins : (flow : Flow) (placement : Placement) (p : ℕ) (o : Op) → is_nop (Some o) ≡ false
    → JumpsOverOthers flow placement p o → BeginsWithOther (row flow placement p o)
other-begins flow placement p (op.Mark s) none moves = absurd (let e : true ≡ false = none in cc)
other-begins flow placement p op.Turn none moves = absurd (let e : true ≡ false = none in cc)
other-begins flow placement p (op.Clear k) none moves = tt
other-begins flow placement p (op.Jump x) none moves =
    other-first (row flow placement p (op.Jump x))
    (row-behind IsOther (moves_into flow placement p x) (item.JumpTo x ∷ []) (moves x refl) ((tt, tt), tt))
other-begins flow placement p (op.Branch how a b x y) none moves =
    comparison-begins (place_before placement p a) (place_before placement p b) _
other-begins flow placement p (op.Branchu how a b x y) none moves =
    comparison-begins (place_before placement p a) (place_before placement p b) _
other-begins flow placement p o none moves =
    other-first (row flow placement p o) (other-is flow placement p o refl refl)

-- ---- points are followed by instructions

-- what follows an item: behind a point an instruction
abbrev pub Behind : Item → List Item → Type 0
Behind (item.Plain i) items = ⊤
Behind (item.Label l) items = ⊤
Behind (item.Point p) items = BeginsWithRoom items
Behind (item.JumpTo l) items = ⊤
Behind (item.JumpIf c l) items = ⊤
Behind (item.CallFunction f) items = ⊤
Behind (item.CallStub s) items = ⊤
Behind (item.JumpTrap c) items = ⊤
Behind (item.AddressOf r k) items = ⊤

abbrev pub PointsTakeRoom : List Item → Type 0
PointsTakeRoom [] = ⊤
PointsTakeRoom (i ∷ items) = Behind i items × PointsTakeRoom items

behind-join : (i : Item) (xs ys : List Item) → Behind i xs → Behind i (xs ++ ys)
behind-join (item.Plain i) xs ys h = tt
behind-join (item.Label l) xs ys h = tt
behind-join (item.Point p) xs ys h = begins-join xs ys h
behind-join (item.JumpTo l) xs ys h = tt
behind-join (item.JumpIf c l) xs ys h = tt
behind-join (item.CallFunction f) xs ys h = tt
behind-join (item.CallStub s) xs ys h = tt
behind-join (item.JumpTrap c) xs ys h = tt
behind-join (item.AddressOf r k) xs ys h = tt

room-join : (xs ys : List Item) → PointsTakeRoom xs → PointsTakeRoom ys → PointsTakeRoom (xs ++ ys)
room-join [] ys a b = b
room-join (x ∷ xs) ys a b = (behind-join x xs ys a.0, room-join xs ys a.1 b)

-- behind what is no point anything may stand
item-behind : (i : Item) (items : List Item) → IsRowItem i → Behind i items
item-behind (item.Point p) items h = absurd h
item-behind (item.Plain i) items h = tt
item-behind (item.Label l) items h = tt
item-behind (item.JumpTo l) items h = tt
item-behind (item.JumpIf c l) items h = tt
item-behind (item.CallFunction f) items h = tt
item-behind (item.CallStub s) items h = tt
item-behind (item.JumpTrap c) items h = tt
item-behind (item.AddressOf r k) items h = tt

items-room : (items : List Item) → AllByRecursion IsRowItem items → PointsTakeRoom items
items-room [] h = tt
items-room (i ∷ items) h = (item-behind i items h.0, items-room items h.1)

point-room : (flow : Flow) (placement : Placement) (p : ℕ) → PointsTakeRoom (point_row flow placement p)
point-room flow placement p =
    let o : Op = slice_index_or flow.ops p op.Turn in
    let r = row-is flow placement p o in
    (r.1, items-room (row flow placement p o) r.0)

points-room : (flow : Flow) (placement : Placement) (points : List ℕ)
    → PointsTakeRoom (point_rows flow placement points)
points-room flow placement [] = tt
points-room flow placement (p ∷ ps) =
    let moves : List Item = moves_to placement p (slice_get ps 0) in
    room-join (point_row flow placement p) (moves ++ point_rows flow placement ps) (point-room flow placement p)
    (room-join moves (point_rows flow placement ps) (items-room moves (moves-items placement p (slice_get ps 0)))
    (points-room flow placement ps))

blocks-room : (flow : Flow) (placement : Placement) (k : ℕ) (blocks : List (List ℕ))
    → PointsTakeRoom (block_rows flow placement k blocks)
blocks-room flow placement k [] = tt
blocks-room flow placement k (points ∷ blocks) =
    room-join (item.Label k ∷ point_rows flow placement points) (block_rows flow placement (suc k) blocks)
    (tt, points-room flow placement points) (blocks-room flow placement (suc k) blocks)

prologue-room : (frame zeroed label : ℕ) → PointsTakeRoom (prologue frame zeroed label)
prologue-room frame zeroed label =
    let loops : List Item =
    plain (insn.MovImm (rm.Reg Esi) (pos 0)) ∷ plain (insn.Lea Edi (below zeroed)) ∷ fill Edi Esi Esp label in (
      tt,
      (
        tt,
        (
          tt,
          (
            tt,
            (
              tt,
              (
                tt,
                either-way PointsTakeRoom (nat_lt zeroed frame) loops [] (tt, (tt, (tt, (tt, (tt, (tt, (tt, tt))))))) tt,
              ),
            ),
          ),
        ),
      ),
    )

headers-room : (arrays : List (ℕ × ℕ)) (belows : List ℕ) → PointsTakeRoom (headers arrays belows)
headers-room arrays [] = tt
headers-room [] (d ∷ belows) = tt
headers-room (array ∷ arrays) (d ∷ belows) = (tt, headers-room arrays belows)

-- behind every point of a graph's code comes an instruction
pub selected-room : (flow : Flow) (placement : Placement) → PointsTakeRoom (selected flow placement)
selected-room flow placement =
    let numbers : List Item = headers flow.arrays placement.arrays in
    let blocks : List Item = block_rows flow placement 0 flow.blocks in
    room-join (prologue placement.frame placement.zeroed (entry_label flow)) (numbers ++ blocks)
    (prologue-room placement.frame placement.zeroed (entry_label flow))
    (room-join numbers blocks (headers-room flow.arrays placement.arrays) (blocks-room flow placement 0 flow.blocks))

-- ---- so two points have two addresses

insn-length : (i : Insn) (bytes : List ℕ) → Spells i bytes → 0 < length bytes
insn-length insn.Nop bytes e = let l = ap length e in omega (arith, l)
insn-length i bytes h = let l = ap length (common-begins i bytes tt h).2 in omega (arith, l)

leads-length : (f : ℤ → Insn) (address target : ℕ) (bytes : List ℕ) → LeadsTo f address target bytes
    → 0 < length bytes
leads-length f address target bytes (distance, spelled, leads) = insn-length (f distance) bytes spelled

pub item-room : (symbols : Symbols) (places : Places) (address : ℕ) (i : Item) (bytes : List ℕ) → TakesRoom i
    → ItemAt symbols places address i bytes → 0 < length bytes
item-room symbols places address (item.Plain i) bytes room at = insn-length i bytes at
item-room symbols places address (item.Label l) bytes room at = absurd room
item-room symbols places address (item.Point p) bytes room at = absurd room
item-room symbols places address (item.JumpTo l) bytes room at =
    leads-length insn.Jmp address (places.labels l) bytes at
item-room symbols places address (item.JumpIf c l) bytes room at =
    leads-length (insn.Jcc c) address (places.labels l) bytes at
item-room symbols places address (item.CallFunction f) bytes room (target, named, leads) =
    leads-length insn.Call address target bytes leads
item-room symbols places address (item.CallStub s) bytes room at =
    leads-length insn.Call address (stub_address symbols s) bytes at
item-room symbols places address (item.JumpTrap c) bytes room at =
    leads-length (jump_if c) address symbols.check bytes at
item-room symbols places address (item.AddressOf r k) bytes room (target, z, is, fits, spelled) =
    insn-length (insn.MovImm (rm.Reg r) z) bytes spelled

-- a point stands no earlier than the items it is among
pub later : (symbols : Symbols) (places : Places) (address : ℕ) (items : List Item) (bytes : List ℕ) (j q : ℕ)
    → ItemsAt symbols places address items bytes → slice_get items j ≡ Some (item.Point q) → address ≤ places.points q
later symbols places address [] bytes j q h e = absurd (cc)
later symbols places address (x ∷ xs) bytes zero q (first, rest, whole, at, more) e =
    let At : Item → Type 0 = λ i. ItemAt symbols places address i first in
    let point : At (item.Point q) = subst At (same_Some x (item.Point q) e) at in
    let is : places.points q ≡ address = point.1 in
    omega arith
later symbols places address (x ∷ xs) bytes (suc j) q (first, rest, whole, at, more) e =
    let after = later symbols places (address + length first) xs rest j q more e in
    omega arith

-- and later where these begin with an instruction
pub strictly-later : (symbols : Symbols) (places : Places) (address : ℕ) (items : List Item) (bytes : List ℕ) (j q : ℕ)
    → BeginsWithRoom items → ItemsAt symbols places address items bytes
    → slice_get items j ≡ Some (item.Point q) → address < places.points q
strictly-later symbols places address [] bytes j q begins h e = absurd begins
strictly-later symbols places address (x ∷ xs) bytes zero q begins h e =
    let no : ⊥ = subst TakesRoom (same_Some x (item.Point q) e) begins in absurd no
strictly-later symbols places address (x ∷ xs) bytes (suc j) q begins (first, rest, whole, at, more) e =
    let some = item-room symbols places address x first begins at in
    let after = later symbols places (address + length first) xs rest j q more e in
    omega arith

-- the number of a point
point_number : Item → ℕ
point_number (item.Point p) = p
point_number i = 0

one-point : (x : Item) (p q : ℕ) → Some x ≡ Some (item.Point p) → Some x ≡ Some (item.Point q) → p ≡ q
unfolding point_number
one-point x p q a b = ap point_number (sym (same_Some x (item.Point p) a) ∙ same_Some x (item.Point q) b)

pub behind-point : (x : Item) (p : ℕ) (items : List Item) → Some x ≡ Some (item.Point p) → Behind x items
    → BeginsWithRoom items
behind-point x p items e h = subst (λ (i : Item). Behind i items) (same_Some x (item.Point p) e) h

pub point-address : (symbols : Symbols) (places : Places) (address : ℕ) (x : Item) (p : ℕ) (bytes : List ℕ) → Some x
    ≡ Some (item.Point p) → ItemAt symbols places address x bytes → (length bytes ≡ 0) × (places.points p ≡ address)
point-address symbols places address x p bytes e at =
    let At : Item → Type 0 = λ i. ItemAt symbols places address i bytes in
    let point : At (item.Point p) = subst At (same_Some x (item.Point p) e) at in
    (ap length point.0, point.1)

-- points with one address are one point
pub one-address : (symbols : Symbols) (places : Places) (address : ℕ) (items : List Item) (bytes : List ℕ) (i j p q : ℕ)
    → PointsTakeRoom items → ItemsAt symbols places address items bytes
    → slice_get items i ≡ Some (item.Point p) → slice_get items j ≡ Some (item.Point q) → places.points p
    ≡ places.points q → p ≡ q
one-address symbols places address [] bytes i j p q room h a b e = absurd (cc)
one-address symbols places address (x ∷ xs) bytes zero zero p q room h a b e = one-point x p q a b
one-address symbols places address (x ∷ xs) bytes zero (suc j) p q room (first, rest, whole, at, more) a b e =
    let here = point-address symbols places address x p first a at in
    let none = here.0 in
    let is = here.1 in
    let after = strictly-later symbols places (address + length first) xs rest j q
    (behind-point x p xs a room.0) more b in
    absurd (omega arith)
one-address symbols places address (x ∷ xs) bytes (suc i) zero p q room (first, rest, whole, at, more) a b e =
    let here = point-address symbols places address x q first b at in
    let none = here.0 in
    let is = here.1 in
    let after = strictly-later symbols places (address + length first) xs rest i p
    (behind-point x q xs b room.0) more a in
    absurd (omega arith)
one-address symbols places address (x ∷ xs) bytes (suc i) (suc j) p q room (first, rest, whole, at, more) a b e =
    one-address symbols places (address + length first) xs rest i j p q room.1 more a b e

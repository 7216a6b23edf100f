-- What instructions keep: one walk over all of them, for any property of states that the kinds of change keep.
use Rattle.std.specs.Prelude.{◌≡◌, ℕ, ◌+◌, ◌==◌, ◌++◌, Bool, true, false, List, [], ◌∷◌, Option, Some, None}
use Rattle.std.specs.Prelude.{Result, Ok, Err, IfOk, map, if◌then◌else◌, refl}
use Rattle.std.specs.List.{AllByRecursion}
use Rattle.std.proofs.Common.{sym, ◌∙◌, ap}
use Rattle.byteorder.specs.Endian.{little_bytes}
use Rattle.pcc_base.specs.Outcome.{End}
use Rattle.ia32_insn.specs.declared.register_names.Reg32.TheVariants.{Eax, Ecx, Edx, Ebx, Esp, Ebp}
use Rattle.ia32_insn.specs.declared.register_names.Reg8.TheVariants.{Cl}
use Rattle.ia32_insn.specs.declared.flags.Flags.{Flags}
use Rattle.ia32_insn.specs.declared.operand.Rm32.{Rm32}
use Rattle.ia32_insn.specs.declared.operand.Rm32.TheVariants as rm
use Rattle.ia32_insn.specs.declared.operand.Rm8.{Rm8}
use Rattle.ia32_insn.specs.declared.operand.Rm8.TheVariants as rm8
use Rattle.ia32_insn.specs.declared.insn.AluOp.{AluOp}
use Rattle.ia32_insn.specs.declared.insn.AluOp.TheVariants as alu
use Rattle.ia32_insn.specs.declared.insn.Insn.{Insn}
use Rattle.ia32_insn.specs.declared.insn.Insn.TheVariants as insn
use Rattle.ia32_insn.specs.Arithmetic.{sum, difference, divided, signed_divided, alu_value, negation, complement}
use Rattle.ia32_insn.specs.Arithmetic.{shift_value}
use Rattle.ia32_insn.specs.State.{State, Area, Shape, shape_of, may_store}
use Rattle.ia32_insn.specs.Meaning.{and_then, address_of, store_bytes, store, write32, write16, write8, read32, read16}
use Rattle.ia32_insn.specs.Meaning.{read8, load, load_bytes, write_result, operate, change, take_quotient, dividend}
use Rattle.ia32_insn.specs.Meaning.{push, pop, decided, bit, word_of, byte_of, with_word, take_byte, read_call}
use Rattle.ia32_insn.specs.Meaning.{write_call, interrupt, effect}
use Rattle.ia32_insn.specs.Meaning.{SystemCall, Exit, Read, Write, Other, call_of, make_call}
use Rattle.ia32_insn.specs.Keeps.{IsCodeOrData, KeepsAreas, KeepsStreams, in_memory32, in_memory8, may_write, may_call}
use Rattle.ia32_insn.proofs.Access.{store-keeps_areas, store-keeps_rest}

-- a property that changes of registers and flags keep, stores where there are any, and calls where there are any
pub record IsKept (P : State → Type 0) (writes calls : Bool) : Type 0 where
  pub registers : (s : State) (registers : List ℕ) → P s → P (record s { registers = registers })
  pub flags : (s : State) (flags : Option Flags) → P s → P (record s { flags = flags })
  pub stores : writes ≡ true → (address : ℕ) (bytes : List ℕ) (s : State) → P s → IfOk (store_bytes address bytes s) P
  pub streams : calls ≡ true → (s : State) (left : List ℕ) (taken : ℕ) (written : List ℕ) → P s
      → P (record s { left = left; taken = taken; written = written })

-- what follows a part that may give anything
then-kept : {X : Type 0} (P : State → Type 0) (a : Result X End) (next : X → Result State End)
    → ((x : X) → IfOk (next x) P) → IfOk (and_then a next) P
then-kept P (Ok x) next h = h x
then-kept P (Err end) next h = tt

-- what follows a part that keeps it
then-from : (P : State → Type 0) (a : Result State End) (next : State → Result State End) → IfOk a P
    → ((t : State) → P t → IfOk (next t) P) → IfOk (and_then a next) P
then-from P (Ok t) next k h = h t k
then-from P (Err end) next k h = tt

write32-kept : (P : State → Type 0) (calls : Bool) (operand : Rm32) (value : ℕ) (s : State)
    → IsKept P (in_memory32 operand) calls → P s → IfOk (write32 operand value s) P
write32-kept P calls (rm.Reg r) value s k h = k.registers s (with_word r value s).registers h
write32-kept P calls (rm.Mem m) value s k h = k.stores refl (address_of m s) (little_bytes 4 value) s h

write16-kept : (P : State → Type 0) (calls : Bool) (operand : Rm32) (value : ℕ) (s : State)
    → IsKept P (in_memory32 operand) calls → P s → IfOk (write16 operand value s) P
write16-kept P calls (rm.Reg r) value s k h = k.registers s _ h
write16-kept P calls (rm.Mem m) value s k h = k.stores refl (address_of m s) (little_bytes 2 value) s h

write8-kept : (P : State → Type 0) (calls : Bool) (operand : Rm8) (value : ℕ) (s : State)
    → IsKept P (in_memory8 operand) calls → P s → IfOk (write8 operand value s) P
write8-kept P calls (rm8.Reg r) value s k h = k.registers s _ h
write8-kept P calls (rm8.Mem m) value s k h = k.stores refl (address_of m s) (little_bytes 1 value) s h

result-kept : (P : State → Type 0) (calls : Bool) (op : AluOp) (operand : Rm32) (value : ℕ) (s : State)
    → IsKept P (in_memory32 operand) calls → P s → IfOk (write_result op operand value s) P
result-kept P calls alu.Cmp operand value s k h = h
result-kept P calls alu.Add operand value s k h = write32-kept P calls operand value s k h
result-kept P calls alu.Or operand value s k h = write32-kept P calls operand value s k h
result-kept P calls alu.And operand value s k h = write32-kept P calls operand value s k h
result-kept P calls alu.Sub operand value s k h = write32-kept P calls operand value s k h
result-kept P calls alu.Xor operand value s k h = write32-kept P calls operand value s k h

operate-kept : (P : State → Type 0) (calls : Bool) (op : AluOp) (operand : Rm32) (b : ℕ) (s : State)
    → IsKept P (in_memory32 operand) calls → P s → IfOk (operate op operand b s) P
operate-kept P calls op operand b s k h =
    then-kept P (read32 operand s) _
    (λ a. then-from P (write_result op operand (alu_value op a b) s) _
    (result-kept P calls op operand (alu_value op a b) s k h) (λ t q. k.flags t _ q))

change-kept : (P : State → Type 0) (calls : Bool) (f : ℕ → ℕ) (operand : Rm32) (s : State)
    → IsKept P (in_memory32 operand) calls → P s → IfOk (change f operand s) P
change-kept P calls f operand s k h =
    then-kept P (read32 operand s) _
    (λ a. then-from P (write32 operand (f a) s) _ (write32-kept P calls operand (f a) s k h)
    (λ t q. k.flags t None q))

quotient-kept : (P : State → Type 0) (writes calls : Bool) (result : Option (ℕ × ℕ)) (s : State) → IsKept P writes calls
    → P s → IfOk (take_quotient result s) P
quotient-kept P writes calls None s k h = tt
quotient-kept P writes calls (Some result) s k h =
    let first : State = with_word Eax result.0 s in
    let second : State = with_word Edx result.1 first in
    k.flags second None (k.registers first second.registers (k.registers s first.registers h))

push-kept : (P : State → Type 0) (calls : Bool) (value : ℕ) (s : State) → IsKept P true calls → P s
    → IfOk (push value s) P
push-kept P calls value s k h =
    then-from P (store 4 (difference (word_of Esp s) 4) value s) _
    (k.stores refl (difference (word_of Esp s) 4) (little_bytes 4 value) s h) (λ t q. k.registers t _ q)

-- what follows a part whose values come with one state
popped-kept : (P : State → Type 0) (a : Result ℕ End) (t : State) (next : ℕ × State → Result State End)
    → ((value : ℕ) → IfOk (next (value, t)) P)
    → IfOk (and_then (and_then a (λ value. let r : Result (ℕ × State) End = Ok (value, t) in r)) next) P
popped-kept P (Ok value) t next h = h value
popped-kept P (Err end) t next h = tt

-- the same after a pop, which changes ESP alone
pop-kept : (P : State → Type 0) (calls : Bool) (s : State) (next : ℕ × State → Result State End) → IsKept P false calls
    → P s → ((value : ℕ) (t : State) → P t → IfOk (next (value, t)) P) → IfOk (and_then (pop s) next) P
pop-kept P calls s next k h each =
    let t : State = with_word Esp (sum (word_of Esp s) 4) s in
    popped-kept P (load 4 (word_of Esp s) s) t next (λ value. each value t (k.registers s t.registers h))

byte-kept : (P : State → Type 0) (address : ℕ) (left : List ℕ) (s : State) → IsKept P true true → P s
    → IfOk (take_byte address left s) P
byte-kept P address [] s k h = k.registers s _ h
byte-kept P address (byte ∷ left) s k h =
    then-from P (store_bytes address (byte ∷ []) s) _ (k.stores refl address (byte ∷ []) s h)
    (λ t q. k.registers _ _ (k.streams refl t left (t.taken + 1) t.written q))

-- a choice of two results
choice-kept : (P : State → Type 0) (t : Bool) (a b : Result State End) → IfOk a P → IfOk b P
    → IfOk (if t then a else b) P
choice-kept P true a b h k = h
choice-kept P false a b h k = k

read_call-kept : (P : State → Type 0) (count address : ℕ) (s : State) → IsKept P true true → P s
    → IfOk (read_call count address s) P
read_call-kept P count address s k h =
    choice-kept P (count == 0) _ _ (k.registers s _ h)
    (choice-kept P (may_store count address s.memory) _ _ (byte-kept P address s.left s k h) tt)

write_call-kept : (P : State → Type 0) (count address : ℕ) (s : State) → IsKept P true true → P s
    → IfOk (write_call count address s) P
write_call-kept P count address s k h =
    choice-kept P (count == 0) _ _ (k.registers s _ h)
    (then-kept P (load_bytes count address s) _
    (λ bytes. k.registers _ _ (k.streams refl s s.left s.taken (s.written ++ bytes) h)))

make_call-kept : (P : State → Type 0) (call : SystemCall) (s : State) → IsKept P true true → P s
    → IfOk (make_call call s) P
make_call-kept P (Exit status) s k h = tt
make_call-kept P Read s k h = read_call-kept P (word_of Edx s) (word_of Ecx s) s k h
make_call-kept P Write s k h = write_call-kept P (word_of Edx s) (word_of Ecx s) s k h
make_call-kept P Other s k h = tt

interrupt-kept : (P : State → Type 0) (n : ℕ) (s : State) → IsKept P true true → P s → IfOk (interrupt n s) P
interrupt-kept P n s k h =
    choice-kept P (n == 0x80) _ _ (make_call-kept P (call_of (word_of Eax s) (word_of Ebx s)) s k h) tt

-- every instruction that goes on keeps it
pub effect-kept : (P : State → Type 0) (i : Insn) (after : ℕ) (s : State) → IsKept P (may_write i) (may_call i) → P s
    → IfOk (effect i after s) P
effect-kept P (insn.Mov operand r) after s k h = write32-kept P false operand (word_of r s) s k h
effect-kept P (insn.MovLoad r m) after s k h = then-kept P (read32 (rm.Mem m) s) _ (λ v. k.registers s _ h)
effect-kept P (insn.MovImm operand z) after s k h = write32-kept P false operand _ s k h
effect-kept P (insn.Mov8 operand r) after s k h = write8-kept P false operand _ s k h
effect-kept P (insn.Mov8Load r m) after s k h = then-kept P (read8 (rm8.Mem m) s) _ (λ v. k.registers s _ h)
effect-kept P (insn.Mov8Imm r n) after s k h = k.registers s _ h
effect-kept P (insn.Mov16 operand r) after s k h = write16-kept P false operand _ s k h
effect-kept P (insn.MovZx8 r operand) after s k h = then-kept P (read8 operand s) _ (λ v. k.registers s _ h)
effect-kept P (insn.MovZx16 r operand) after s k h = then-kept P (read16 operand s) _ (λ v. k.registers s _ h)
effect-kept P (insn.MovSx8 r operand) after s k h = then-kept P (read8 operand s) _ (λ v. k.registers s _ h)
effect-kept P (insn.MovSx16 r operand) after s k h = then-kept P (read16 operand s) _ (λ v. k.registers s _ h)
effect-kept P (insn.Xchg8 operand r) after s k h =
    then-kept P (read8 operand s) _
    (λ v. then-from P (write8 operand (byte_of r s) s) _ (write8-kept P false operand (byte_of r s) s k h)
    (λ t q. k.registers t _ q))
effect-kept P (insn.Xchg operand r) after s k h =
    then-kept P (read32 operand s) _
    (λ v. then-from P (write32 operand (word_of r s) s) _ (write32-kept P false operand (word_of r s) s k h)
    (λ t q. k.registers t _ q))
effect-kept P (insn.Lea r m) after s k h = k.registers s _ h
effect-kept P (insn.Alu op operand r) after s k h = operate-kept P false op operand (word_of r s) s k h
effect-kept P (insn.AluLoad op r m) after s k h =
    then-kept P (read32 (rm.Mem m) s) _ (λ v. operate-kept P false op (rm.Reg r) v s k h)
effect-kept P (insn.AluImm op operand z) after s k h = operate-kept P false op operand _ s k h
effect-kept P (insn.Test operand r) after s k h = then-kept P (read32 operand s) _ (λ v. k.flags s _ h)
effect-kept P (insn.IMul r operand) after s k h =
    then-kept P (read32 operand s) _ (λ v. k.flags _ None (k.registers s _ h))
effect-kept P (insn.Not operand) after s k h =
    then-kept P (read32 operand s) _ (λ v. write32-kept P false operand (complement v) s k h)
effect-kept P (insn.Neg operand) after s k h = change-kept P false negation operand s k h
effect-kept P (insn.Div operand) after s k h =
    then-kept P (read32 operand s) _ (λ v. quotient-kept P false false (divided (dividend s) v) s k h)
effect-kept P (insn.IDiv operand) after s k h =
    then-kept P (read32 operand s) _ (λ v. quotient-kept P false false (signed_divided (dividend s) v) s k h)
effect-kept P insn.Cdq after s k h = k.registers s _ h
effect-kept P (insn.ShiftCl op operand) after s k h =
    change-kept P false (λ a. shift_value op a (byte_of Cl s)) operand s k h
effect-kept P (insn.ShiftImm op operand n) after s k h = change-kept P false (λ a. shift_value op a n) operand s k h
effect-kept P (insn.Push operand) after s k h = then-kept P (read32 operand s) _ (λ v. push-kept P false v s k h)
effect-kept P (insn.PushImm z) after s k h = push-kept P false _ s k h
effect-kept P (insn.Pop r) after s k h = pop-kept P false s _ k h (λ value t q. k.registers t _ q)
effect-kept P (insn.Call distance) after s k h = push-kept P false _ s k h
effect-kept P insn.Ret after s k h = pop-kept P false s _ k h (λ value t q. q)
effect-kept P insn.Leave after s k h =
    then-kept P (load 4 (word_of Ebp s) s) _ (λ v. let t : State = with_word Esp (sum (word_of Ebp s) 4) s in
    k.registers t _ (k.registers s t.registers h))
effect-kept P (insn.Jmp distance) after s k h = h
effect-kept P (insn.Jcc c distance) after s k h = then-kept P (decided c s) _ (λ known. h)
effect-kept P (insn.SetCc c operand) after s k h =
    then-kept P (decided c s) _ (λ known. write8-kept P false operand (bit known) s k h)
effect-kept P (insn.Int n) after s k h = interrupt-kept P n s k h
effect-kept P insn.Ud2 after s k h = tt
effect-kept P insn.Nop after s k h = h

-- ---- what follows for the kinds of change

-- what holds of each value that is given
pub if-ok : {X : Type 0} (a : Result X End) (P : X → Type 0) → ((x : X) → a ≡ Ok x → P x) → IfOk a P
if-ok (Ok x) P h = h x refl
if-ok (Err end) P h = tt

-- no area is both written and run where shapes are kept
code_or_data-shapes : (old new : List Area) → map shape_of new ≡ map shape_of old → AllByRecursion IsCodeOrData old
    → AllByRecursion IsCodeOrData new
code_or_data-shapes [] [] e h = tt
code_or_data-shapes [] (b ∷ new) e h = absurd (let no : shape_of b ∷ map shape_of new ≡ [] = e in cc)
code_or_data-shapes (a ∷ old) [] e h = absurd (let no : [] ≡ shape_of a ∷ map shape_of old = e in cc)
code_or_data-shapes (a ∷ old) (b ∷ new) e h =
    let both : shape_of b ∷ map shape_of new ≡ shape_of a ∷ map shape_of old = e in
    let first : shape_of b ≡ shape_of a = cc in
    let rest : map shape_of new ≡ map shape_of old = cc in (
      λ w. ap (λ (s : Shape). s.runnable) first ∙ h.0 (sym (ap (λ (s : Shape). s.writable) first) ∙ w),
      code_or_data-shapes old new rest h.1,
    )

-- of one change after another
areas-then : (old mid new : List Area) → KeepsAreas old mid → KeepsAreas mid new → KeepsAreas old new
areas-then old mid new a b =
    record {
      shapes = b.shapes ∙ a.shapes;
      code =
          λ each address. b.code (code_or_data-shapes old mid a.shapes each) address ∙ a.code each address;
    }

-- the areas stay where they are, as they are
pub instruction-areas : (i : Insn) (after : ℕ) (s : State) → IfOk (effect i after s) (λ t. KeepsAreas s.memory t.memory)
instruction-areas i after s =
    effect-kept (λ t. KeepsAreas s.memory t.memory) i after s
    (record {
      registers = λ t registers h. h;
      flags = λ t flags h. h;
      stores = λ _ address bytes t h. if-ok (store_bytes address bytes t) _
          (λ u e. areas-then s.memory t.memory u.memory h (store-keeps_areas address bytes t u e));
      streams = λ _ t left taken written h. h;
    })
    (record { shapes = refl; code = λ each address. refl })

-- an instruction that isn't INT keeps the input and the output
pub instruction-streams : (i : Insn) (after : ℕ) (s : State) → may_call i ≡ false
    → IfOk (effect i after s) (KeepsStreams s)
instruction-streams i after s none =
    effect-kept (KeepsStreams s) i after s
    (record {
      registers = λ t registers h. record { left = h.left; taken = h.taken; written = h.written };
      flags = λ t flags h. record { left = h.left; taken = h.taken; written = h.written };
      stores = λ _ address bytes t h.
          if-ok (store_bytes address bytes t) _ (λ u e.
          let k = store-keeps_rest address bytes t u e in
          record { left = k.left ∙ h.left; taken = k.taken ∙ h.taken; written = k.written ∙ h.written });
      streams = λ some t left taken written h. absurd (let no : true ≡ false = sym some ∙ none in cc);
    })
    (record { left = refl; taken = refl; written = refl })

-- an instruction with no destination in memory, that doesn't push and isn't INT, keeps memory
pub instruction-memory : (i : Insn) (after : ℕ) (s : State) → may_write i ≡ false
    → IfOk (effect i after s) (λ t. t.memory ≡ s.memory)
instruction-memory i after s none =
    effect-kept (λ t. t.memory ≡ s.memory) i after s
    (record {
      registers = λ t registers h. h;
      flags = λ t flags h. h;
      stores = λ some address bytes t h. absurd (let no : true ≡ false = sym some ∙ none in cc);
      streams = λ _ t left taken written h. h;
    })
    refl

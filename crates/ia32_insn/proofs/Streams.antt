-- How a step treats the input and the output: it adds to what was taken and written, depends on neither, and
-- takes bytes from the input's front. Only `int 0x80` uses them.
use Rattle.std.specs.Prelude.{◌≡◌, ◌≢◌, ℕ, ◌+◌, ◌%◌, ◌==◌, Bool, true, false, List, [], ◌∷◌, ◌++◌, drop, Option}
use Rattle.std.specs.Prelude.{Some, None, Result, Ok, Err, if◌then◌else◌, refl}
use Rattle.std.proofs.Common.{sym, ◌∙◌, ap, subst, add-zero, add_assoc, append_assoc, inl, inr}
use Rattle.byteorder.specs.Endian.{little_bytes}
use Rattle.std.proofs.lemmas.Bool.Decides.{Decides-eqb}
use Rattle.pcc_base.specs.Outcome.{End, Stopped}
use Rattle.pcc_base.specs.declared.run.Stop.TheVariants.{Instruction, Call, Access}
use Rattle.ia32_insn.specs.declared.register_names.Reg32.{Reg32}
use Rattle.ia32_insn.specs.declared.register_names.Reg32.TheVariants.{Eax, Ecx, Edx, Ebx, Esp, Ebp}
use Rattle.ia32_insn.specs.declared.register_names.Reg8.TheVariants.{Cl}
use Rattle.ia32_insn.specs.declared.operand.Mem.{Mem}
use Rattle.ia32_insn.specs.declared.operand.Rm32.{Rm32}
use Rattle.ia32_insn.specs.declared.operand.Rm32.TheVariants as rm
use Rattle.ia32_insn.specs.declared.operand.Rm8.{Rm8}
use Rattle.ia32_insn.specs.declared.operand.Rm8.TheVariants as rm8
use Rattle.ia32_insn.specs.declared.insn.AluOp.{AluOp}
use Rattle.ia32_insn.specs.declared.insn.AluOp.TheVariants as alu
use Rattle.ia32_insn.specs.declared.insn.Insn.{Insn}
use Rattle.ia32_insn.specs.declared.insn.Insn.TheVariants as insn
use Rattle.std.specs.Int.{w32, cast_unsigned}
use Rattle.ia32_insn.specs.State.{State, Area, at_address, code_at, may_store, stored}
use Rattle.ia32_insn.specs.Arithmetic as word
use Rattle.ia32_insn.specs.Meaning.{Moved, Moves, Halts, moved_of, and_then, or_end, word_of, with_word, byte_of}
use Rattle.ia32_insn.specs.Meaning.{with_byte, with_flags, base_value, index_value, address_of, denied, load}
use Rattle.ia32_insn.specs.Meaning.{load_bytes, store, store_bytes, read32, write32, read16, write16, read8, write8}
use Rattle.ia32_insn.specs.Meaning.{write_result, operate, change, take_quotient, dividend, push, decided, bit}
use Rattle.ia32_insn.specs.Meaning.{take_byte, read_call, write_call, system_call, interrupt, effect, target, perform}
use Rattle.ia32_insn.specs.Meaning.{SystemCall, Exit, Read, Write, Other, call_of, make_call}
use Rattle.ia32_insn.specs.Runs.{StepsAt, Steps}

-- ---- states that differ in their streams

-- the state with its streams changed by these functions
abbrev pub streamed : (List ℕ → List ℕ) → (ℕ → ℕ) → (List ℕ → List ℕ) → State → State
streamed p q w s = record s { left = p s.left; taken = q s.taken; written = w s.written }

-- the state that there is, changed so, or the end
abbrev pub carried : (State → State) → Result State End → Result State End
carried f r = and_then r (λ t. Ok (f t))

-- a part that gives the same, and then parts that give the changed state
reads : {X : Type 0} → (f : State → State) (x y : Result X End) (g h : X → Result State End) → x ≡ y
    → ((v : X) → g v ≡ carried f (h v)) → and_then x g ≡ carried f (and_then y h)
reads f x (Ok v) g h e next = ap (λ r. and_then r g) e ∙ next v
reads f x (Err end) g h e next = ap (λ r. and_then r g) e

-- a part that gives the changed state, which is then changed further
writes : (f g : State → State) (x y : Result State End) → x ≡ carried f y → ((t : State) → g (f t) ≡ f (g t))
    → and_then x (λ t. Ok (g t)) ≡ carried f (and_then y (λ t. Ok (g t)))
writes f g x (Ok t) e same =
    ap (λ (r : Result State End). and_then r (λ u. Ok (g u))) e ∙ ap (λ (u : State). Ok u) (same t)
writes f g x (Err end) e same = ap (λ (r : Result State End). and_then r (λ u. Ok (g u))) e

-- a choice of parts
choice : (f : State → State) (b : Bool) (x y x' y' : Result State End) → x' ≡ carried f x → y' ≡ carried f y
    → (if b then x' else y') ≡ carried f (if b then x else y)
choice f true x y x' y' p q = p
choice f false x y x' y' p q = q

-- ---- operands

base-streamed : (p : List ℕ → List ℕ) (q : ℕ → ℕ) (w : List ℕ → List ℕ) (base : Option Reg32) (s : State)
    → base_value base (streamed p q w s) ≡ base_value base s
base-streamed p q w None s = refl
base-streamed p q w (Some r) s = refl

index-streamed : (p : List ℕ → List ℕ) (q : ℕ → ℕ) (w : List ℕ → List ℕ) (index : Option (Reg32 × ℕ)) (s : State)
    → index_value index (streamed p q w s) ≡ index_value index s
index-streamed p q w None s = refl
index-streamed p q w (Some i) s = refl

address-streamed : (p : List ℕ → List ℕ) (q : ℕ → ℕ) (w : List ℕ → List ℕ) (m : Mem) (s : State)
    → address_of m (streamed p q w s) ≡ address_of m s
address-streamed p q w m s =
    ap (λ (n : ℕ). (n + index_value m.index (streamed p q w s) + cast_unsigned w32 m.disp) % 0x1_0000_0000)
    (base-streamed p q w m.base s)
    ∙ ap (λ (n : ℕ). (base_value m.base s + n + cast_unsigned w32 m.disp) % 0x1_0000_0000)
    (index-streamed p q w m.index s)

read32-streamed : (p : List ℕ → List ℕ) (q : ℕ → ℕ) (w : List ℕ → List ℕ) (operand : Rm32) (s : State)
    → read32 operand (streamed p q w s) ≡ read32 operand s
read32-streamed p q w (rm.Reg r) s = refl
read32-streamed p q w (rm.Mem m) s = ap (λ (a : ℕ). load 4 a s) (address-streamed p q w m s)

read16-streamed : (p : List ℕ → List ℕ) (q : ℕ → ℕ) (w : List ℕ → List ℕ) (operand : Rm32) (s : State)
    → read16 operand (streamed p q w s) ≡ read16 operand s
read16-streamed p q w (rm.Reg r) s = refl
read16-streamed p q w (rm.Mem m) s = ap (λ (a : ℕ). load 2 a s) (address-streamed p q w m s)

read8-streamed : (p : List ℕ → List ℕ) (q : ℕ → ℕ) (w : List ℕ → List ℕ) (operand : Rm8) (s : State)
    → read8 operand (streamed p q w s) ≡ read8 operand s
read8-streamed p q w (rm8.Reg r) s = refl
read8-streamed p q w (rm8.Mem m) s = ap (λ (a : ℕ). load 1 a s) (address-streamed p q w m s)

-- ---- writing

store_bytes-streamed : (p : List ℕ → List ℕ) (q : ℕ → ℕ) (w : List ℕ
    → List ℕ) (address : ℕ) (bytes : List ℕ) (s : State) → store_bytes address bytes (streamed p q w s)
    ≡ carried (streamed p q w) (store_bytes address bytes s)
store_bytes-streamed p q w address bytes s =
    let memory : Result (List Area) End = or_end (stored address bytes s.memory) (denied address s) in
    reads (streamed p q w) memory memory (λ m. Ok (record (streamed p q w s) { memory = m }))
    (λ m. Ok (record s { memory = m })) refl (λ m. refl)

store-streamed : (p : List ℕ → List ℕ) (q : ℕ → ℕ) (w : List ℕ → List ℕ) (n address value : ℕ) (s : State)
    → store n address value (streamed p q w s) ≡ carried (streamed p q w) (store n address value s)
store-streamed p q w n address value s = store_bytes-streamed p q w address (little_bytes n value) s

write32-streamed : (p : List ℕ → List ℕ) (q : ℕ → ℕ) (w : List ℕ → List ℕ) (operand : Rm32) (value : ℕ) (s : State)
    → write32 operand value (streamed p q w s) ≡ carried (streamed p q w) (write32 operand value s)
write32-streamed p q w (rm.Reg r) value s = refl
write32-streamed p q w (rm.Mem m) value s =
    ap (λ (a : ℕ). store 4 a value (streamed p q w s)) (address-streamed p q w m s) ∙ store-streamed p q w 4
    (address_of m s) value s

write16-streamed : (p : List ℕ → List ℕ) (q : ℕ → ℕ) (w : List ℕ → List ℕ) (operand : Rm32) (value : ℕ) (s : State)
    → write16 operand value (streamed p q w s) ≡ carried (streamed p q w) (write16 operand value s)
write16-streamed p q w (rm.Reg r) value s = refl
write16-streamed p q w (rm.Mem m) value s =
    ap (λ (a : ℕ). store 2 a value (streamed p q w s)) (address-streamed p q w m s) ∙ store-streamed p q w 2
    (address_of m s) value s

write8-streamed : (p : List ℕ → List ℕ) (q : ℕ → ℕ) (w : List ℕ → List ℕ) (operand : Rm8) (value : ℕ) (s : State)
    → write8 operand value (streamed p q w s) ≡ carried (streamed p q w) (write8 operand value s)
write8-streamed p q w (rm8.Reg r) value s = refl
write8-streamed p q w (rm8.Mem m) value s =
    ap (λ (a : ℕ). store 1 a value (streamed p q w s)) (address-streamed p q w m s) ∙ store-streamed p q w 1
    (address_of m s) value s

-- ---- parts of instructions

write_result-streamed : (p : List ℕ → List ℕ) (q : ℕ → ℕ) (w : List ℕ
    → List ℕ) (op : AluOp) (operand : Rm32) (value : ℕ) (s : State) → write_result op operand value (streamed p q w s)
    ≡ carried (streamed p q w) (write_result op operand value s)
write_result-streamed p q w alu.Cmp operand value s = refl
write_result-streamed p q w _ operand value s = write32-streamed p q w operand value s

operate-streamed : (p : List ℕ → List ℕ) (q : ℕ → ℕ) (w : List ℕ
    → List ℕ) (op : AluOp) (operand : Rm32) (b : ℕ) (s : State) → operate op operand b (streamed p q w s)
    ≡ carried (streamed p q w) (operate op operand b s)
operate-streamed p q w op operand b s =
    reads (streamed p q w) _ _ _ _ (read32-streamed p q w operand s)
    (λ a. writes (streamed p q w) (with_flags (Some (word.alu_flags op a b))) _ _
    (write_result-streamed p q w op operand (word.alu_value op a b) s) (λ t. refl))

change-streamed : (p : List ℕ → List ℕ) (q : ℕ → ℕ) (w : List ℕ → List ℕ) (f : ℕ → ℕ) (operand : Rm32) (s : State)
    → change f operand (streamed p q w s) ≡ carried (streamed p q w) (change f operand s)
change-streamed p q w f operand s =
    reads (streamed p q w) _ _ _ _ (read32-streamed p q w operand s)
    (λ a. writes (streamed p q w) (with_flags None) _ _ (write32-streamed p q w operand (f a) s) (λ t. refl))

quotient-streamed : (p : List ℕ → List ℕ) (q : ℕ → ℕ) (w : List ℕ → List ℕ) (result : Option (ℕ × ℕ)) (s : State)
    → take_quotient result (streamed p q w s) ≡ carried (streamed p q w) (take_quotient result s)
quotient-streamed p q w None s = refl
quotient-streamed p q w (Some result) s = refl

push-streamed : (p : List ℕ → List ℕ) (q : ℕ → ℕ) (w : List ℕ → List ℕ) (value : ℕ) (s : State)
    → push value (streamed p q w s) ≡ carried (streamed p q w) (push value s)
push-streamed p q w value s =
    let top : ℕ = word.difference (word_of Esp s) 4 in
    writes (streamed p q w) (with_word Esp top) _ _ (store-streamed p q w 4 top value s) (λ t. refl)

-- a number that is read, and what it makes of a state
alike : {X : Type 0} → (f : State → State) (x : Result X End) (g h : X → State) → ((v : X) → g v ≡ f (h v))
    → and_then x (λ v. Ok (g v)) ≡ carried f (and_then x (λ v. Ok (h v)))
alike f (Ok v) g h same = ap (λ (u : State). Ok u) (same v)
alike f (Err end) g h same = refl

-- a number with a state beside it
abbrev beside : State → ℕ → Result (ℕ × State) End
beside t v = Ok (v, t)

-- the same of what is read with a state beside it
pops : (f : State → State) (x : Result ℕ End) (t : State) (g : ℕ → State → State) → ((v : ℕ) → g v (f t) ≡ f (g v t))
    → and_then (and_then x (beside (f t))) (λ (p : ℕ × State). Ok (g p.0 p.1))
    ≡ carried f (and_then (and_then x (beside t)) (λ (p : ℕ × State). Ok (g p.0 p.1)))
pops f (Ok v) t g same = ap (λ (u : State). Ok u) (same v)
pops f (Err end) t g same = refl

-- ---- instructions

-- all instructions but `int 0x80`
abbrev pub UsesNoStreams : Insn → Type 0
UsesNoStreams (insn.Int n) = n ≢ 0x80
UsesNoStreams _ = Unit {0}

-- a choice whose test fails
not_so : {X : Type 0} → (b : Bool) (x y : X) → (b ≡ true → ⊥) → (if b then x else y) ≡ y
not_so true x y fails = absurd (fails refl)
not_so false x y fails = refl

-- another interrupt stops
pub other-interrupt : (n : ℕ) (s : State) → n ≢ 0x80 → interrupt n s ≡ Err (Stopped Call s.eip)
other-interrupt n s other =
    not_so (n == 0x80) (system_call s) (Err (Stopped Call s.eip)) (λ same. other ((Decides-eqb n 0x80).0 same))

-- an instruction that uses no streams does the same whatever they are
pub effect-streamed : (p : List ℕ → List ℕ) (q : ℕ → ℕ) (w : List ℕ → List ℕ) (i : Insn) (after : ℕ) (s : State)
    → UsesNoStreams i → effect i after (streamed p q w s) ≡ carried (streamed p q w) (effect i after s)
effect-streamed p q w (insn.Mov operand r) after s none = write32-streamed p q w operand (word_of r s) s
effect-streamed p q w (insn.MovLoad r m) after s none =
    reads (streamed p q w) _ _ _ _ (read32-streamed p q w (rm.Mem m) s) (λ v. refl)
effect-streamed p q w (insn.MovImm operand z) after s none = write32-streamed p q w operand (cast_unsigned w32 z) s
effect-streamed p q w (insn.Mov8 operand r) after s none = write8-streamed p q w operand (byte_of r s) s
effect-streamed p q w (insn.Mov8Load r m) after s none =
    reads (streamed p q w) _ _ _ _ (read8-streamed p q w (rm8.Mem m) s) (λ v. refl)
effect-streamed p q w (insn.Mov8Imm r n) after s none = refl
effect-streamed p q w (insn.Mov16 operand r) after s none = write16-streamed p q w operand (word_of r s % 0x10000) s
effect-streamed p q w (insn.MovZx8 r operand) after s none =
    reads (streamed p q w) _ _ _ _ (read8-streamed p q w operand s) (λ v. refl)
effect-streamed p q w (insn.MovZx16 r operand) after s none =
    reads (streamed p q w) _ _ _ _ (read16-streamed p q w operand s) (λ v. refl)
effect-streamed p q w (insn.MovSx8 r operand) after s none =
    reads (streamed p q w) _ _ _ _ (read8-streamed p q w operand s) (λ v. refl)
effect-streamed p q w (insn.MovSx16 r operand) after s none =
    reads (streamed p q w) _ _ _ _ (read16-streamed p q w operand s) (λ v. refl)
effect-streamed p q w (insn.Xchg8 operand r) after s none =
    reads (streamed p q w) _ _ _ _ (read8-streamed p q w operand s)
    (λ v. writes (streamed p q w) (with_byte r v) _ _ (write8-streamed p q w operand (byte_of r s) s) (λ t. refl))
effect-streamed p q w (insn.Xchg operand r) after s none =
    reads (streamed p q w) _ _ _ _ (read32-streamed p q w operand s)
    (λ v. writes (streamed p q w) (with_word r v) _ _ (write32-streamed p q w operand (word_of r s) s) (λ t. refl))
effect-streamed p q w (insn.Lea r m) after s none =
    ap (λ (a : ℕ). Ok (with_word r a (streamed p q w s))) (address-streamed p q w m s)
effect-streamed p q w (insn.Alu op operand r) after s none = operate-streamed p q w op operand (word_of r s) s
effect-streamed p q w (insn.AluLoad op r m) after s none =
    reads (streamed p q w) _ _ _ _ (read32-streamed p q w (rm.Mem m) s) (λ v. operate-streamed p q w op (rm.Reg r) v s)
effect-streamed p q w (insn.AluImm op operand z) after s none =
    operate-streamed p q w op operand (cast_unsigned w32 z) s
effect-streamed p q w (insn.Test operand r) after s none =
    reads (streamed p q w) _ _ _ _ (read32-streamed p q w operand s) (λ v. refl)
effect-streamed p q w (insn.IMul r operand) after s none =
    reads (streamed p q w) _ _ _ _ (read32-streamed p q w operand s) (λ v. refl)
effect-streamed p q w (insn.Not operand) after s none =
    reads (streamed p q w) _ _ _ _ (read32-streamed p q w operand s)
    (λ v. write32-streamed p q w operand (word.complement v) s)
effect-streamed p q w (insn.Neg operand) after s none = change-streamed p q w word.negation operand s
effect-streamed p q w (insn.Div operand) after s none =
    reads (streamed p q w) _ _ _ _ (read32-streamed p q w operand s)
    (λ v. quotient-streamed p q w (word.divided (dividend s) v) s)
effect-streamed p q w (insn.IDiv operand) after s none =
    reads (streamed p q w) _ _ _ _ (read32-streamed p q w operand s)
    (λ v. quotient-streamed p q w (word.signed_divided (dividend s) v) s)
effect-streamed p q w insn.Cdq after s none = refl
effect-streamed p q w (insn.ShiftCl op operand) after s none =
    change-streamed p q w (λ a. word.shift_value op a (byte_of Cl s)) operand s
effect-streamed p q w (insn.ShiftImm op operand n) after s none =
    change-streamed p q w (λ a. word.shift_value op a n) operand s
effect-streamed p q w (insn.Push operand) after s none =
    reads (streamed p q w) _ _ _ _ (read32-streamed p q w operand s) (λ v. push-streamed p q w v s)
effect-streamed p q w (insn.PushImm z) after s none = push-streamed p q w (cast_unsigned w32 z) s
effect-streamed p q w (insn.Pop r) after s none =
    pops (streamed p q w) (load 4 (word_of Esp s) s) (with_word Esp (word.sum (word_of Esp s) 4) s)
    (λ v t. with_word r v t) (λ v. refl)
effect-streamed p q w (insn.Call distance) after s none = push-streamed p q w (after % 0x1_0000_0000) s
effect-streamed p q w insn.Ret after s none =
    pops (streamed p q w) (load 4 (word_of Esp s) s) (with_word Esp (word.sum (word_of Esp s) 4) s) (λ v t. t)
    (λ v. refl)
effect-streamed p q w insn.Leave after s none =
    alike (streamed p q w) (load 4 (word_of Ebp s) s)
    (λ v. with_word Ebp v (with_word Esp (word.sum (word_of Ebp s) 4) (streamed p q w s)))
    (λ v. with_word Ebp v (with_word Esp (word.sum (word_of Ebp s) 4) s)) (λ v. refl)
effect-streamed p q w (insn.Jmp distance) after s none = refl
effect-streamed p q w (insn.Jcc c distance) after s none =
    alike (streamed p q w) (decided c s) (λ known. streamed p q w s) (λ known. s) (λ known. refl)
effect-streamed p q w (insn.SetCc c operand) after s none =
    reads (streamed p q w) (decided c s) (decided c s) (λ known. write8 operand (bit known) (streamed p q w s))
    (λ known. write8 operand (bit known) s) refl
    (λ known. write8-streamed p q w operand (bit known) s)
effect-streamed p q w (insn.Int n) after s other =
    other-interrupt n (streamed p q w s) other ∙ ap (carried (streamed p q w)) (sym (other-interrupt n s other))
effect-streamed p q w insn.Ud2 after s none = refl
effect-streamed p q w insn.Nop after s none = refl

-- so is the address of the instruction that comes next
pub target-streamed : (p : List ℕ → List ℕ) (q : ℕ → ℕ) (w : List ℕ → List ℕ) (i : Insn) (after : ℕ) (s : State)
    → target i after (streamed p q w s) ≡ target i after s
target-streamed p q w (insn.Call distance) after s = refl
target-streamed p q w insn.Ret after s = refl
target-streamed p q w (insn.Jmp distance) after s = refl
target-streamed p q w (insn.Jcc c distance) after s = refl
target-streamed p q w _ after s = refl

-- what a step leads to, with its streams changed so
abbrev pub moved_so : (State → State) → Moved → Moved
moved_so f (Moves t) = Moves (f t)
moved_so f (Halts end) = Halts end

-- a changed state and an address of the next instruction
moved-next : (p : List ℕ → List ℕ) (q : ℕ → ℕ) (w : List ℕ → List ℕ) (x y : Result State End) (a b : Result ℕ End)
    → x ≡ carried (streamed p q w) y → a ≡ b → moved_of (and_then x (λ t. and_then a (λ n. Ok (at_address n t))))
    ≡ moved_so (streamed p q w) (moved_of (and_then y (λ t. and_then b (λ n. Ok (at_address n t)))))
moved-next p q w x (Ok t) a (Ok n) e d =
    ap (λ (r : Result State End). moved_of (and_then r (λ t. and_then a (λ n. Ok (at_address n t))))) e
    ∙ ap (λ (r : Result ℕ End). moved_of (and_then r (λ n. Ok (at_address n (streamed p q w t))))) d
moved-next p q w x (Ok t) a (Err end) e d =
    ap (λ (r : Result State End). moved_of (and_then r (λ t. and_then a (λ n. Ok (at_address n t))))) e
    ∙ ap (λ (r : Result ℕ End). moved_of (and_then r (λ n. Ok (at_address n (streamed p q w t))))) d
moved-next p q w x (Err end) a b e d =
    ap (λ (r : Result State End). moved_of (and_then r (λ t. and_then a (λ n. Ok (at_address n t))))) e

-- an instruction that uses no streams is performed the same whatever they are
pub perform-streamed : (p : List ℕ → List ℕ) (q : ℕ → ℕ) (w : List ℕ → List ℕ) (i : Insn) (after : ℕ) (s : State)
    → UsesNoStreams i → perform i after (streamed p q w s) ≡ moved_so (streamed p q w) (perform i after s)
perform-streamed p q w i after s none =
    moved-next p q w (effect i after (streamed p q w s)) (effect i after s) (target i after (streamed p q w s))
    (target i after s) (effect-streamed p q w i after s none) (target-streamed p q w i after s)

-- ---- what was taken and written before

-- the state where k more bytes were taken before, and these written
abbrev pub since : ℕ → List ℕ → State → State
since k written s = streamed (λ left. left) (λ taken. k + taken) (λ later. written ++ later) s

-- the same of what a step leads to
abbrev pub moved_since : ℕ → List ℕ → Moved → Moved
moved_since k written moved = moved_so (since k written) moved

take_byte-since : (k : ℕ) (written : List ℕ) (address : ℕ) (left : List ℕ) (s : State)
    → take_byte address left (since k written s) ≡ carried (since k written) (take_byte address left s)
take_byte-since k written address [] s = refl
take_byte-since k written address (byte ∷ left) s =
    let more : State → State = λ t. with_word Eax 1 (record t { left = left; taken = t.taken + 1 }) in
    writes (since k written) more _ _ (store_bytes-streamed (λ l. l) (λ n. k + n) (λ l. written ++ l) address (byte
    ∷ []) s)
    (λ t. ap (λ (n : ℕ). with_word Eax 1 (record t { left = left; taken = n; written = written ++ t.written }))
    (add_assoc k t.taken 1))

read_call-since : (k : ℕ) (written : List ℕ) (count address : ℕ) (s : State)
    → read_call count address (since k written s) ≡ carried (since k written) (read_call count address s)
read_call-since k written count address s =
    let f : State → State = since k written in
    choice f (count == 0) _ _ _ _ refl
    (choice f (may_store count address s.memory) (take_byte address s.left s) (Err (denied address s)) _ _
    (take_byte-since k written address s.left s) refl)

write_call-since : (k : ℕ) (written : List ℕ) (count address : ℕ) (s : State)
    → write_call count address (since k written s) ≡ carried (since k written) (write_call count address s)
write_call-since k written count address s =
    let f : State → State = since k written in
    choice f (count == 0) _ _ _ _ refl
    (alike f (load_bytes count address s)
    (λ bytes. with_word Eax count (record (f s) { written = (written ++ s.written) ++ bytes }))
    (λ bytes. with_word Eax count (record s { written = s.written ++ bytes }))
    (λ bytes. ap (λ (l : List ℕ). with_word Eax count (record (f s) { written = l }))
    (append_assoc written s.written bytes)))

make_call-since : (k : ℕ) (written : List ℕ) (call : SystemCall) (s : State) → make_call call (since k written s)
    ≡ carried (since k written) (make_call call s)
make_call-since k written (Exit status) s = refl
make_call-since k written Read s = read_call-since k written (word_of Edx s) (word_of Ecx s) s
make_call-since k written Write s = write_call-since k written (word_of Edx s) (word_of Ecx s) s
make_call-since k written Other s = refl

interrupt-since : (k : ℕ) (written : List ℕ) (n : ℕ) (s : State) → interrupt n (since k written s)
    ≡ carried (since k written) (interrupt n s)
interrupt-since k written n s =
    choice (since k written) (n == 0x80) _ (Err (Stopped Call s.eip)) _ _
    (make_call-since k written (call_of (word_of Eax s) (word_of Ebx s)) s) refl

-- what an instruction does depends on nothing that was taken or written before
effect-since : (k : ℕ) (written : List ℕ) (i : Insn) (after : ℕ) (s : State) → effect i after (since k written s)
    ≡ carried (since k written) (effect i after s)
effect-since k written (insn.Int n) after s = interrupt-since k written n s
effect-since k written i after s = effect-streamed (λ l. l) (λ n. k + n) (λ l. written ++ l) i after s tt

-- performing depends on nothing that was taken or written before
pub perform-since : (k : ℕ) (written : List ℕ) (i : Insn) (after : ℕ) (s : State) → perform i after (since k written s)
    ≡ moved_since k written (perform i after s)
perform-since k written i after s =
    moved-next (λ l. l) (λ n. k + n) (λ l. written ++ l) (effect i after (since k written s)) (effect i after s)
    (target i after (since k written s)) (target i after s)
    (effect-since k written i after s) (target-streamed (λ l. l) (λ n. k + n) (λ l. written ++ l) i after s)

-- the same of a step, by the code at EIP
step_at-since : (k : ℕ) (written : List ℕ) (code : Option (List ℕ)) (s : State) (moved : Moved) → StepsAt code s moved
    → StepsAt code (since k written s) (moved_since k written moved)
step_at-since k written None s moved h = ap (moved_since k written) h
step_at-since k written (Some code) s moved h =
    elim h [
      | inl x ↦ inl (x.0, x.1, x.2, ap (moved_since k written) x.3 ∙ sym (perform-since k written x.0 (s.eip + x.1) s))
      | inr x ↦ inr (x.0, ap (moved_since k written) x.1)
    ]

-- a step depends on nothing that was taken or written before
pub steps-since : (k : ℕ) (written : List ℕ) (s : State) (moved : Moved) → Steps s moved
    → Steps (since k written s) (moved_since k written moved)
steps-since k written s moved h = step_at-since k written (code_at s.eip s.memory) s moved h

-- ---- what a step takes

-- from one state to the other some bytes of the input are taken
pub record Takes (s t : State) : Type 0 where
  pub count : ℕ
  pub taken : t.taken ≡ s.taken + count
  pub left : t.left ≡ drop count s.left

-- the same of what a part of an instruction gives
abbrev TakesTo : State → Result State End → Type 0
TakesTo s (Ok t) = Takes s t
TakesTo s (Err end) = Unit {0}

-- the same of what a step leads to
abbrev TakesBy : State → Moved → Type 0
TakesBy s (Moves t) = Takes s t
TakesBy s (Halts end) = Unit {0}

-- nothing is taken
takes_none : (s t : State) → t.taken ≡ s.taken → t.left ≡ s.left → Takes s t
takes_none s t taken left = record { count = 0; taken = taken ∙ sym (add-zero s.taken); left = left }

-- the state that is there keeps its streams
kept : (s : State) (r : Result State End) → r ≡ carried (streamed (λ l. s.left) (λ n. s.taken) (λ l. s.written)) r
    → TakesTo s r
kept s (Ok t) e =
    let same : t ≡ streamed (λ l. s.left) (λ n. s.taken) (λ l. s.written) t = cc in
    takes_none s t (ap (λ (u : State). u.taken) same) (ap (λ (u : State). u.left) same)
kept s (Err end) e = tt

-- a choice of parts
choice-takes : (s : State) (b : Bool) (x y : Result State End) → TakesTo s x → TakesTo s y
    → TakesTo s (if b then x else y)
choice-takes s true x y p q = p
choice-takes s false x y p q = q

-- memory that is there, or an end
stored-takes : (s : State) (x : Result (List Area) End) (left : List ℕ) → left ≡ drop 1 s.left
    → TakesTo s
    (and_then (and_then x (λ m. Ok (record s { memory = m })))
    (λ t. Ok (with_word Eax 1 (record t { left = left; taken = t.taken + 1 }))))
stored-takes s (Ok m) left e = record { count = 1; taken = refl; left = e }
stored-takes s (Err end) left e = tt

take_byte-takes : (address : ℕ) (left : List ℕ) (s : State) → s.left ≡ left → TakesTo s (take_byte address left s)
take_byte-takes address [] s e = takes_none s (with_word Eax 0 s) refl refl
take_byte-takes address (byte ∷ left) s e =
    stored-takes s (or_end (stored address (byte ∷ []) s.memory) (denied address s)) left (sym (ap (drop 1) e))

read-takes : (count address : ℕ) (s : State) → TakesTo s (read_call count address s)
read-takes count address s =
    choice-takes s (count == 0) _ _ (takes_none s (with_word Eax 0 s) refl refl)
    (choice-takes s (may_store count address s.memory) (take_byte address s.left s) (Err (denied address s))
    (take_byte-takes address s.left s refl) tt)

-- bytes that are there, or an end
bytes-takes : (s : State) (count : ℕ) (x : Result (List ℕ) End)
    → TakesTo s (and_then x (λ bytes. Ok (with_word Eax count (record s { written = s.written ++ bytes }))))
bytes-takes s count (Ok bytes) =
    takes_none s (with_word Eax count (record s { written = s.written ++ bytes })) refl refl
bytes-takes s count (Err end) = tt

write-takes : (count address : ℕ) (s : State) → TakesTo s (write_call count address s)
write-takes count address s =
    choice-takes s (count == 0) _ _ (takes_none s (with_word Eax 0 s) refl refl)
    (bytes-takes s count (load_bytes count address s))

make_call-takes : (call : SystemCall) (s : State) → TakesTo s (make_call call s)
make_call-takes (Exit status) s = tt
make_call-takes Read s = read-takes (word_of Edx s) (word_of Ecx s) s
make_call-takes Write s = write-takes (word_of Edx s) (word_of Ecx s) s
make_call-takes Other s = tt

interrupt-takes : (n : ℕ) (s : State) → TakesTo s (interrupt n s)
interrupt-takes n s =
    choice-takes s (n == 0x80) _ (Err (Stopped Call s.eip))
    (make_call-takes (call_of (word_of Eax s) (word_of Ebx s)) s) tt

effect-takes : (i : Insn) (after : ℕ) (s : State) → TakesTo s (effect i after s)
effect-takes (insn.Int n) after s = interrupt-takes n s
effect-takes i after s =
    kept s (effect i after s) (effect-streamed (λ l. s.left) (λ n. s.taken) (λ l. s.written) i after s tt)

-- the next address takes nothing
next-takes : (s : State) (x : Result State End) (a : Result ℕ End) → TakesTo s x
    → TakesBy s (moved_of (and_then x (λ t. and_then a (λ n. Ok (at_address n t)))))
next-takes s (Ok t) (Ok n) h = record { count = h.count; taken = h.taken; left = h.left }
next-takes s (Ok t) (Err end) h = tt
next-takes s (Err end) a h = tt

-- what is performed takes bytes from the input's front
pub perform-takes : (i : Insn) (after : ℕ) (s t : State) → perform i after s ≡ Moves t → Takes s t
perform-takes i after s t e = let P : Moved → Type 0 =
    TakesBy s in subst P e (next-takes s (effect i after s) (target i after s) (effect-takes i after s))

-- the same of a step, by the code at EIP
step_at-takes : (code : Option (List ℕ)) (s t : State) → StepsAt code s (Moves t) → Takes s t
step_at-takes None s t h = absurd (let no : Moves t ≡ Halts (Stopped (Access s.eip) s.eip) = h in cc)
step_at-takes (Some code) s t h =
    elim h [
      | inl x ↦ perform-takes x.0 (s.eip + x.1) s t (sym x.3)
      | inr x ↦ absurd (let no : Moves t ≡ Halts (Stopped Instruction s.eip) = x.1 in cc)
    ]

-- a step takes bytes from the input's front
pub steps-takes : (s t : State) → Steps s (Moves t) → Takes s t
steps-takes s t h = step_at-takes (code_at s.eip s.memory) s t h

-- The rows of what goes to other code and comes back: argument words, calls of functions and of routines, and the first
-- and last items of a function. The caller's EBX, ESI, EDI and EBP are kept, and a result comes back in EAX (System V
-- ABI, Intel386 supplement, "Function Calling Sequence").
use Rattle.std.specs.Prelude.{◌+◌, ◌*◌, ◌%◌, ◌^◌, ℕ, pos, nat_lt, List, [], ◌∷◌, ◌++◌, length, Option, Some, None}
use Rattle.std.specs.Prelude.{if◌then◌else◌}
use Rattle.std.specs.Int.{w32, cast_signed}
use Rattle.ia32_insn.specs.declared.register_names.Reg32.TheVariants.{Eax, Ebx, Esp, Ebp, Esi, Edi}
use Rattle.ia32_insn.specs.Places.{Place}
use Rattle.ia32_insn.specs.declared.operand.Mem.{Mem}
use Rattle.ia32_insn.specs.declared.operand.Rm32.TheVariants as rm
use Rattle.ia32_insn.specs.declared.insn.AluOp.TheVariants as alu
use Rattle.ia32_insn.specs.declared.insn.Cond.TheVariants as cond
use Rattle.ia32_insn.specs.declared.insn.Insn.TheVariants as insn
use Rattle.ia32_insn.specs.declared.item.Item.{Item}
use Rattle.ia32_insn.specs.declared.item.Item.TheVariants as item
use Rattle.ia32_insn.specs.declared.item.Stub.TheVariants as stub
use Rattle.ia32_insn.specs.Items.{near, plain}
use Rattle.flow_graph.specs.Meaning.{most_active}
use Rattle.ia32_rows.specs.Filling.{fill}
use Rattle.ia32_rows.specs.Placements.{below}
use Rattle.ia32_rows.specs.Moves.{pass, read, target_of, write}

-- ---- routines

-- the argument goes onto the stack, and off it again behind the call
abbrev pub putchar_row : Place → Place → List Item
putchar_row result argument =
    pass argument ++ item.CallStub stub.Putchar ∷ plain (insn.Pop Edi) ∷ write result Eax

abbrev pub getchar_row : Place → List Item
getchar_row result = item.CallStub stub.Getchar ∷ write result Eax

abbrev pub exit_row : Place → List Item
exit_row argument = pass argument ++ item.CallStub stub.Exit ∷ []

-- ---- calls of functions

-- The argument words stand above the return address, which is above the word at EBP: word k stands here. A number so
-- great that no call passes so many words is wrapped at 32 bits.
abbrev pub argument_word : ℕ → Mem
argument_word k = record { base = Some Ebp; index = None; disp = cast_signed w32 ((8 + 4 * k) % 2 ^ 32) }

abbrev pub param_row : Place → ℕ → List Item
param_row result k = plain (insn.MovLoad (target_of result) (argument_word k)) ∷ write result (target_of result)

-- the words of places onto the stack, the last one first, so that they stand there in order
abbrev pub pass_all : List Place → List Item
pass_all [] = []
pass_all (p ∷ places) = pass_all places ++ pass p

-- The number that names the depth word.
abbrev pub depth_number : ℕ
depth_number = 0xffffffff

-- One call more is active, unless 4,096 are: then the trap of a failed check.
abbrev pub deepen : List Item
deepen =
    item.AddressOf Esi depth_number
    ∷ plain (insn.AluImm alu.Cmp (rm.Mem (near Esi 0)) (pos most_active))
    ∷ item.JumpTrap (Some cond.Ae)
    ∷ plain (insn.AluImm alu.Add (rm.Mem (near Esi 0)) (pos 1))
    ∷ []

-- so many argument words off the stack, by LEA, and one call less is active
abbrev pub drop_words : ℕ → List Item
drop_words ℕ.zero = []
drop_words (ℕ.suc n) = plain (insn.Lea Esp (near Esp (4 * ℕ.suc n))) ∷ []

abbrev pub undeepen : List Item
undeepen = item.AddressOf Esi depth_number ∷ plain (insn.AluImm alu.Sub (rm.Mem (near Esi 0)) (pos 1)) ∷ []

-- the result to its place, where it is wanted
abbrev pub write_any : Option Place → List Item
write_any None = []
write_any (Some p) = write p Eax

-- what stands before a call, and what behind it: the caller counts the calls and takes the words off
abbrev pub before_call : List Place → List Item
before_call arguments = deepen ++ pass_all arguments

abbrev pub behind_call : Option Place → ℕ → List Item
behind_call result words = drop_words words ++ undeepen ++ write_any result

abbrev pub call_row : Option Place → ℕ → List Place → List Item
call_row result function arguments =
    before_call arguments ++ item.CallFunction function ∷ behind_call result (length arguments)

-- ---- a function's first and last items

-- the caller's registers as they were, and to the return address
abbrev pub leave : List Item
leave =
    plain (insn.MovLoad Ebx (below 4))
    ∷ plain (insn.MovLoad Esi (below 8))
    ∷ plain (insn.MovLoad Edi (below 12))
    ∷ plain insn.Leave
    ∷ plain insn.Ret
    ∷ []

-- the result to EAX, and back to the caller
abbrev pub return_row : Place → List Item
return_row a = read Eax a ++ leave

-- The words of the frame that are further below EBP than so many bytes become 0, where there are any, by a loop with
-- this label.
abbrev pub zeroing : ℕ → ℕ → ℕ → List Item
zeroing frame zeroed label =
    if nat_lt zeroed frame then
    plain (insn.MovImm (rm.Reg Esi) (pos 0)) ∷ plain (insn.Lea Edi (below zeroed)) ∷ fill Edi Esi Esp label
    else []

-- The frame is made: the caller's registers are kept in its first words, and every word further below EBP than so many
-- bytes is 0.
abbrev pub prologue : ℕ → ℕ → ℕ → List Item
prologue frame zeroed label =
    plain (insn.Push (rm.Reg Ebp))
    ∷ plain (insn.Mov (rm.Reg Ebp) Esp)
    ∷ plain (insn.Push (rm.Reg Ebx))
    ∷ plain (insn.Push (rm.Reg Esi))
    ∷ plain (insn.Push (rm.Reg Edi))
    ∷ plain (insn.Lea Esp (below frame))
    ∷ zeroing frame zeroed label

-- Behind them the number of each frame array's elements goes into the four bytes before it. There are as many arrays as
-- distances below EBP.
abbrev pub headers : List (ℕ × ℕ) → List ℕ → List Item
headers arrays [] = []
headers [] (distance ∷ belows) = []
headers (array ∷ arrays) (distance ∷ belows) =
    plain (insn.MovImm (rm.Mem (below (distance + 4))) (pos array.1)) ∷ headers arrays belows

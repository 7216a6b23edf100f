-- What the parts of a step leave: the fetch of an instruction, its performance, and a system call.
use Rattle.std.specs.Prelude.{◌≡◌, ℕ, List, Some, None, Result, Ok, Err}
use Rattle.pcc_base.specs.declared.run.Stop.{Stop}
use Rattle.pcc_base.specs.declared.run.Stop.TheVariants.{Instruction, Access}
use Rattle.pcc_outside.specs.Streams.{SinkCounts}
use Rattle.ia32_insn.specs.declared.register_names.Reg32.TheVariants.{Ecx, Edx}
use Rattle.ia32_insn.specs.declared.insn.Insn.{Insn}
use Rattle.ia32_insn.specs.State.{State, code_at}
use Rattle.ia32_insn.specs.Spelling.{Begins, NoneBegins}
use Rattle.ia32_insn.specs.Meaning.{Moved, moved_of, word_of, read_call, write_call, system_call, perform}
use Rattle.ia32_machine.specs.declared.halt.Halt.{Halt}
use Rattle.ia32_machine.specs.declared.halt.Halt.TheVariants as halt
use Rattle.ia32_machine.specs.Runs.{LeadsTold, StepTold, StepCounts}
use Rattle.ia32_machine.specs.declared.ends.MachineEnd.{MachineEnd}
use Rattle.ia32_machine.specs.declared.ends.MachineEnd.TheVariants.{Trapped, Stopped}
use Rattle.ia32_machine.specs.declared.ends.StepEnd.{StepEnd}
use Rattle.ia32_machine.specs.declared.ends.StepEnd.TheVariants as step

-- the instruction at EIP and the length of its spelling, or why there is none
abbrev pub FetchTold : State → Result (Insn × ℕ) Stop → Type 0
FetchTold s (Ok found) = (code : List ℕ) × (code_at s.eip s.memory ≡ Some code) × Begins found.0 found.1 code
FetchTold s (Err Instruction) = (code : List ℕ) × (code_at s.eip s.memory ≡ Some code) × NoneBegins code
FetchTold s (Err (Access address)) = (code_at s.eip s.memory ≡ None) × (address ≡ s.eip)
FetchTold s (Err _) = ⊥

-- how the run ends where the processor halts at this address
abbrev pub end_at : ℕ → Halt → MachineEnd
end_at address (halt.Trapped trap) = Trapped trap
end_at address (halt.Stopped cause) = Stopped cause address

-- the answer of a step, by that of its parts
abbrev pub step_of : Result Unit MachineEnd → StepEnd
step_of (Ok done) = step.Going
step_of (Err end) = step.End end

-- what `read` of EDX bytes to the address in ECX leads to, `write` of them, and `int 0x80`, before EIP changes
unfoldable pub read_moved : State → Moved
read_moved s = moved_of (read_call (word_of Edx s) (word_of Ecx s) s)

unfoldable pub write_moved : State → Moved
write_moved s = moved_of (write_call (word_of Edx s) (word_of Ecx s) s)

unfoldable pub call_moved : State → Moved
call_moved s = moved_of (system_call s)

-- what an instruction leads to
unfoldable pub insn_moved : Insn → ℕ → State → Moved
insn_moved i after s = perform i after s

-- What a part of a step leaves that is to lead there: the part is of the state s, and leaves this machine and this
-- input, with these bytes put.
unfoldable pub PartTold : Moved → State → State → List ℕ → (List ℕ → Type 0) → Result Unit MachineEnd → Type 0
PartTold given s machine left IsPut result =
    LeadsTold (λ moved. moved ≡ given) s machine left IsPut (step_of result)

-- its counts
abbrev pub PartCounts : ℕ → ℕ → SinkCounts → SinkCounts → Result Unit MachineEnd → Type 0
PartCounts input input' out out' result = StepCounts input input' out out' (step_of result)

-- what a step that fetches and performs leaves
unfoldable pub AdvanceTold : State → State → List ℕ → (List ℕ → Type 0) → Result Unit MachineEnd → Type 0
AdvanceTold s machine left IsPut result = StepTold s machine left IsPut (step_of result)

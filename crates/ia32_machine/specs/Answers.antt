-- What the parts of an instruction answer: what they give, or how the run ends there.
use Rattle.std.specs.Prelude.{◌≡◌, ℕ, [], Result, Ok, Err}
use Rattle.pcc_base.specs.Outcome as outcome
use Rattle.ia32_insn.specs.declared.insn.Insn.{Insn}
use Rattle.ia32_insn.specs.State.{State}
use Rattle.ia32_insn.specs.Meaning.{Moved, Moves, Halts, effect}
use Rattle.ia32_machine.specs.declared.halt.Halt.{Halt}
use Rattle.ia32_machine.specs.declared.halt.Halt.TheVariants.{Trapped, Stopped}

-- the end that the run has in the state; a stop is at the instruction at EIP
abbrev pub end_of : Halt → State → outcome.End
end_of (Trapped trap) s = outcome.Trapped trap
end_of (Stopped cause) s = outcome.Stopped cause s.eip

-- a part that changes nothing gives this
abbrev pub answer_of : {X : Type 0} → State → Result X Halt → Result X outcome.End
answer_of s (Ok x) = Ok x
answer_of s (Err halt) = Err (end_of halt s)

-- a part that is to give a state gives the new one, or it ends and changes nothing
abbrev pub Leaves : Result State outcome.End → State → State → Result Unit Halt → Type 0
Leaves given old new (Ok done) = given ≡ Ok new
Leaves given old new (Err halt) = (given ≡ Err (end_of halt old)) × (new ≡ old)

-- the same of a part that is to give a number with a state
abbrev pub LeavesWith : Result (ℕ × State) outcome.End → State → State → Result ℕ Halt → Type 0
LeavesWith given old new (Ok value) = given ≡ Ok (value, new)
LeavesWith given old new (Err halt) = (given ≡ Err (end_of halt old)) × (new ≡ old)

-- the same of a whole instruction
abbrev pub Performs : Moved → State → State → Result Unit Halt → Type 0
Performs moved old new (Ok done) = moved ≡ Moves new
Performs moved old new (Err halt) = (moved ≡ Halts (end_of halt old)) × (new ≡ old)

-- what an instruction does that isn't a call, and so doesn't depend on the address after it
abbrev pub does : Insn → State → Result State outcome.End
does i s = effect i 0 s

-- the state without input and output
abbrev pub bare : State → State
bare s = record s { left = []; taken = 0; written = [] }

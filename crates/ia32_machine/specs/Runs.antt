-- What a step and a run of the machine leave, by cases over their answers. `IsPut` is what is known of the bytes that
-- were put on the output.
use Rattle.std.specs.Prelude.{◌≡◌, ◌≢◌, ⊤, ℕ, zero, suc, ◌+◌, ◌<◌, List, [], length, take, drop}
use Rattle.pcc_base.specs.Counts.{Rose}
use Rattle.pcc_base.specs.Outcome as outcome
use Rattle.pcc_outside.specs.Streams.{SinkCounts}
use Rattle.ia32_insn.specs.State.{State}
use Rattle.ia32_insn.specs.Meaning.{Moved, Moves, Halts}
use Rattle.ia32_insn.specs.Runs.{Steps, Runs, no_visits}
use Rattle.ia32_machine.specs.First.{lent}
use Rattle.ia32_machine.specs.declared.ends.MachineEnd.{MachineEnd}
use Rattle.ia32_machine.specs.declared.ends.MachineEnd.TheVariants.{Ended, Trapped, Stopped, BudgetSpent, ReadFault}
use Rattle.ia32_machine.specs.declared.ends.MachineEnd.TheVariants.{WriteFault, NoMemory}
use Rattle.ia32_machine.specs.declared.ends.StepEnd.{StepEnd}
use Rattle.ia32_machine.specs.declared.ends.StepEnd.TheVariants as step

-- the state without its input and output
abbrev pub alone : State → State
alone s = lent s []

-- k steps lead from one state to the other
abbrev pub Reaches : ℕ → State → State → Type 0
Reaches zero s t = t ≡ s
Reaches (suc k) s t = (next : State) × Steps s (Moves next) × Reaches k next t

-- the lent objects' counts over a run with this end: only that of the answer may rise, and did
abbrev pub RunCounts : ℕ → ℕ → SinkCounts → SinkCounts → MachineEnd → Type 0
RunCounts input input' out out' ReadFault = Rose input input' × (out' ≡ out)
RunCounts input input' out out' WriteFault = (input' ≡ input) × Rose out.faults out'.faults × (out'.wants ≡ out.wants)
RunCounts input input' out out' NoMemory = (input' ≡ input) × (out'.faults ≡ out.faults) × Rose out.wants out'.wants
RunCounts input input' out out' _ = (input' ≡ input) × (out' ≡ out)

-- the same over a step, which has no budget to spend
abbrev pub StepCounts : ℕ → ℕ → SinkCounts → SinkCounts → StepEnd → Type 0
StepCounts input input' out out' step.Going = (input' ≡ input) × (out' ≡ out)
StepCounts input input' out out' (step.End BudgetSpent) = ⊥
StepCounts input input' out out' (step.End end) = RunCounts input input' out out' end

-- Where this is known of what a step from the state s leads to: an end, which leaves the machine and the
-- streams
abbrev pub HaltsAt : (Moved → Type 0) → State → State → List ℕ → (List ℕ → Type 0) → outcome.End → Type 0
HaltsAt Leads s machine left IsPut end = Leads (Halts end) × (machine ≡ alone s) × (left ≡ s.left) × IsPut []

-- a step from s that ends so, by the machine, the input left and the bytes put then
abbrev pub EndsTold : (Moved → Type 0) → State → State → List ℕ → (List ℕ → Type 0) → MachineEnd → Type 0
EndsTold Leads s machine left IsPut (Ended status) = HaltsAt Leads s machine left IsPut (outcome.Ended status)
EndsTold Leads s machine left IsPut (Trapped trap) = HaltsAt Leads s machine left IsPut (outcome.Trapped trap)
EndsTold Leads s machine left IsPut (Stopped cause address) =
    HaltsAt Leads s machine left IsPut (outcome.Stopped cause address)
EndsTold Leads s machine left IsPut BudgetSpent = ⊥
EndsTold Leads s machine left IsPut ReadFault = (machine ≡ alone s) × (left ≡ s.left) × IsPut []
-- a sink that fails has taken a part of what the step writes
EndsTold Leads s machine left IsPut WriteFault =
    (next : State) × Leads (Moves next) × (next.written ≢ s.written) × (machine ≡ alone s) × (left ≡ s.left)
    × (n : ℕ) × IsPut (take n next.written)
-- one that finds no memory has taken nothing of the bytes that the step writes
EndsTold Leads s machine left IsPut NoMemory =
    (next : State) × Leads (Moves next) × (next.written ≢ s.written) × (machine ≡ alone s) × (left ≡ s.left)
    × IsPut []

-- the same of any answer
abbrev pub LeadsTold : (Moved → Type 0) → State → State → List ℕ → (List ℕ → Type 0) → StepEnd → Type 0
LeadsTold Leads s machine left IsPut step.Going =
    (next : State) × Leads (Moves next) × (machine ≡ alone next) × (left ≡ next.left) × IsPut next.written
LeadsTold Leads s machine left IsPut (step.End end) = EndsTold Leads s machine left IsPut end

-- a step from s
unfoldable pub StepTold : State → State → List ℕ → (List ℕ → Type 0) → StepEnd → Type 0
StepTold s machine left IsPut answer = LeadsTold (Steps s) s machine left IsPut answer

-- the outcome of n steps from s, by the input left before and after, and the bytes put
abbrev pub Gives : ℕ → State → List ℕ → List ℕ → (List ℕ → Type 0) → outcome.End → Type 0
Gives n s left left' IsPut end =
    (o : outcome.Outcome) × Runs no_visits n s o × (o.end ≡ end) × (left' ≡ drop o.taken left) × IsPut o.written

-- n steps lead to a state of which this holds, and the machine and the input were left there
abbrev pub LeftAfter : ℕ → State → State → List ℕ → (State → Type 0) → Type 0
LeftAfter n s machine left Holds = (t : State) × Reaches n s t × Holds t × (machine ≡ alone t) × (left ≡ t.left)

-- an end of the definition: the budget has this outcome, and the machine was left where the step that ends is made
abbrev pub RunEnds : ℕ → State → State → List ℕ → List ℕ → (List ℕ → Type 0) → outcome.End → Type 0
RunEnds budget s machine left left' IsPut end =
    Gives budget s left left' IsPut end × (n : ℕ) × (n < budget)
    × LeftAfter n s machine left' (λ t. Steps t (Halts end))

-- after a refusal: some number of steps, fewer than the budget, were made, and the machine, the input and the bytes
-- put are as they leave them
abbrev pub GivesSoFar : ℕ → State → State → List ℕ → List ℕ → (List ℕ → Type 0) → (State → Type 0) → Type 0
GivesSoFar budget s machine left left' IsPut Holds =
    (n : ℕ) × (n < budget) × Gives n s left left' IsPut outcome.Goes × LeftAfter n s machine left' Holds

-- the next step writes
abbrev pub WritesNext : State → Type 0
WritesNext t = (next : State) × Steps t (Moves next) × (next.written ≢ t.written)

-- after a fault of the output: the machine and the input are as those steps leave them, the next step writes, and of
-- what it comes to at least the bytes that they wrote were put, in order
abbrev pub GivesPart : ℕ → State → State → List ℕ → List ℕ → (List ℕ → Type 0) → Type 0
GivesPart budget s machine left left' IsPut =
    (n : ℕ) × (n < budget) × (o next : outcome.Outcome) × Runs no_visits n s o × Runs no_visits (suc n) s next
    × (left' ≡ drop o.taken left) × (k : ℕ) × IsPut (take (length o.written + k) next.written)
    × LeftAfter n s machine left' WritesNext

-- A run of at most `budget` steps from s. For want of memory the steps that were made are those before the first whose
-- bytes weren't taken.
unfoldable pub RunTold : ℕ → State → State → List ℕ → List ℕ → (List ℕ → Type 0) → MachineEnd → Type 0
RunTold budget s machine left left' IsPut (Ended status) =
    RunEnds budget s machine left left' IsPut (outcome.Ended status)
RunTold budget s machine left left' IsPut (Trapped trap) =
    RunEnds budget s machine left left' IsPut (outcome.Trapped trap)
RunTold budget s machine left left' IsPut (Stopped cause address) =
    RunEnds budget s machine left left' IsPut (outcome.Stopped cause address)
RunTold budget s machine left left' IsPut BudgetSpent =
    Gives budget s left left' IsPut outcome.Goes × LeftAfter budget s machine left' (λ t. ⊤)
RunTold budget s machine left left' IsPut ReadFault = GivesSoFar budget s machine left left' IsPut (λ t. ⊤)
RunTold budget s machine left left' IsPut WriteFault = GivesPart budget s machine left left' IsPut
RunTold budget s machine left left' IsPut NoMemory = GivesSoFar budget s machine left left' IsPut WritesNext

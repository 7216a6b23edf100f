-- One step of the machine, and runs of many steps.
use Rattle.std.specs.Prelude.{◌≡◌, ◌⊎◌, ℕ, zero, suc, ◌+◌, List, [], Option, Some, None}
use Rattle.pcc_base.specs.Outcome.{Visit, Outcome, Goes, Stopped, End, after_visits}
use Rattle.pcc_base.specs.declared.run.Stop.TheVariants.{Instruction, Access}
use Rattle.ia32_insn.specs.declared.insn.Insn.{Insn}
use Rattle.ia32_insn.specs.State.{State, code_at}
use Rattle.ia32_insn.specs.Spelling.{Begins, NoneBegins}
use Rattle.ia32_insn.specs.Meaning.{Moved, Moves, Halts, perform}

-- where no instruction may be fetched the machine stops; else it performs the instruction that is
-- spelled at EIP, or stops where none is
abbrev pub StepsAt : Option (List ℕ) → State → Moved → Type 0
StepsAt None s moved = moved ≡ Halts (Stopped (Access s.eip) s.eip)
StepsAt (Some code) s moved =
    ((i : Insn) × (n : ℕ) × Begins i n code × (moved ≡ perform i (s.eip + n) s))
    ⊎ (NoneBegins code × (moved ≡ Halts (Stopped Instruction s.eip)))

-- one step from the state leads there
abbrev pub Steps : State → Moved → Type 0
Steps s moved = StepsAt (code_at s.eip s.memory) s moved

-- the outcome of no steps, and of a last one
abbrev pub stands : List Visit → State → End → Outcome
stands visits s end = record { visits = visits; taken = s.taken; written = s.written; end = end }

-- how a run goes on after a step with these visits
abbrev pub GoesOn : (State → Outcome → Type 0) → List Visit → State → Moved → Outcome → Type 0
GoesOn rest visits s (Moves next) outcome = (later : Outcome) × rest next later × (outcome ≡ after_visits visits later)
GoesOn rest visits s (Halts end) outcome = outcome ≡ stands visits s end

-- m steps from the state have this outcome, where `visits` says what is visited by a step from a state
abbrev pub Runs : (State → List Visit) → ℕ → State → Outcome → Type 0
Runs visits zero s outcome = outcome ≡ stands [] s Goes
Runs visits (suc m) s outcome = (moved : Moved) × Steps s moved × GoesOn (Runs visits m) (visits s) s moved outcome

-- no step visits anything
abbrev pub no_visits : State → List Visit
no_visits s = []

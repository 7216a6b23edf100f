-- What an evaluation leaves, by cases over its answer.
use Rattle.std.specs.Prelude.{◌≡◌, ◌≤◌, ℕ, List, ◌++◌, take, drop}
use Rattle.pcc_base.specs.Counts.{Rose}
use Rattle.pcc_base.specs.Outcome as outcome
use Rattle.pcc_outside.specs.Streams.{SinkCounts}
use Rattle.c_tree.specs.Evaluation.{source_outcome}
use Rattle.c_tree.specs.Program.{Program}
use Rattle.c_eval_state.specs.declared.end.EvalEnd.{EvalEnd}
use Rattle.c_eval_state.specs.declared.end.EvalEnd.TheVariants.{Ended, Trapped, TurnsSpent, ReadFault, WriteFault, NoMemory}

-- what a program does in so many turns over an input; its visits show nothing
abbrev pub outcome_in : Program → ℕ → List ℕ → outcome.Outcome
outcome_in p turns input = source_outcome p outcome.nothing_listed input turns

-- the turns have this end, by the input left and the bytes taken before and after
abbrev pub Gives : Program → ℕ → List ℕ → List ℕ → List ℕ → List ℕ → outcome.End → Type 0
Gives p turns left left' taken taken' end =
    ((outcome_in p turns left).end ≡ end) × (left' ≡ drop (outcome_in p turns left).taken left)
    × (taken' ≡ taken ++ (outcome_in p turns left).written)

-- the bytes taken are the first of those that the turns write
abbrev pub WritesSoFar : Program → ℕ → List ℕ → List ℕ → List ℕ → Type 0
WritesSoFar p turns left taken taken' = (n : ℕ) × (taken' ≡ taken ++ take n (outcome_in p turns left).written)

-- after a fault: no more of the input was taken than the turns take, and the bytes taken are the first that they write
abbrev pub GivesSoFar : Program → ℕ → List ℕ → List ℕ → List ℕ → List ℕ → Type 0
GivesSoFar p turns left left' taken taken' =
    (k : ℕ) × (k ≤ (outcome_in p turns left).taken) × (left' ≡ drop k left) × WritesSoFar p turns left taken taken'

-- An evaluation of so many turns. For want of memory a byte may be lost that was taken from the input.
unfoldable pub EvalTold : Program → ℕ → List ℕ → List ℕ → List ℕ → List ℕ → EvalEnd → Type 0
EvalTold p turns left left' taken taken' (Ended status) =
    Gives p turns left left' taken taken' (outcome.Ended status)
EvalTold p turns left left' taken taken' (Trapped trap) =
    Gives p turns left left' taken taken' (outcome.Trapped trap)
EvalTold p turns left left' taken taken' TurnsSpent = Gives p turns left left' taken taken' outcome.Goes
EvalTold p turns left left' taken taken' ReadFault = GivesSoFar p turns left left' taken taken'
EvalTold p turns left left' taken taken' WriteFault = GivesSoFar p turns left left' taken taken'
EvalTold p turns left left' taken taken' NoMemory = WritesSoFar p turns left taken taken'

-- The lent objects' counts over an evaluation with this end: only that of the answer may rise, and that of a fault did.
-- Want of memory may be the evaluation's own.
abbrev pub EvalCounts : ℕ → ℕ → SinkCounts → SinkCounts → EvalEnd → Type 0
EvalCounts input input' out out' ReadFault = Rose input input' × (out' ≡ out)
EvalCounts input input' out out' WriteFault = (input' ≡ input) × Rose out.faults out'.faults × (out'.wants ≡ out.wants)
EvalCounts input input' out out' NoMemory = (input' ≡ input) × (out'.faults ≡ out.faults)
EvalCounts input input' out out' _ = (input' ≡ input) × (out' ≡ out)

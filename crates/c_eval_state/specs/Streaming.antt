-- What `getchar` and `putchar` leave of streams that are lent, by cases over the answer.
use Rattle.std.specs.Prelude.{◌≡◌, ℕ, List, [], ◌∷◌, ◌++◌, ◌+◌, take, Result, Ok, Err}
use Rattle.pcc_base.specs.Counts.{Rose}
use Rattle.pcc_base.specs.Outcome.{Listing}
use Rattle.pcc_outside.specs.Streams.{SinkCounts}
use Rattle.c_tree.specs.Evaluation.{low_byte}
use Rattle.c_tree.specs.Program.{Getchar, Program}
use Rattle.c_tree.specs.Store.{State, Gives}
use Rattle.c_eval_laws.specs.Steps.{Configuration}
use Rattle.c_eval_laws.specs.Tasks.{Puts, top}
use Rattle.c_eval_state.specs.declared.end.EvalEnd.{EvalEnd}
use Rattle.c_eval_state.specs.declared.end.EvalEnd.TheVariants.{ReadFault, WriteFault, NoMemory}
use Rattle.c_eval_state.specs.Changes.{done, expression_done}

-- the state where so much of the input is left, and after a step that leaves so much of it
abbrev pub with_left : State → List ℕ → State
with_left s left = record s { left = left }

-- how much a step took: one byte, where there was one
abbrev pub taking : List ℕ → State → State
taking [] s = s
taking (byte ∷ bytes) s = record s { left = bytes; taken = s.taken + 1 }

-- `getchar`, by the input left before and after. For want of memory what was taken is lost.
abbrev pub GetTold : Configuration → Configuration → List ℕ → List ℕ → Result Unit EvalEnd → Type 0
GetTold old new left left' (Ok it) = (s : State) → s.left ≡ left
    → (expression_done Getchar old s ≡ Gives new (taking left s)) × ((taking left s).left ≡ left')
GetTold old new left left' (Err NoMemory) = Unit {0}
GetTold old new left left' (Err ReadFault) = left' ≡ left
GetTold old new left left' (Err _) = ⊥

-- `putchar`, by the bytes taken before and after. A sink that fails has taken a part of what is written, and for want
-- of memory the byte may be written or not.
abbrev pub PutTold : Configuration → Configuration → List ℕ → List ℕ → Result Unit EvalEnd → Type 0
PutTold old new taken taken' (Ok it) = (taken' ≡ taken ++ low_byte (top old.values) ∷ [])
    × ((p : Program) (l : Listing) (s : State)
    → done p l Puts old s ≡ Gives new (record s { written = s.written ++ low_byte (top old.values) ∷ [] }))
PutTold old new taken taken' (Err WriteFault) = (n : ℕ) × (taken' ≡ taken ++ take n (low_byte (top old.values) ∷ []))
PutTold old new taken taken' (Err NoMemory) = (n : ℕ) × (taken' ≡ taken ++ take n (low_byte (top old.values) ∷ []))
PutTold old new taken taken' (Err _) = ⊥

-- the count of faults of the input over a call: it rises exactly where the answer is a fault; no other answer but want
-- of memory refuses
abbrev pub InputCounts : ℕ → ℕ → Result Unit EvalEnd → Type 0
InputCounts old new (Ok it) = new ≡ old
InputCounts old new (Err ReadFault) = Rose old new
InputCounts old new (Err NoMemory) = new ≡ old
InputCounts old new (Err _) = ⊥

-- the counts of the output: that of faults rises exactly where the answer is one
abbrev pub OutCounts : SinkCounts → SinkCounts → Result Unit EvalEnd → Type 0
OutCounts old new (Ok it) = new ≡ old
OutCounts old new (Err WriteFault) = Rose old.faults new.faults × (new.wants ≡ old.wants)
OutCounts old new (Err NoMemory) = new.faults ≡ old.faults
OutCounts old new (Err _) = ⊥

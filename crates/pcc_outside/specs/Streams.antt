-- What a call of a source or a sink counts and tells, by cases over its answer.
use Rattle.std.specs.Prelude.{◌≡◌, ℕ, List, [], ◌∷◌, ◌++◌, take, Option, Some, None, Result, Ok, Err}
use Rattle.pcc_base.specs.Counts.{Rose}
use Rattle.pcc_outside.specs.declared.source.Failed.{Failed}
use Rattle.pcc_outside.specs.declared.sink.WriteRefusal.{WriteRefusal}
use Rattle.pcc_outside.specs.declared.sink.WriteRefusal.TheVariants.{Failed as WriteFailed, NoMemory}

-- a source's count of faults over a call
abbrev pub CountsNext : ℕ → ℕ → Result (Option ℕ) Failed → Type 0
CountsNext old new (Ok byte) = new ≡ old
CountsNext old new (Err e) = Rose old new

-- a source's bytes left over a call
abbrev pub NextTold : List ℕ → List ℕ → Result (Option ℕ) Failed → Type 0
NextTold old new (Ok (Some byte)) = old ≡ byte ∷ new
NextTold old new (Ok None) = (old ≡ []) × (new ≡ [])
NextTold old new (Err e) = new ≡ old

pub record SinkCounts : Type 0 where
  pub faults : ℕ
  pub wants : ℕ

-- a sink's counts over a call
abbrev pub CountsPut : SinkCounts → SinkCounts → Result Unit WriteRefusal → Type 0
CountsPut old new (Ok done) = new ≡ old
CountsPut old new (Err WriteFailed) = Rose old.faults new.faults × (new.wants ≡ old.wants)
CountsPut old new (Err NoMemory) = Rose old.wants new.wants × (new.faults ≡ old.faults)

-- a sink's bytes taken over a call
abbrev pub PutTold : List ℕ → List ℕ → List ℕ → Result Unit WriteRefusal → Type 0
PutTold old new bytes (Ok done) = new ≡ old ++ bytes
PutTold old new bytes (Err WriteFailed) = (n : ℕ) × (new ≡ old ++ take n bytes)
PutTold old new bytes (Err NoMemory) = new ≡ old

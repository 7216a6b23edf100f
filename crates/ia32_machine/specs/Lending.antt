-- What a call says that is lent an input and an output.
use Rattle.std.specs.Prelude.{◌≡◌, ℕ, List, [], ◌++◌}
use Rattle.pcc_outside.specs.Streams.{SinkCounts}
use Rattle.pcc_outside.specs.declared.sink.Sink as sink
use Rattle.pcc_outside.specs.declared.source.Source as source

-- where the output tells what it took, these bytes were put on it between the two
abbrev pub IsPutOn : {O : Type 0} → sink.Ghosts O → O → O → List ℕ → Type 0
IsPutOn output old new bytes = output.tells old → output.taken new ≡ output.taken old ++ bytes

-- no byte was put
abbrev pub PutsNothing : List ℕ → Type 0
PutsNothing bytes = bytes ≡ []

-- From the lent objects before the call to those after it: where the input tells what it has left, this of that, before
-- and after, and of the bytes put on the output, which are known where the output tells too; this of the counts of
-- faults and refusals, whatever tells; and what told before still tells.
pub record Lends {I O : Type 0} (input : source.Ghosts I) (output : sink.Ghosts O) (old new : I × O)
    (Told : List ℕ → List ℕ → (List ℕ → Type 0) → Type 0)
    (Counted : ℕ → ℕ → SinkCounts → SinkCounts → Type 0) : Type 0 where
  pub told : input.tells old.0 → Told (input.left old.0) (input.left new.0) (IsPutOn output old.1 new.1)
  pub counted : Counted (input.faults old.0) (input.faults new.0) (output.counts old.1) (output.counts new.1)
  pub input_tells : input.tells old.0 → input.tells new.0
  pub out_tells : output.tells old.1 → output.tells new.1

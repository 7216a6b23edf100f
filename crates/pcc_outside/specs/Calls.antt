-- The calls of an object in memory, and which of them fail.
use Rattle.std.specs.Prelude.{ℕ, ◌+◌, ◌≡◌, min, List, Contains, Result, Ok, Err, Vec, Option}
use Rattle.std.specs.declared.alloc.Global.{Global}
use Rattle.pcc_base.specs.Counts.{last_count}
use Rattle.pcc_outside.specs.declared.source.Failed.{Failed}
use Rattle.pcc_outside.specs.declared.file_store.ReadRefusal.{ReadRefusal}
use Rattle.pcc_outside.specs.declared.file_store.ReadRefusal.TheVariants.{Missing, TooLong, Failed as ReadFailed}
use Rattle.pcc_outside.specs.declared.file_store.ReadRefusal.TheVariants.{NoMemory as NoReadMemory}
use Rattle.pcc_outside.specs.declared.sink.WriteRefusal.{WriteRefusal}
use Rattle.pcc_outside.specs.declared.sink.WriteRefusal.TheVariants.{Failed as WriteFailed, NoMemory as NoWriteMemory}
use Rattle.pcc_outside.specs.Files.{StoreCounts, OnlyMissing, OnlyTooLong, OnlyReadFaults, OnlyWriteFaults}
use Rattle.pcc_outside.specs.Streams.{SinkCounts}

-- one more, where a count of 64 bits stands still at its end
abbrev pub raised : ℕ → ℕ
raised count = min (count + 1) last_count

-- how many calls there were, and the numbers of the calls that fail, which count from 1
pub record Calls : Type 0 where
  pub made : ℕ
  pub failing : List ℕ

-- no call yet, where these fail
abbrev pub no_calls : List ℕ → Calls
no_calls failing = record { made = 0; failing = failing }

-- one call more
abbrev pub one_more : Calls → Calls
one_more calls = record { made = raised calls.made; failing = calls.failing }

-- the next call is one of those that fail
abbrev pub FailsNext : Calls → Type 0
FailsNext calls = Contains calls.failing (raised calls.made)

-- a source's count of faults after a call goes up by exactly one at Err
abbrev pub faults_after : ℕ → Result (Option ℕ) Failed → ℕ
faults_after faults (Ok byte) = faults
faults_after faults (Err e) = raised faults

-- a sink's counts after a call: that of its answer goes up by exactly one
abbrev pub PutRaises : SinkCounts → SinkCounts → Result Unit WriteRefusal → Type 0
PutRaises old new (Ok done) = new ≡ old
PutRaises old new (Err WriteFailed) = (new.faults ≡ raised old.faults) × (new.wants ≡ old.wants)
PutRaises old new (Err NoWriteMemory) = (new.wants ≡ raised old.wants) × (new.faults ≡ old.faults)

-- a store's counts after a read: that of its answer goes up by exactly one
abbrev pub ReadRaises : StoreCounts → StoreCounts → Result (Vec ℕ Global) ReadRefusal → Type 0
ReadRaises old new (Ok bytes) = new ≡ old
ReadRaises old new (Err Missing) = (new.missing ≡ raised old.missing) × OnlyMissing old new
ReadRaises old new (Err TooLong) = (new.too_long ≡ raised old.too_long) × OnlyTooLong old new
ReadRaises old new (Err ReadFailed) = (new.read_faults ≡ raised old.read_faults) × OnlyReadFaults old new
ReadRaises old new (Err NoReadMemory) = new ≡ old

-- a store's counts after a write: that of its answer goes up by exactly one
abbrev pub WriteRaises : StoreCounts → StoreCounts → Result Unit WriteRefusal → Type 0
WriteRaises old new (Ok done) = new ≡ old
WriteRaises old new (Err WriteFailed) = (new.write_faults ≡ raised old.write_faults) × OnlyWriteFaults old new
WriteRaises old new (Err NoWriteMemory) = new ≡ old

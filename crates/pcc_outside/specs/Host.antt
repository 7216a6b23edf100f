-- What contracts see of the adapters over the system's files and streams.
use Rattle.std.specs.Prelude.{ℕ, List, [], ◌∷◌, Option, Some, None, Result, Ok, Err, take}
use Rattle.std.specs.Io.KnownBytes.{Appends, Consumes, IsAtEnd, Keeps}
use Rattle.std.specs.declared.io.ErrorKind.{ErrorKind}
use Rattle.std.specs.declared.io.ErrorKind.TheVariants.{NotFound, OutOfMemory}
use Rattle.pcc_outside.specs.declared.file_store.ReadRefusal.{ReadRefusal}
use Rattle.pcc_outside.specs.declared.file_store.ReadRefusal.TheVariants.{Missing, Failed, NoMemory}
use Rattle.pcc_outside.specs.declared.source.Failed.{Failed as ReadFailed}
use Rattle.pcc_outside.specs.declared.host.HostFiles.{HostFiles}
use Rattle.pcc_outside.specs.declared.host.HostInput.{HostInput}
use Rattle.pcc_outside.specs.declared.host.HostOutput.{HostOutput}
use Rattle.pcc_outside.specs.Files.{StoreCounts}
use Rattle.pcc_outside.specs.Streams.{SinkCounts}

-- why a file wasn't opened: only where the system says that there is none is it missing
abbrev pub open_refusal_of : ErrorKind → ReadRefusal
open_refusal_of NotFound = Missing
open_refusal_of OutOfMemory = NoMemory
open_refusal_of otherwise = Failed

-- why an open file wasn't read
abbrev pub read_refusal_of : ErrorKind → ReadRefusal
read_refusal_of OutOfMemory = NoMemory
read_refusal_of otherwise = Failed

-- known bytes grow by a prefix of these
abbrev pub AppendsPrefix : Option (List ℕ) → Option (List ℕ) → List ℕ → Type 0
AppendsPrefix old new bytes = (n : ℕ) × Appends old new (take n bytes)

-- how often each answer of the files that has a count was given
abbrev pub host_counts : {R : Type 0} → HostFiles R → StoreCounts
host_counts store = record {
  read_faults = store.read_faults;
  write_faults = store.write_faults;
  missing =
      store.missing;
  too_long = store.too_long;
}

-- how often the input failed
abbrev pub input_faults : {R : Type 0} → HostInput R → ℕ
input_faults input = input.faults

-- the bytes that the input's reader has left, where it says
abbrev pub input_remaining : {R : Type 0} → (R → Option (List ℕ)) → HostInput R → Option (List ℕ)
input_remaining remaining input = remaining input.reader

-- how often the output failed; it finds memory for no byte, since it keeps none
abbrev pub output_counts : {W : Type 0} → HostOutput W → SinkCounts
output_counts output = record { faults = output.faults; wants = 0 }

-- the bytes that the output's writer holds, where it says
abbrev pub output_contents : {W : Type 0} → (W → Option (List ℕ)) → HostOutput W → Option (List ℕ)
output_contents contents output = contents output.writer

-- what is known of a reader's bytes over the reading of one: it is the first, or none is left, or they stay
abbrev pub NextRead : Option (List ℕ) → Option (List ℕ) → Result (Option ℕ) ReadFailed → Type 0
NextRead old new (Ok (Some byte)) = Consumes old new (byte ∷ [])
NextRead old new (Ok None) = IsAtEnd new × Keeps old new
NextRead old new (Err e) = Keeps old new

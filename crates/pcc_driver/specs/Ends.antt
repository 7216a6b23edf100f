-- What a report leaves: its line on standard error, if it has one, and the status.
use Rattle.std.specs.Prelude.{◌≡◌, ◌⊎◌, ℕ, Bool, true, false, List, Result, Ok, Err}
use Rattle.pcc_outside.specs.Streams.{CountsPut, PutTold}
use Rattle.pcc_outside.specs.declared.sink.WriteRefusal.{WriteRefusal}
use Rattle.pcc_outside.specs.declared.sink.WriteRefusal.TheVariants as put
use Rattle.pcc_words.specs.Asked.{Command}
use Rattle.pcc_driver.specs.Outside.{Output}
use Rattle.pcc_driver.specs.Reports.{is_silent, status_of, IsShownAs}
use Rattle.pcc_driver.specs.declared.report.Report.{Report}
use Rattle.pcc_driver.specs.declared.report.Report.TheVariants as reports

-- the status after the line was put on standard error, or refused there
abbrev pub status_after : ℕ → Result Unit WriteRefusal → ℕ
status_after status (Ok done) = status
status_after status (Err put.Failed) = 5
status_after status (Err put.NoMemory) = 11

-- this report, or that of want of memory
abbrev pub IsUnlessMemory : Report → Report → Type 0
IsUnlessMemory report other = (other ≡ report) ⊎ (other ≡ reports.NoMemory)

-- The line was put on standard error, which is this before and after, and the status is that of the report, or 5 or 11
-- where standard error refused.
abbrev pub IsPut : List ℕ → ℕ → Output → Output → ℕ → Type 0
IsPut line status old new result =
    (answer : Result Unit WriteRefusal) × CountsPut old.counts new.counts answer
    × (old.tells → PutTold old.taken new.taken line answer) × (result ≡ status_after status answer)

-- nothing was put on standard error, and nothing asked of it
abbrev pub IsUntouched : Output → Output → Type 0
IsUntouched old new = (new.counts ≡ old.counts) × (old.tells → new.taken ≡ old.taken)

-- how a report without a line ends, and how one with a line does
abbrev pub EndsIf : Bool → Command → Report → Output → Output → ℕ → Type 0
EndsIf true command report old new result = IsUntouched old new × (result ≡ status_of report)
EndsIf false command report old new result =
    (shown : Report) × IsUnlessMemory report shown × (line : List ℕ) × IsShownAs command shown line
    × IsPut line (status_of shown) old new result

-- A command's report ends in its status. It is shown, or want of memory is where there was none for its line; a report
-- without a line leaves standard error alone.
abbrev pub Ends : Command → Report → Output → Output → ℕ → Type 0
Ends command report old new result = EndsIf (is_silent report) command report old new result

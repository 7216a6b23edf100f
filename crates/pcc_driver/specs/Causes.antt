-- Which count a report raised, of the objects that a command works on.
use Rattle.std.specs.Prelude.{◌≡◌, ℕ}
use Rattle.pcc_base.specs.Counts.{Rose}
use Rattle.pcc_outside.specs.Files.{StoreCounts, OnlyMissing, OnlyTooLong, OnlyReadFaults, OnlyWriteFaults}
use Rattle.pcc_outside.specs.Streams.{SinkCounts}
use Rattle.pcc_driver.specs.Outside.{Work}
use Rattle.pcc_driver.specs.declared.report.Report.{Report}
use Rattle.pcc_driver.specs.declared.report.Report.TheVariants as reports

-- the count of the files that the report names rose, and no other
abbrev pub FilesCause : Report → StoreCounts → StoreCounts → Type 0
FilesCause (reports.TooLong file) old new = Rose old.too_long new.too_long × OnlyTooLong old new
FilesCause (reports.ReadFault file) old new = Rose old.read_faults new.read_faults × OnlyReadFaults old new
FilesCause (reports.WriteFault file) old new = Rose old.write_faults new.write_faults × OnlyWriteFaults old new
FilesCause (reports.NoFile file) old new = Rose old.missing new.missing × OnlyMissing old new
FilesCause _ old new = new ≡ old

-- the count of the input or the output that the report names rose, and no other
abbrev pub StreamsCause : Report → ℕ → ℕ → SinkCounts → SinkCounts → Type 0
StreamsCause reports.InputFault input input' out out' = Rose input input' × (out' ≡ out)
StreamsCause reports.OutputFault input input' out out' = (input' ≡ input) × Rose out.faults out'.faults
    × (out'.wants ≡ out.wants)
StreamsCause reports.NoMemory input input' out out' = (input' ≡ input) × (out'.faults ≡ out.faults)
StreamsCause _ input input' out out' = (input' ≡ input) × (out' ≡ out)

-- The count that the report has, if it has one, rose, and no other; in want of memory that of the output's
-- wants is left open.
pub record HasCause (report : Report) (old new : Work) : Type 0 where
  pub files : FilesCause report old.files.counts new.files.counts
  pub streams : StreamsCause report old.input.faults new.input.faults old.out.counts new.out.counts

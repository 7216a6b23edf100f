-- The typed program of the sources that a command names, or why there is none, by the report.
use Rattle.std.specs.Prelude.{◌≡◌, ℕ, List, ⊤}
use Rattle.pcc_outside.specs.declared.file_store.ReadRefusal.{ReadRefusal}
use Rattle.pcc_outside.specs.declared.file_store.ReadRefusal.TheVariants as read
use Rattle.c_tree.specs.Program.{Program}
pub use Rattle.c_front.specs.Answers.{HaveTypedProgram, HaveFault, Excess, Exceed}
pub use Rattle.c_front.specs.Answers.{ManyTokens, LargeArrays, LargeFrame}
use Rattle.c_front.specs.declared.refused.Refused.{Refused}
use Rattle.c_front.specs.declared.refused.Refused.TheVariants as refused
use Rattle.pcc_driver.specs.Outside.{Files}
use Rattle.pcc_driver.specs.declared.report.Named.{Named}
use Rattle.pcc_driver.specs.declared.report.Named.TheVariants.{Source}
use Rattle.pcc_driver.specs.declared.report.Report.{Report}
use Rattle.pcc_driver.specs.declared.report.Report.TheVariants as reports
use Rattle.pcc_driver.specs.Sources.{AreRead, HoldAll, StopsAt}
use Rattle.pcc_driver.specs.declared.reading.Unread.{Unread}

-- the report of a refused read
abbrev pub report_of_read : ReadRefusal → Named → Report
report_of_read read.Missing file = reports.NoFile file
report_of_read read.TooLong file = reports.TooLong file
report_of_read read.Failed file = reports.ReadFault file
report_of_read read.NoMemory file = reports.NoMemory

-- the report of the first source that isn't read
abbrev pub report_of_unread : Unread → Report
report_of_unread unread = report_of_read unread.why (Source unread.position)

-- the report of texts that have no typed program within the limits
abbrev pub report_of_refused : Refused → Report
report_of_refused (refused.Fault fault) = reports.SourceFault fault
report_of_refused (refused.Tokens n) = reports.TooManyTokens n
report_of_refused (refused.Arrays bytes) = reports.LargeArrays bytes
report_of_refused (refused.Frame name bytes) = reports.LargeFrame name bytes
report_of_refused refused.NoMemory = reports.NoMemory

-- some texts have this typed program within the limits
abbrev pub IsTyped : Program → Type 0
IsTyped p = (texts : List (List ℕ)) × HaveTypedProgram texts p

-- why sources have no typed program within the limits: the first that isn't read, the fault of their texts, or the
-- limit that these are above
abbrev pub HaveNoProgram : Files → List (List ℕ) → Report → Type 0
HaveNoProgram files sources (reports.NoFile (Source i)) = StopsAt files read.Missing sources i
HaveNoProgram files sources (reports.TooLong (Source i)) = StopsAt files read.TooLong sources i
HaveNoProgram files sources (reports.ReadFault (Source i)) = StopsAt files read.Failed sources i
HaveNoProgram files sources (reports.SourceFault fault) = HoldAll files sources (λ texts. HaveFault texts fault)
HaveNoProgram files sources (reports.TooManyTokens tokens) =
    (tokens ≡ 0x10001) × HoldAll files sources (λ texts. Exceed texts ManyTokens)
HaveNoProgram files sources (reports.LargeArrays bytes) =
    HoldAll files sources (λ texts. Exceed texts (LargeArrays bytes))
HaveNoProgram files sources (reports.LargeFrame name bytes) =
    HoldAll files sources (λ texts. Exceed texts (LargeFrame name.items bytes))
HaveNoProgram files sources reports.NoMemory = ⊤
HaveNoProgram files sources _ = ⊥

-- why texts have no typed program within the limits, by the report: their fault, or the limit that they are above
abbrev pub TextsRefused : List (List ℕ) → Report → Type 0
TextsRefused texts (reports.SourceFault fault) = HaveFault texts fault
TextsRefused texts (reports.TooManyTokens tokens) = (tokens ≡ 0x10001) × Exceed texts ManyTokens
TextsRefused texts (reports.LargeArrays bytes) = Exceed texts (LargeArrays bytes)
TextsRefused texts (reports.LargeFrame name bytes) = Exceed texts (LargeFrame name.items bytes)
TextsRefused texts reports.NoMemory = ⊤
TextsRefused texts _ = ⊥

-- the sources hold texts that have a typed program within the limits, of which this holds
abbrev pub HoldProgram : Files → List (List ℕ) → (Program → Type 0) → Type 0
HoldProgram files sources P = HoldAll files sources (λ texts. (p : Program) × HaveTypedProgram texts p × P p)

-- The status of a command on sources, by what the files hold: the first source that can't be read decides; where all
-- can, their texts do, and what is said of their typed program within the limits, where they have one.
pub record SourcesStatus (files : Files) (sources : List (List ℕ)) (OfProgram : Program → Type 0) (status : ℕ) : Type 0
  where
    pub missing : (i : ℕ) → StopsAt files read.Missing sources i → status ≡ 6
    pub too_long : (i : ℕ) → StopsAt files read.TooLong sources i → status ≡ 3
    pub program : (texts : List (List ℕ)) (p : Program) → AreRead files sources texts → HaveTypedProgram texts p
        → OfProgram p
    pub limits : (texts : List (List ℕ)) (excess : Excess) → AreRead files sources texts → Exceed texts excess
        → status ≡ 3
    pub refused : (texts : List (List ℕ)) → AreRead files sources texts
        → ((p : Program) → HaveTypedProgram texts p → ⊥) → ((excess : Excess) → Exceed texts excess → ⊥)
        → status ≡ 1

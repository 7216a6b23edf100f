-- Where the statuses come from that the outside or the limit on tokens causes.
use Rattle.std.proofs.Common.{◌≡◌, ℕ, Vec, Global, sym, ◌∙◌, inl, inr, refl, arith}
use Rattle.std.specs.Prelude.{◌⊎◌}
use Rattle.pcc_base.specs.Counts.{Rose}
use Rattle.pcc_driver.specs.Programs.{ManyTokens, LargeArrays, LargeFrame}
use Rattle.pcc_driver.specs.Causes.{HasCause}
use Rattle.pcc_driver.specs.Ends.{Ends}
use Rattle.pcc_driver.specs.Outside.{Outside, Work}
use Rattle.pcc_driver.specs.Reports.{status_of}
use Rattle.pcc_driver.specs.declared.report.Report.{Report}
use Rattle.pcc_driver.specs.declared.report.Report.TheVariants as reports
use Rattle.pcc_driver.proofs.Ends.{ended_status, shown_status}
use Rattle.pcc_driver.specs.Sources.{HoldAll}
use Rattle.pcc_driver.specs.Answers.{CommandTold, NothingDone}
use Rattle.pcc_words.specs.Asked as commands
use Rattle.pcc_words.specs.Asked.{Command}
use Rattle.pcc_driver.specs.Promises.{LimitCause, HasCauses}

-- nothing but its own report, or want of memory, is told of words that ask for nothing
pub own_status : (own report : Report) (old new : Work) → NothingDone own old new report → (status_of report ≡ 11)
    ⊎ (status_of report ≡ status_of own)
own_status own report old new told = shown_status own report (status_of report) told.0 refl

-- such a report has no status of a limit
no_limit : (report : Report) (old new : Work) → NothingDone reports.Usage old new report → status_of report ≡ 3 → ⊥
no_limit report old new told e = elim (own_status reports.Usage report old new told) [
  | inl none ↦ omega (arith, none, e)
  | inr usage ↦ omega (arith, usage, e)
]

-- too many tokens are told of sources that are above the limit on them
many_told : (command : Command) (old new : Work) (tokens : ℕ)
    → CommandTold command old new (reports.TooManyTokens tokens) → LimitCause command old.files
many_told (commands.Compile name sources) old new tokens told = λ f.
    let (texts, are, above) = (told.0 f).0.1 in (texts, are, (ManyTokens, above))
many_told (commands.Run steps image) old new tokens told = absurd told.0
many_told (commands.Solve file) old new tokens told = absurd told.0
many_told (commands.Eval turns sources) old new tokens told = λ f.
    let (texts, are, above) = (told.1 f).1 in (texts, are, (ManyTokens, above))
many_told (commands.Gen seed) old new tokens told = absurd told.2
many_told (commands.Selftest name number) old new tokens told = elim told.1 [
  | inl line ↦ (ManyTokens, line.0.0.1)
  | inr tested ↦ absurd tested.2
]
many_told (commands.Least file) old new tokens told = λ f. absurd (told.2 f)
many_told (commands.Board sources) old new tokens told = λ f.
    let (texts, are, above) = (told.2 f).0.1 in (texts, are, (ManyTokens, above))
many_told (commands.ManyFiles count) old new tokens told = tt
many_told commands.Usage old new tokens told = absurd (no_limit (reports.TooManyTokens tokens) old new told refl)

-- too large static objects are told of such sources
arrays_told : (command : Command) (old new : Work) (bytes : ℕ)
    → CommandTold command old new (reports.LargeArrays bytes) → LimitCause command old.files
arrays_told (commands.Compile name sources) old new bytes told = λ f.
    let (texts, are, above) = (told.0 f).0 in (texts, are, (LargeArrays bytes, above))
arrays_told (commands.Run steps image) old new bytes told = absurd told.0
arrays_told (commands.Solve file) old new bytes told = absurd told.0
arrays_told (commands.Eval turns sources) old new bytes told = λ f.
    let (texts, are, above) = told.1 f in (texts, are, (LargeArrays bytes, above))
arrays_told (commands.Gen seed) old new bytes told = absurd told.2
arrays_told (commands.Selftest name number) old new bytes told = elim told.1 [
  | inl line ↦ (LargeArrays bytes, line.0.0)
  | inr tested ↦ absurd tested.2
]
arrays_told (commands.Least file) old new bytes told = λ f. absurd (told.2 f)
arrays_told (commands.Board sources) old new bytes told = λ f.
    let (texts, are, above) = (told.2 f).0 in (texts, are, (LargeArrays bytes, above))
arrays_told (commands.ManyFiles count) old new bytes told = tt
arrays_told commands.Usage old new bytes told = absurd (no_limit (reports.LargeArrays bytes) old new told refl)

-- and so is a too large frame
frame_told : (command : Command) (old new : Work) (name : Vec ℕ Global) (bytes : ℕ)
    → CommandTold command old new (reports.LargeFrame name bytes) → LimitCause command old.files
frame_told (commands.Compile name sources) old new function bytes told = λ f.
    let (texts, are, above) = (told.0 f).0 in (texts, are, (LargeFrame function.items bytes, above))
frame_told (commands.Run steps image) old new function bytes told = absurd told.0
frame_told (commands.Solve file) old new function bytes told = absurd told.0
frame_told (commands.Eval turns sources) old new function bytes told = λ f.
    let (texts, are, above) = told.1 f in (texts, are, (LargeFrame function.items bytes, above))
frame_told (commands.Gen seed) old new function bytes told = absurd told.2
frame_told (commands.Selftest name number) old new function bytes told = elim told.1 [
  | inl line ↦ (LargeFrame function.items bytes, line.0.0)
  | inr tested ↦ absurd tested.2
]
frame_told (commands.Least file) old new function bytes told = λ f. absurd (told.2 f)
frame_told (commands.Board sources) old new function bytes told = λ f.
    let (texts, are, above) = (told.2 f).0 in (texts, are, (LargeFrame function.items bytes, above))
frame_told (commands.ManyFiles count) old new function bytes told = tt
frame_told commands.Usage old new function bytes told =
    absurd (no_limit (reports.LargeFrame function bytes) old new told refl)

-- too many sources are told of words that have them
files_told : (command : Command) (old new : Work) (count : ℕ)
    → CommandTold command old new (reports.TooManyFiles count) → LimitCause command old.files
files_told (commands.Compile name sources) old new count told = λ f. absurd (told.0 f).0
files_told (commands.Run steps image) old new count told = absurd told.0
files_told (commands.Solve file) old new count told = absurd told.0
files_told (commands.Eval turns sources) old new count told = λ f. absurd (told.1 f)
files_told (commands.Gen seed) old new count told = absurd told.2
files_told (commands.Selftest name number) old new count told = elim told.1 [
  | inl line ↦ absurd line.0.0
  | inr tested ↦ absurd tested.2
]
files_told (commands.Least file) old new count told = λ f. absurd (told.2 f)
files_told (commands.Board sources) old new count told = λ f. absurd (told.2 f).0
files_told (commands.ManyFiles number) old new count told = tt
files_told commands.Usage old new count told = absurd (no_limit (reports.TooManyFiles count) old new told refl)

-- a board that is too large is told of one
board_told : (command : Command) (old new : Work) (areas pieces : ℕ)
    → CommandTold command old new (reports.LargeBoard areas pieces) → LimitCause command old.files
board_told (commands.Compile name sources) old new areas pieces told = λ f. absurd (told.0 f).0
board_told (commands.Run steps image) old new areas pieces told = absurd told.0
board_told (commands.Solve file) old new areas pieces told = absurd told.0
board_told (commands.Eval turns sources) old new areas pieces told = λ f. absurd (told.1 f)
board_told (commands.Gen seed) old new areas pieces told = absurd told.2
board_told (commands.Selftest name number) old new areas pieces told = elim told.1 [
  | inl line ↦ absurd line.0.0
  | inr tested ↦ absurd tested.2
]
board_told (commands.Least file) old new areas pieces told = λ f.
    let (text, held, small, large) = (told.2 f).0 in (text, held, small, (areas, pieces, large))
board_told (commands.Board sources) old new areas pieces told = λ f. absurd (told.2 f).0
board_told (commands.ManyFiles count) old new areas pieces told = tt
board_told commands.Usage old new areas pieces told =
    absurd (no_limit (reports.LargeBoard areas pieces) old new told refl)

-- a report of status 3 is of a file that is too long, of sources or a board above a limit, or of too many sources
limit_report : (report : Report) (command : Command) (old new : Work) → HasCause report old new
    → CommandTold command old new report → status_of report ≡ 3
    → Rose old.files.counts.too_long new.files.counts.too_long ⊎ LimitCause command old.files
limit_report (reports.TooLong file) command old new cause told e = inl cause.files.0
limit_report (reports.TooManyTokens tokens) command old new cause told e = inr (many_told command old new tokens told)
limit_report (reports.LargeArrays bytes) command old new cause told e = inr (arrays_told command old new bytes told)
limit_report (reports.LargeFrame name bytes) command old new cause told e =
    inr (frame_told command old new name bytes told)
limit_report (reports.TooManyFiles count) command old new cause told e = inr (files_told command old new count told)
limit_report (reports.LargeBoard areas pieces) command old new cause told e =
    inr (board_told command old new areas pieces told)
limit_report report command old new cause told e = absurd (omega (arith, e))

-- a report of status 4 is of a fault of reading
read_report : (report : Report) (old new : Work) → HasCause report old new → status_of report ≡ 4
    → Rose old.files.counts.read_faults new.files.counts.read_faults ⊎ Rose old.input.faults new.input.faults
read_report (reports.ReadFault file) old new cause e = inl cause.files.0
read_report reports.InputFault old new cause e = inr cause.streams.0
read_report report old new cause e = absurd (omega (arith, e))

-- a report of status 5 is of a fault of writing
write_report : (report : Report) (old new : Work) → HasCause report old new → status_of report ≡ 5
    → Rose old.files.counts.write_faults new.files.counts.write_faults
    ⊎ Rose old.out.counts.faults new.out.counts.faults
write_report (reports.WriteFault file) old new cause e = inl cause.files.0
write_report reports.OutputFault old new cause e = inr cause.streams.1
write_report report old new cause e = absurd (omega (arith, e))

-- a report of status 6 is of a missing file
missing_report : (report : Report) (old new : Work) → HasCause report old new → status_of report ≡ 6
    → Rose old.files.counts.missing new.files.counts.missing
missing_report (reports.NoFile file) old new cause e = cause.files.0
missing_report report old new cause e = absurd (omega (arith, e))

-- what a status that is the report's comes from
pub status_causes : (command : Command) (report : Report) (old new : Outside) (result : ℕ)
    → HasCause report old.work new.work → CommandTold command old.work new.work report
    → Ends command report old.err new.err result → HasCauses command old new result
status_causes command report old new result cause told ends =
    elim (ended_status command report old.err new.err result ends) [
      | inl e ↦ record {
        limit = λ h. absurd (omega (arith, e, h));
        read_fault = λ h. absurd (omega (arith, e, h));
        write_fault = λ h. absurd (omega (arith, e, h));
        no_file = λ h. absurd (omega (arith, e, h));
      }
      | inr (inl (e, rose)) ↦ record {
        limit = λ h. absurd (omega (arith, e, h));
        read_fault = λ h. absurd (omega (arith, e, h));
        write_fault = λ h. inr (inr rose);
        no_file = λ h. absurd (omega (arith, e, h));
      }
      | inr (inr e) ↦ record {
        limit = λ h. limit_report report command old.work new.work cause told (sym e ∙ h);
        read_fault = λ h. read_report report old.work new.work cause (sym e ∙ h);
        write_fault = λ h. elim (write_report report old.work new.work cause (sym e ∙ h)) [
          | inl rose ↦ inl rose
          | inr rose ↦ inr (inl rose)
        ];
        no_file = λ h. missing_report report old.work new.work cause (sym e ∙ h);
      }
    ]

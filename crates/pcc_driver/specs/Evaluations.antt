-- What `eval` answers, by cases over its report, and the status that it has.
use Rattle.std.specs.Prelude.{◌≡◌, ◌⊎◌, ℕ, List, ⊤}
use Rattle.pcc_base.specs.Outcome as outcome
use Rattle.c_tree.specs.Program.{Program}
use Rattle.c_eval_state.specs.declared.end.EvalEnd.{EvalEnd}
use Rattle.c_eval_state.specs.declared.end.EvalEnd.TheVariants as evaluation
use Rattle.c_eval.specs.Runs as evaluations
use Rattle.pcc_driver.specs.Outside.{Files, SameStreams, Work}
use Rattle.pcc_driver.specs.declared.report.Report.{Report}
use Rattle.pcc_driver.specs.declared.report.Report.TheVariants as reports
use Rattle.pcc_driver.specs.Reports.{end_status}
use Rattle.pcc_driver.specs.Programs.{HaveNoProgram, HoldProgram, SourcesStatus}

-- the report of an evaluation of so many turns
abbrev pub report_of_evaluation : ℕ → EvalEnd → Report
report_of_evaluation turns (evaluation.Ended status) = reports.Exited status
report_of_evaluation turns (evaluation.Trapped trap) = reports.Trapped trap
report_of_evaluation turns evaluation.TurnsSpent = reports.BudgetSpent turns
report_of_evaluation turns evaluation.ReadFault = reports.InputFault
report_of_evaluation turns evaluation.WriteFault = reports.OutputFault
report_of_evaluation turns evaluation.NoMemory = reports.NoMemory

-- so many turns of the program have this end, and took and wrote what the streams show
abbrev pub EvalGives : ℕ → Work → Work → outcome.End → Program → Type 0
EvalGives turns old new end p =
    evaluations.Gives p turns old.input.left new.input.left old.out.taken new.out.taken end

-- no more was taken of the input than so many turns take, and what was put on the output is the first part of what they
-- write
abbrev pub EvalGivesSoFar : ℕ → Work → Work → Program → Type 0
EvalGivesSoFar turns old new p =
    evaluations.GivesSoFar p turns old.input.left new.input.left old.out.taken new.out.taken

-- what was put on the output is the first part of what so many turns write
abbrev pub EvalWritesSoFar : ℕ → Work → Work → Program → Type 0
EvalWritesSoFar turns old new p = evaluations.WritesSoFar p turns old.input.left old.out.taken new.out.taken

-- what the report of `eval` says of the sources, where files tell
abbrev pub SourcesTold : Files → List (List ℕ) → Report → Type 0
SourcesTold files sources (reports.Exited status) = HoldProgram files sources (λ p. ⊤)
SourcesTold files sources (reports.Trapped trap) = HoldProgram files sources (λ p. ⊤)
SourcesTold files sources (reports.BudgetSpent spent) = HoldProgram files sources (λ p. ⊤)
SourcesTold files sources reports.InputFault = HoldProgram files sources (λ p. ⊤)
SourcesTold files sources reports.OutputFault = HoldProgram files sources (λ p. ⊤)
SourcesTold files sources report = HaveNoProgram files sources report

-- The report of `eval` for so many turns on files and streams that are told; no file has changed. For want of memory a
-- byte may be lost that was taken of the input.
abbrev pub EvalTold : ℕ → List (List ℕ) → Work → Work → Report → Type 0
EvalTold turns sources old new (reports.Exited status) =
    HoldProgram old.files.content sources (EvalGives turns old new (outcome.Ended status))
EvalTold turns sources old new (reports.Trapped trap) =
    HoldProgram old.files.content sources (EvalGives turns old new (outcome.Trapped trap))
EvalTold turns sources old new (reports.BudgetSpent spent) =
    (spent ≡ turns) × HoldProgram old.files.content sources (EvalGives turns old new outcome.Goes)
EvalTold turns sources old new reports.InputFault =
    HoldProgram old.files.content sources (EvalGivesSoFar turns old new)
EvalTold turns sources old new reports.OutputFault =
    HoldProgram old.files.content sources (EvalGivesSoFar turns old new)
EvalTold turns sources old new reports.NoMemory =
    SameStreams old new ⊎ HoldProgram old.files.content sources (EvalWritesSoFar turns old new)
EvalTold turns sources old new report = HaveNoProgram old.files.content sources report × SameStreams old new

-- The status of `eval` for so many turns and what the files hold: where their texts have a typed program, its outcome
-- decides.
abbrev pub EvalStatus : ℕ → List ℕ → Files → List (List ℕ) → ℕ → Type 0
EvalStatus turns input files sources status =
    SourcesStatus files sources (λ p. status ≡ end_status (evaluations.outcome_in p turns input).end) status

-- The status of `eval`, from its report.
use Rattle.std.proofs.Common.{◌≡◌, ℕ, List, refl, sym, ap, inl, inr}
use Rattle.std.specs.Prelude.{◌⊎◌}
use Rattle.pcc_base.specs.Counts.{Rose}
use Rattle.pcc_base.specs.Outcome as outcome
use Rattle.c_tree.specs.Program.{Program}
use Rattle.c_eval.specs.Runs as evaluations
use Rattle.pcc_driver.specs.Causes.{HasCause}
use Rattle.pcc_driver.specs.Outside.{Files, Work}
use Rattle.pcc_driver.specs.Reports.{end_status, status_of}
use Rattle.pcc_driver.specs.declared.report.Report.{Report}
use Rattle.pcc_driver.specs.declared.report.Report.TheVariants as reports
use Rattle.pcc_driver.specs.Programs.{HoldProgram}
use Rattle.pcc_driver.proofs.SourcesStatus.{refused_status, typed_status}
use Rattle.pcc_driver.specs.Evaluations.{EvalGives, EvalStatus, EvalTold}

-- the outcome of the sources' typed program decides
gives_status : (turns : ℕ) (sources : List (List ℕ)) (old new : Work) (end : outcome.End)
    → HoldProgram old.files.content sources (EvalGives turns old new end)
    → EvalStatus turns old.input.left old.files.content sources (end_status end)
gives_status turns sources old new end (texts, are, (p, is, gives)) =
    typed_status old.files.content sources texts
    (λ (q : Program). end_status end ≡ end_status (evaluations.outcome_in q turns old.input.left).end) p
    (end_status end)
    are is (sym (ap end_status gives.0))

-- the report of `eval` has the status of the files and the input, where nothing failed
pub eval_status : (turns : ℕ) (sources : List (List ℕ)) (report : Report) (old new : Work) → HasCause report old new
    → EvalTold turns sources old new report
    → (Rose old.files.counts.read_faults new.files.counts.read_faults → ⊥)
    → (Rose old.input.faults new.input.faults → ⊥) → (Rose old.out.counts.faults new.out.counts.faults → ⊥)
    → (status_of report ≡ 11) ⊎ EvalStatus turns old.input.left old.files.content sources (status_of report)
eval_status turns sources (reports.Exited status) old new cause told read input out =
    inr (gives_status turns sources old new (outcome.Ended status) told)
eval_status turns sources (reports.Trapped trap) old new cause told read input out =
    inr (gives_status turns sources old new (outcome.Trapped trap) told)
eval_status turns sources (reports.BudgetSpent spent) old new cause told read input out =
    inr (gives_status turns sources old new outcome.Goes told.1)
eval_status turns sources reports.InputFault old new cause told read input out = absurd (input cause.streams.0)
eval_status turns sources reports.OutputFault old new cause told read input out = absurd (out cause.streams.1)
eval_status turns sources reports.NoMemory old new cause told read input out = inl refl
eval_status turns sources report old new cause told read input out =
    refused_status old.files.content sources
    (λ (q : Program). status_of report ≡ end_status (evaluations.outcome_in q turns old.input.left).end) report
    old.files.counts new.files.counts cause.files read told.0

-- What the report of an evaluation tells.
use Rattle.std.proofs.Common.{◌≡◌, ℕ, List, refl, inl, inr}
use Rattle.pcc_outside.specs.Files.{StoreCounts}
use Rattle.pcc_outside.specs.Streams.{SinkCounts}
use Rattle.c_tree.specs.Program.{Program}
use Rattle.c_eval_state.specs.declared.end.EvalEnd.{EvalEnd}
use Rattle.c_eval_state.specs.declared.end.EvalEnd.TheVariants as evaluation
use Rattle.c_eval.specs.Runs as evaluations
use Rattle.pcc_driver.specs.Causes.{FilesCause, StreamsCause}
use Rattle.pcc_driver.specs.Outside.{Files, SameStreams, Work}
use Rattle.pcc_driver.specs.declared.report.Report.{Report}
use Rattle.pcc_driver.specs.declared.report.Report.TheVariants as reports
use Rattle.pcc_driver.specs.Programs.{HaveTypedProgram, HaveNoProgram}
use Rattle.pcc_driver.specs.Sources.{HoldAll}
use Rattle.pcc_driver.specs.Evaluations.{EvalTold, SourcesTold, report_of_evaluation}

-- no file is asked for
pub end_files : (turns : ℕ) (end : EvalEnd) (counts : StoreCounts)
    → FilesCause (report_of_evaluation turns end) counts counts
end_files turns (evaluation.Ended status) counts = refl
end_files turns (evaluation.Trapped trap) counts = refl
end_files turns evaluation.TurnsSpent counts = refl
end_files turns evaluation.ReadFault counts = refl
end_files turns evaluation.WriteFault counts = refl
end_files turns evaluation.NoMemory counts = refl

-- the counts of the streams are those of the evaluation
pub end_streams : (turns : ℕ) (end : EvalEnd) (input input' : ℕ) (out out' : SinkCounts)
    → evaluations.EvalCounts input input' out out' end
    → StreamsCause (report_of_evaluation turns end) input input' out out'
end_streams turns (evaluation.Ended status) input input' out out' counted = counted
end_streams turns (evaluation.Trapped trap) input input' out out' counted = counted
end_streams turns evaluation.TurnsSpent input input' out out' counted = counted
end_streams turns evaluation.ReadFault input input' out out' counted = counted
end_streams turns evaluation.WriteFault input input' out out' counted = counted
end_streams turns evaluation.NoMemory input input' out out' counted = counted

-- an evaluation is that of a typed program
pub end_sources : (turns : ℕ) (end : EvalEnd) (files : Files) (sources : List (List ℕ)) (p : Program)
    → HoldAll files sources (λ texts. HaveTypedProgram texts p)
    → SourcesTold files sources (report_of_evaluation turns end)
end_sources turns (evaluation.Ended status) files sources p (texts, are, is) = (texts, are, (p, is, tt))
end_sources turns (evaluation.Trapped trap) files sources p (texts, are, is) = (texts, are, (p, is, tt))
end_sources turns evaluation.TurnsSpent files sources p (texts, are, is) = (texts, are, (p, is, tt))
end_sources turns evaluation.ReadFault files sources p (texts, are, is) = (texts, are, (p, is, tt))
end_sources turns evaluation.WriteFault files sources p (texts, are, is) = (texts, are, (p, is, tt))
end_sources turns evaluation.NoMemory files sources p (texts, are, is) = tt

-- what an evaluation does is told by its report
pub end_told : (turns : ℕ) (end : EvalEnd) (sources : List (List ℕ)) (old new : Work) (p : Program)
    → HoldAll old.files.content sources (λ texts. HaveTypedProgram texts p)
    → evaluations.EvalTold p turns old.input.left new.input.left old.out.taken new.out.taken end
    → EvalTold turns sources old new (report_of_evaluation turns end)
unfolding evaluations.EvalTold
end_told turns (evaluation.Ended status) sources old new p (texts, are, is) told = (texts, are, (p, is, told))
end_told turns (evaluation.Trapped trap) sources old new p (texts, are, is) told = (texts, are, (p, is, told))
end_told turns evaluation.TurnsSpent sources old new p (texts, are, is) told = (refl, (texts, are, (p, is, told)))
end_told turns evaluation.ReadFault sources old new p (texts, are, is) told = (texts, are, (p, is, told))
end_told turns evaluation.WriteFault sources old new p (texts, are, is) told = (texts, are, (p, is, told))
end_told turns evaluation.NoMemory sources old new p (texts, are, is) told = inr (texts, are, (p, is, told))

-- sources without a typed program are told by their report
pub none_sources : (files : Files) (sources : List (List ℕ)) (report : Report) → HaveNoProgram files sources report
    → SourcesTold files sources report
none_sources files sources (reports.Exited status) none = absurd none
none_sources files sources (reports.Trapped trap) none = absurd none
none_sources files sources (reports.BudgetSpent spent) none = absurd none
none_sources files sources reports.InputFault none = absurd none
none_sources files sources reports.OutputFault none = absurd none
none_sources files sources report none = none

pub none_told : (turns : ℕ) (sources : List (List ℕ)) (old new : Work) (report : Report)
    → HaveNoProgram old.files.content sources report → SameStreams old new → EvalTold turns sources old new report
none_told turns sources old new (reports.Exited status) none same = absurd none
none_told turns sources old new (reports.Trapped trap) none same = absurd none
none_told turns sources old new (reports.BudgetSpent spent) none same = absurd none
none_told turns sources old new reports.InputFault none same = absurd none
none_told turns sources old new reports.OutputFault none same = absurd none
none_told turns sources old new reports.NoMemory none same = inl same
none_told turns sources old new report none same = (none, same)

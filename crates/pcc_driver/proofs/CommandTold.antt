-- What is told of `eval` and of `board` is told of the command.
use Rattle.std.proofs.Common.{◌≡◌, ℕ, List, subst}
use Rattle.pcc_driver.specs.Outside.{SameFiles, Work}
use Rattle.pcc_driver.specs.declared.report.Report.{Report}
use Rattle.pcc_driver.specs.Evaluations.{EvalTold, SourcesTold}
use Rattle.pcc_words.specs.Asked.{Board, Eval}
use Rattle.pcc_driver.specs.Answers.{CommandTold, MapTold}

pub eval_told : (turns : ℕ) (names sources : List (List ℕ)) (old new : Work) (report : Report) → names ≡ sources
    → (old.files.tells → SameFiles old.files.content new.files.content)
    → (old.files.tells → SourcesTold old.files.content names report)
    → (old.files.tells → old.input.tells → old.out.tells → EvalTold turns names old new report)
    → CommandTold (Eval turns sources) old new report
eval_told turns names sources old new report e same sourced told =
    subst (λ (ns : List (List ℕ)). CommandTold (Eval turns ns) old new report) e (same, sourced, told)

pub board_told : (names sources : List (List ℕ)) (old new : Work) (report : Report) → names ≡ sources
    → (old.files.tells → SameFiles old.files.content new.files.content) → new.input.left ≡ old.input.left
    → (old.files.tells → MapTold old.files.content names old.out new.out report)
    → CommandTold (Board sources) old new report
board_told names sources old new report e same left told =
    subst (λ (ns : List (List ℕ)). CommandTold (Board ns) old new report) e (same, left, told)

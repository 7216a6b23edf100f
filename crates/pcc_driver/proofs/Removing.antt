-- What is told of an answer that was put on the output.
use Rattle.std.proofs.Common.{◌≡◌, ◌≤◌, ℕ, List, Option, Some, length}
use Rattle.pcc_driver.specs.Answers.{AnswerPut, LeastTold}
use Rattle.pcc_driver.specs.Outside.{Output}
use Rattle.pcc_driver.specs.Removals.{IsRemovalOf}
use Rattle.pcc_driver.specs.Sources.{file_limit}
use Rattle.pcc_driver.specs.declared.report.Report.{Report}
use Rattle.pcc_driver.specs.declared.report.Report.TheVariants as reports

-- the removal on a board's text was put, or what the report says of that
pub removal_told : (content : Option (List ℕ)) (text answer : List ℕ) (old new : Output) (report : Report)
    → content ≡ Some text → length text ≤ file_limit → IsRemovalOf text answer → AnswerPut answer old new report
    → LeastTold content old new report
removal_told content text answer old new reports.Answered held small removal put =
    (text, held, small, (answer, removal, put))
removal_told content text answer old new reports.OutputFault held small removal put =
    (text, held, small, (answer, removal, put))
removal_told content text answer old new reports.NoMemory held small removal put = put
removal_told content text answer old new report held small removal put = absurd put

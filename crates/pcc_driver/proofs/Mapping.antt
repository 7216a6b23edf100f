-- What is told of a map that was put, and of sources without a typed program.
use Rattle.std.proofs.Common.{◌≡◌, ◌∙◌, ℕ, List, ap, subst, refl}
use Rattle.c_tree.specs.Program.{Program}
use Rattle.pcc_driver.specs.Answers.{AnswerPut, MapPut, MapTold, ProgramPut}
use Rattle.pcc_driver.specs.Outside.{Files, Output}
use Rattle.pcc_driver.specs.Programs.{HaveNoProgram, HaveTypedProgram}
use Rattle.pcc_driver.specs.Sources.{AreRead, HoldAll}
use Rattle.pcc_driver.specs.declared.report.Report.{Report}
use Rattle.pcc_driver.specs.declared.report.Report.TheVariants as reports
use Rattle.pcc_program.specs.Products.{AreProducts}

-- an answer that was put is the text of the products' map
map_put : (program : Program) (map_bytes image : List ℕ) (old new : Output) (report : Report)
    → AreProducts program map_bytes image → AnswerPut map_bytes old new report → MapPut old new report program
map_put program map_bytes image old new report (map, text, correct) put =
    (map, image, correct, subst (λ (bytes : List ℕ). AnswerPut bytes old new report) text put)

pub program_put : (program : Program) (map_bytes image : List ℕ) (old new : Output) (report : Report)
    → AreProducts program map_bytes image → AnswerPut map_bytes old new report → ProgramPut old new report program
program_put program map_bytes image old new reports.Answered products put =
    map_put program map_bytes image old new reports.Answered products put
program_put program map_bytes image old new reports.OutputFault products put =
    map_put program map_bytes image old new reports.OutputFault products put
program_put program map_bytes image old new reports.NoMemory products put = put
program_put program map_bytes image old new report products put = absurd put

-- what is told where the sources hold this typed program
pub mapped_told : (files : Files) (sources texts : List (List ℕ)) (program : Program) (old new : Output) (report : Report)
    → AreRead files sources texts → HaveTypedProgram texts program → ProgramPut old new report program
    → MapTold files sources old new report
mapped_told files sources texts program old new reports.Answered read typed put = (texts, read, (program, typed, put))
mapped_told files sources texts program old new reports.OutputFault read typed put = (texts, read, (program, typed, put))
mapped_told files sources texts program old new reports.NoMemory read typed put = put
mapped_told files sources texts program old new report read typed put = absurd put

-- and where they have none
pub unmapped_told : (files : Files) (sources : List (List ℕ)) (out : Output) (report : Report)
    → HaveNoProgram files sources report → MapTold files sources out out report
unmapped_told files sources out reports.NoMemory none = λ tells. refl
unmapped_told files sources out reports.Answered none = absurd none
unmapped_told files sources out reports.OutputFault none = absurd none
unmapped_told files sources out report none = (none, refl)

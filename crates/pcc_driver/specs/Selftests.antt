-- What `selftest` leaves and puts on the output, by cases over its report, and the status that it has.
use Rattle.std.specs.Prelude.{◌≡◌, ◌≢◌, ◌<◌, ◌≤◌, ◌⊎◌, ⊤, ℕ, List, [], ◌∷◌, ◌++◌, codes, decimal, take, Some}
use Rattle.std.specs.Io.BufRead.{strip_last}
use Rattle.pcc_base.specs.Ascii.{newline}
use Rattle.pcc_base.specs.Outcome as outcome
use Rattle.pcc_base.specs.Outcome.{Outcome, End}
use Rattle.c_tree.specs.Program.{Program}
use Rattle.c_eval.specs.Runs.{outcome_in}
use Rattle.ia32_insn.specs.State.{State}
use Rattle.ia32_insn.specs.Runs.{Runs, no_visits}
use Rattle.ia32_machine.specs.First.{First}
use Rattle.ia32_machine.specs.declared.ends.MachineEnd.{MachineEnd}
use Rattle.ia32_machine.specs.declared.ends.MachineEnd.TheVariants as machine
use Rattle.elf_image.specs.Segments.{Segments, Loads}
use Rattle.map_text.specs.Words.{map_text}
use Rattle.map_text.specs.Maps as maps
use Rattle.pcc_program.specs.Products.{IsImageOf}
use Rattle.pcc_words.specs.Asked.{map_name}
use Rattle.pcc_driver.specs.Headline.{Stands}
use Rattle.pcc_driver.specs.Outside.{Files, IsPut, OnlyFile, Output, SameFiles, Store}
use Rattle.pcc_driver.specs.Programs.{Exceed, Excess, HaveTypedProgram, TextsRefused}
use Rattle.pcc_driver.specs.Reports.{end_status}
use Rattle.pcc_driver.specs.declared.report.Named.TheVariants.{Map, Image}
use Rattle.pcc_driver.specs.declared.report.Report.{Report}
use Rattle.pcc_driver.specs.declared.report.Report.TheVariants as reports

-- the turns of the evaluation, and the steps of the image
abbrev pub turn_limit : ℕ
turn_limit = 1000000

abbrev pub step_limit : ℕ
step_limit = 1000000000

-- ---- the two lines

-- `eval TEXT exit S`: what was written, without a newline at its end, and the status
abbrev pub eval_line : List ℕ → ℕ → List ℕ
eval_line written status =
    codes "eval " ++ strip_last newline written ++ codes " exit " ++ decimal status ++ newline ∷ []

-- `run TEXT exit S steps K`
abbrev pub run_line : List ℕ → ℕ → ℕ → List ℕ
run_line written status steps =
    codes "run " ++ strip_last newline written ++ codes " exit " ++ decimal status ++ codes " steps "
    ++ decimal steps ++ newline ∷ []

-- so many turns of the program end over no input, and the line is theirs
abbrev pub IsLineOf : ℕ → Program → List ℕ → Type 0
IsLineOf turns p line =
    (status : ℕ) × ((outcome_in p turns []).end ≡ outcome.Ended status)
    × (line ≡ eval_line (outcome_in p turns []).written status)

-- the first line: that of the typed program of some texts
abbrev pub IsEvalLine : ℕ → List (List ℕ) → List ℕ → Type 0
IsEvalLine turns texts line = (p : Program) × HaveTypedProgram texts p × IsLineOf turns p line

-- so many steps of the image with these bytes have this outcome over no input
abbrev pub RunsTo : List ℕ → ℕ → Outcome → Type 0
RunsTo image steps o = (s : State) × First image [] s × Runs no_visits steps s o

-- The second line: that of the outcome of an image after the least number of steps with an end, which aren't more than
-- `most`.
pub record IsRunLine (most : ℕ) (image line : List ℕ) : Type 0 where
  pub steps : ℕ
  pub few : steps ≤ most
  pub ran : Outcome
  pub runs : RunsTo image steps ran
  pub status : ℕ
  pub ended : ran.end ≡ outcome.Ended status
  -- with fewer steps the image goes on
  pub least : (fewer : ℕ) → fewer < steps → (other : Outcome) → RunsTo image fewer other → other.end ≡ outcome.Goes
  pub line_is : line ≡ run_line ran.written status steps

-- Of steps from a state, this many were made, not more than `most`, and the last of them is the first with an end, this
-- one; the bytes that they write were put.
pub record EndsAfter (most : ℕ) (s : State) (IsWritten : List ℕ → Type 0) (end : End) (steps : ℕ) : Type 0 where
  pub few : steps ≤ most
  pub ran : Outcome
  pub runs : Runs no_visits steps s ran
  pub ended : ran.end ≡ end
  pub wrote : IsWritten ran.written
  pub least : (fewer : ℕ) → fewer < steps → (other : Outcome) → Runs no_visits fewer s other → other.end ≡ outcome.Goes

-- what `most` steps from a state lead to where they are counted, by how the machine ended
abbrev pub CountedTold : ℕ → State → (List ℕ → Type 0) → MachineEnd → ℕ → Type 0
CountedTold most s IsWritten (machine.Ended status) steps = EndsAfter most s IsWritten (outcome.Ended status) steps
CountedTold most s IsWritten (machine.Trapped trap) steps = EndsAfter most s IsWritten (outcome.Trapped trap) steps
CountedTold most s IsWritten (machine.Stopped cause address) steps =
    EndsAfter most s IsWritten (outcome.Stopped cause address) steps
CountedTold most s IsWritten machine.BudgetSpent steps =
    (o : Outcome) × Runs no_visits most s o × (o.end ≡ outcome.Goes)
CountedTold most s IsWritten _ steps = ⊤

-- why so many turns of a program give no line
abbrev pub GivesNoLine : ℕ → Program → Report → Type 0
GivesNoLine turns p (reports.Trapped trap) = (outcome_in p turns []).end ≡ outcome.Trapped trap
GivesNoLine turns p (reports.BudgetSpent spent) = (spent ≡ turns) × ((outcome_in p turns []).end ≡ outcome.Goes)
GivesNoLine turns p reports.NoMemory = ⊤
GivesNoLine turns p _ = ⊥

-- so many steps of an image don't end it
abbrev pub GoesOn : ℕ → List ℕ → Type 0
GoesOn steps image = (o : Outcome) × RunsTo image steps o × (o.end ≡ outcome.Goes)

-- the image has this end after some steps
abbrev pub EndsSo : List ℕ → End → Type 0
EndsSo image end = (steps : ℕ) × (o : Outcome) × RunsTo image steps o × (o.end ≡ end)

-- why so many steps of an image give no line
abbrev pub GivesNoRun : ℕ → List ℕ → Report → Type 0
GivesNoRun most image reports.NotImage = (segments : Segments) → Loads image segments → ⊥
GivesNoRun most image (reports.Trapped trap) = EndsSo image (outcome.Trapped trap)
GivesNoRun most image (reports.Stopped cause address) = EndsSo image (outcome.Stopped cause address)
GivesNoRun most image (reports.BudgetSpent spent) = (spent ≡ most) × GoesOn most image
GivesNoRun most image reports.NoMemory = ⊤
GivesNoRun most image _ = ⊥

-- ---- what is left in the files

-- all that stands of the program of the texts, and NAME holds these bytes
abbrev pub StandsAs : Files → Files → List ℕ → List (List ℕ) → List ℕ → Type 0
StandsAs old new name texts image = (stands : Stands old new name texts) × (stands.image ≡ image)

-- NAME.map holds the text of the map of an image that does what the texts' program does; NAME, and no other file, may
-- have changed
abbrev pub MapIsWritten : Files → Files → List ℕ → List (List ℕ) → Type 0
MapIsWritten old new name texts =
    ((p : Program) × (map : maps.Map) × (image : List ℕ) × HaveTypedProgram texts p × IsImageOf p map image
    × (new (map_name name) ≡ Some (map_text map)))
    × ((other : List ℕ) → other ≢ name → other ≢ map_name name → new other ≡ old other)

-- no file has changed, or NAME.map alone is written, or both are
abbrev pub IsPartlyWritten : Files → Files → List ℕ → List (List ℕ) → Type 0
IsPartlyWritten old new name texts =
    SameFiles old new
    ⊎ ((MapIsWritten old new name texts × (new name ≡ old name)) ⊎ Stands old new name texts)

-- ---- the report

-- where the output tells what it took, nothing was put on it
abbrev pub PutsNone : Output → Output → Type 0
PutsNone old new = old.tells → new.taken ≡ old.taken

-- where the output tells what it took, the first part of some bytes was put on it, behind others
abbrev pub PutsPart : Output → Output → List ℕ → List ℕ → Type 0
PutsPart old new first second = old.tells → (n : ℕ) × (new.taken ≡ old.taken ++ (first ++ take n second))

-- where the files tell, none has changed
abbrev pub KeepsFiles : Store → Store → Type 0
KeepsFiles old new = old.tells → SameFiles old.content new.content

-- The report of what comes up to the first line: typing the texts, evaluating their program in so many turns, and putting
-- the line. No file has changed.
abbrev pub LineTold : ℕ → List (List ℕ) → Output → Output → Report → Type 0
LineTold turns texts old new (reports.Trapped trap) =
    ((p : Program) × HaveTypedProgram texts p × GivesNoLine turns p (reports.Trapped trap)) × PutsNone old new
LineTold turns texts old new (reports.BudgetSpent spent) =
    ((p : Program) × HaveTypedProgram texts p × GivesNoLine turns p (reports.BudgetSpent spent)) × PutsNone old new
LineTold turns texts old new reports.OutputFault =
    (line : List ℕ) × IsEvalLine turns texts line × PutsPart old new [] line
LineTold turns texts old new reports.NoMemory = PutsNone old new
LineTold turns texts old new report = TextsRefused texts report × PutsNone old new

-- the report of the run of an image for so many steps, and of putting its line
abbrev pub RunPut : ℕ → List ℕ → Output → Output → Report → Type 0
RunPut steps image old new reports.Answered =
    (line : List ℕ) × IsRunLine steps image line × IsPut old new line
RunPut steps image old new reports.OutputFault =
    (line : List ℕ) × IsRunLine steps image line × PutsPart old new [] line
RunPut steps image old new report = GivesNoRun steps image report × PutsNone old new

-- so many turns of the program end over no input
abbrev pub HasEnd : Program → Type 0
HasEnd p = (turns status : ℕ) × ((outcome_in p turns []).end ≡ outcome.Ended status)

-- The report of what comes behind a first line: writing NAME.map and NAME, running the image of NAME for so many steps,
-- and putting the second line.
abbrev pub ImageTested : ℕ → List ℕ → List (List ℕ) → List ℕ → Store → Store → Output → Output → Report → Type 0
ImageTested steps name texts first old new out out' reports.Answered =
    (second image : List ℕ) × IsRunLine steps image second × IsPut out out' (first ++ second)
    × (old.tells → StandsAs old.content new.content name texts image)
ImageTested steps name texts first old new out out' (reports.BudgetSpent spent) =
    (spent ≡ steps) × (image : List ℕ) × GoesOn steps image × IsPut out out' first
    × (old.tells → StandsAs old.content new.content name texts image)
ImageTested steps name texts first old new out out' reports.OutputFault =
    (second image : List ℕ) × IsRunLine steps image second × PutsPart out out' first second
    × (old.tells → StandsAs old.content new.content name texts image)
ImageTested steps name texts first old new out out' (reports.WriteFault Map) =
    IsPut out out' first × (old.tells → OnlyFile (map_name name) old.content new.content)
ImageTested steps name texts first old new out out' (reports.WriteFault Image) =
    IsPut out out' first × (old.tells → MapIsWritten old.content new.content name texts)
ImageTested steps name texts first old new out out' reports.NoMemory =
    IsPut out out' first × (old.tells → IsPartlyWritten old.content new.content name texts)
ImageTested steps name texts first old new out out' _ = ⊥

-- The report of `selftest` on the texts of a generated program, for so many turns and steps: it ends before the first
-- line is put, or behind it.
abbrev pub SelftestTold : ℕ → ℕ → List ℕ → List (List ℕ) → Store → Store → Output → Output → Report → Type 0
SelftestTold turns steps name texts old new out out' report =
    (LineTold turns texts out out' report × KeepsFiles old new)
    ⊎ ((first : List ℕ) × IsEvalLine turns texts first × ImageTested steps name texts first old new out out' report)

-- ---- the status

-- the status of the run of an image, after which it goes on or not
abbrev pub run_status : End → ℕ
run_status outcome.Goes = 10
run_status _ = 0

-- NAME holds an image, and so many of its steps decide
abbrev pub ImageStatus : ℕ → List ℕ → Files → ℕ → Type 0
ImageStatus steps name files status =
    (image : List ℕ) × (o : Outcome) × (files name ≡ Some image) × RunsTo image steps o
    × (status ≡ run_status o.end)

-- the status by the end of the turns: where they end, the image decides
abbrev pub TurnsStatus : ℕ → List ℕ → Files → End → ℕ → Type 0
TurnsStatus steps name files (outcome.Ended ended) status = ImageStatus steps name files status
TurnsStatus steps name files end status = status ≡ end_status end

-- The status of `selftest` for the texts of a generated program, and what the files hold then: where the texts have a
-- typed program within the limits, its turns decide, and then the steps of the image under NAME.
pub record SelftestStatus (turns steps : ℕ) (name : List ℕ) (texts : List (List ℕ)) (files : Files) (status : ℕ) : Type 0
  where
    pub program : (p : Program) → HaveTypedProgram texts p
        → TurnsStatus steps name files (outcome_in p turns []).end status
    pub limits : (excess : Excess) → Exceed texts excess → status ≡ 3
    pub refused : ((p : Program) → HaveTypedProgram texts p → ⊥) → ((excess : Excess) → Exceed texts excess → ⊥)
        → status ≡ 1

-- What a command leaves behind and why, by cases over its report: impossible reports are refused.
use Rattle.std.specs.Prelude.{◌≡◌, ◌≢◌, ◌<◌, ◌⊎◌, ℕ, suc, ◌+◌, List, [], ◌∷◌, ◌++◌, length, take, drop, Option, Some, None, ⊤}
use Rattle.pcc_base.specs.Outcome as outcome
use Rattle.pcc_base.specs.Outcome.{Outcome}
use Rattle.pcc_outside.specs.declared.sink.WriteRefusal.{WriteRefusal}
use Rattle.pcc_outside.specs.declared.sink.WriteRefusal.TheVariants as put
use Rattle.ia32_insn.specs.State.{State}
use Rattle.ia32_insn.specs.Runs.{Runs, no_visits}
use Rattle.elf_image.specs.Segments.{Segments, Loads}
use Rattle.ia32_machine.specs.First.{First}
use Rattle.ia32_machine.specs.Runs.{Reaches, WritesNext}
use Rattle.ia32_machine.specs.declared.ends.MachineEnd.{MachineEnd}
use Rattle.ia32_machine.specs.declared.ends.MachineEnd.TheVariants as machine
use Rattle.map_text.specs.Words.{map_text}
use Rattle.map_text.specs.Maps as maps
use Rattle.c_tree.specs.Program.{Program}
use Rattle.pcc_gen.specs.Generated.{generated}
use Rattle.pcc_program.specs.Products.{IsImageOf}
use Rattle.puzzle_solver.specs.Reading.{IsNoBoard}
use Rattle.pcc_words.specs.Asked.{Command, Compile, Run, Eval, Solve, Gen, Selftest, Least, ManyFiles, Usage, map_name}
use Rattle.pcc_words.specs.Asked.{Board as BoardOf}
use Rattle.pcc_driver.specs.Programs.{HaveTypedProgram, HaveNoProgram, HoldProgram}
use Rattle.pcc_driver.specs.Sources.{AreRead, Holds, IsTooLong}
use Rattle.pcc_driver.specs.Ends.{IsUnlessMemory}
use Rattle.pcc_driver.specs.Outside.{Files, Output, SameFiles, SameStreams, Work}
pub use Rattle.pcc_driver.specs.Outside.{IsPut, OnlyFile}
use Rattle.pcc_driver.specs.declared.report.Named.{Named}
use Rattle.pcc_driver.specs.declared.report.Named.TheVariants.{Map, Image, Board}
use Rattle.pcc_driver.specs.declared.report.Report.{Report}
use Rattle.pcc_driver.specs.declared.report.Report.TheVariants as reports
use Rattle.pcc_driver.specs.Evaluations.{EvalTold, SourcesTold}
use Rattle.pcc_driver.specs.Headline.{IsCompiled}
use Rattle.pcc_driver.specs.Removals.{IsLargeBoard, IsRemovalOf}
use Rattle.pcc_driver.specs.Selftests.{SelftestTold, step_limit, turn_limit}
use Rattle.pcc_driver.specs.Solutions.{IsSolution}

-- ---- compile

-- NAME.map holds the text of the map of an image that does what the sources' program does; NAME, and no other file, may
-- have changed
abbrev pub MapStands : List ℕ → List (List ℕ) → Files → Files → Type 0
MapStands name sources old new =
    ((texts : List (List ℕ)) × (program : Program) × (map : maps.Map) × (image : List ℕ) × AreRead old sources texts
    × HaveTypedProgram texts program × IsImageOf program map image × (new (map_name name) ≡ Some (map_text map)))
    × ((other : List ℕ) → other ≢ name → other ≢ map_name name → new other ≡ old other)

-- the report of `compile` on files that are told
abbrev pub CompileTold : List ℕ → List (List ℕ) → Files → Files → Report → Type 0
CompileTold name sources old new reports.Compiled = IsCompiled old new name sources
CompileTold name sources old new (reports.WriteFault Map) = OnlyFile (map_name name) old new
CompileTold name sources old new (reports.WriteFault Image) = MapStands name sources old new
CompileTold name sources old new reports.NoMemory = SameFiles old new
    ⊎ (MapStands name sources old new × (new name ≡ old name))
CompileTold name sources old new report = HaveNoProgram old sources report × SameFiles old new

-- ---- the steps of a command

-- the report of a refused write
abbrev pub report_of_write : WriteRefusal → Named → Report
report_of_write put.Failed file = reports.WriteFault file
report_of_write put.NoMemory file = reports.NoMemory

-- the report of a run of the machine for so many steps
abbrev pub report_of_end : ℕ → MachineEnd → Report
report_of_end steps (machine.Ended status) = reports.Exited status
report_of_end steps (machine.Trapped trap) = reports.Trapped trap
report_of_end steps (machine.Stopped cause address) = reports.Stopped cause address
report_of_end steps machine.BudgetSpent = reports.BudgetSpent steps
report_of_end steps machine.ReadFault = reports.InputFault
report_of_end steps machine.WriteFault = reports.OutputFault
report_of_end steps machine.NoMemory = reports.NoMemory

-- why bytes give no machine
abbrev pub GivesNoMachine : List ℕ → Report → Type 0
GivesNoMachine image reports.NotImage = (segments : Segments) → Loads image segments → ⊥
GivesNoMachine image reports.NoMemory = ⊤
GivesNoMachine image _ = ⊥

-- the reports of writing two files
abbrev pub IsOfWrites : Report → Type 0
IsOfWrites reports.Compiled = ⊤
IsOfWrites (reports.WriteFault Map) = ⊤
IsOfWrites (reports.WriteFault Image) = ⊤
IsOfWrites reports.NoMemory = ⊤
IsOfWrites _ = ⊥

-- two files are written, the map's and then the image's; no other file has changed
abbrev pub WritesTold : List ℕ → List ℕ → List ℕ → List ℕ → Files → Files → Report → Type 0
WritesTold map_name name map_bytes image old new reports.Compiled =
    (new map_name ≡ Some map_bytes) × (new name ≡ Some image)
    × ((other : List ℕ) → other ≢ name → other ≢ map_name → new other ≡ old other)
WritesTold map_name name map_bytes image old new (reports.WriteFault Map) = OnlyFile map_name old new
WritesTold map_name name map_bytes image old new (reports.WriteFault Image) =
    (new map_name ≡ Some map_bytes) × ((other : List ℕ) → other ≢ name → other ≢ map_name → new other ≡ old other)
WritesTold map_name name map_bytes image old new reports.NoMemory =
    SameFiles old new
    ⊎ ((new map_name ≡ Some map_bytes) × ((other : List ℕ) → other ≢ name → other ≢ map_name → new other ≡ old other)
    × (new name ≡ old name))
WritesTold map_name name map_bytes image old new _ = ⊥

-- ---- run

-- so many steps of the image with these bytes have this end
abbrev pub RunGives : ℕ → Work → Work → outcome.End → List ℕ → Type 0
RunGives steps old new end image =
    (s : State) × First image old.input.left s × (o : Outcome) × Runs no_visits steps s o × (o.end ≡ end)
    × (new.input.left ≡ drop o.taken old.input.left) × IsPut old.out new.out o.written

-- Fewer steps than that lead to a state of which this holds, and the streams are as those steps leave them.
abbrev pub RunGivesSoFar : ℕ → (State → Type 0) → Work → Work → List ℕ → Type 0
RunGivesSoFar steps IsLeft old new image =
    (s : State) × First image old.input.left s × (n : ℕ) × (n < steps) × (o : Outcome) × Runs no_visits n s o
    × (o.end ≡ outcome.Goes) × (new.input.left ≡ drop o.taken old.input.left) × IsPut old.out new.out o.written
    × (t : State) × Reaches n s t × IsLeft t

-- The input is as fewer steps leave it, the next step writes, and what was put on the output is what they write, and a
-- prefix of what that step does.
abbrev pub RunGivesPart : ℕ → Work → Work → List ℕ → Type 0
RunGivesPart steps old new image =
    (s : State) × First image old.input.left s × (n : ℕ) × (n < steps) × (o next : Outcome)
    × Runs no_visits n s o × Runs no_visits (suc n) s next × (new.input.left ≡ drop o.taken old.input.left)
    × (k : ℕ) × IsPut old.out new.out (take (length o.written + k) next.written)
    × (t : State) × Reaches n s t × WritesNext t

-- the image has no first state
abbrev pub IsNoImage : List ℕ → List ℕ → Type 0
IsNoImage input image = (s : State) → First image input s → ⊥

-- neither `run` nor `solve` has a limit on tokens, static objects, frames, sources or boards
abbrev pub HasNoTokens : Report → Type 0
HasNoTokens (reports.TooManyTokens tokens) = ⊥
HasNoTokens (reports.LargeArrays bytes) = ⊥
HasNoTokens (reports.LargeFrame name bytes) = ⊥
HasNoTokens (reports.TooManyFiles count) = ⊥
HasNoTokens (reports.LargeBoard areas pieces) = ⊥
HasNoTokens _ = ⊤

-- what the report of `run` says of the image's file, where files tell
abbrev pub ImageTold : Option (List ℕ) → Report → Type 0
ImageTold content (reports.NoFile Image) = content ≡ None
ImageTold content (reports.TooLong Image) = IsTooLong content
ImageTold content reports.NotImage = Holds content (λ image. (segments : Segments) → Loads image segments → ⊥)
ImageTold content _ = ⊤

-- The report of `run` for so many steps on files and an input that are told; no file has changed. What was put on the
-- output is known where that tells too. Where it finds no memory, the next step writes.
abbrev pub RunTold : ℕ → Option (List ℕ) → Work → Work → Report → Type 0
RunTold steps content old new (reports.Exited status) = Holds content (RunGives steps old new (outcome.Ended status))
RunTold steps content old new (reports.Trapped trap) = Holds content (RunGives steps old new (outcome.Trapped trap))
RunTold steps content old new (reports.Stopped cause address) =
    Holds content (RunGives steps old new (outcome.Stopped cause address))
RunTold steps content old new (reports.BudgetSpent spent) = (spent ≡ steps)
    × Holds content (RunGives steps old new outcome.Goes)
RunTold steps content old new reports.NotImage = Holds content (IsNoImage old.input.left) × SameStreams old new
RunTold steps content old new (reports.TooLong Image) = IsTooLong content × SameStreams old new
RunTold steps content old new (reports.ReadFault Image) = SameStreams old new
RunTold steps content old new (reports.NoFile Image) = (content ≡ None) × SameStreams old new
RunTold steps content old new reports.InputFault = Holds content (RunGivesSoFar steps (λ t. ⊤) old new)
RunTold steps content old new reports.OutputFault = Holds content (RunGivesPart steps old new)
RunTold steps content old new reports.NoMemory = SameStreams old new
    ⊎ Holds content (RunGivesSoFar steps WritesNext old new)
RunTold steps content old new _ = ⊥

-- ---- answers on the output

-- the answer was put on the output, or where that failed a prefix of it, or where it found no memory nothing
abbrev pub AnswerPut : List ℕ → Output → Output → Report → Type 0
AnswerPut answer old new reports.Answered = old.tells → new.taken ≡ old.taken ++ answer
AnswerPut answer old new reports.OutputFault = old.tells → (n : ℕ) × (new.taken ≡ old.taken ++ take n answer)
AnswerPut answer old new reports.NoMemory = old.tells → new.taken ≡ old.taken
AnswerPut answer old new _ = ⊥

-- ---- solve

-- why a text has no answer
abbrev pub GivesNoAnswer : List ℕ → Report → Type 0
GivesNoAnswer text reports.BadBoard = IsNoBoard text
GivesNoAnswer text reports.NoMemory = ⊤
GivesNoAnswer text _ = ⊥

-- some answer on this text was put, by what answers it, or what the report says of that
abbrev pub AnswerOnPut : (List ℕ → List ℕ → Type 0) → Output → Output → Report → List ℕ → Type 0
AnswerOnPut Answers old new report text =
    (answer : List ℕ) × Answers text answer × AnswerPut answer old new report

-- the report of a command on a board, by what answers a text and which numbers of areas and pieces are too large, on
-- what the board's file holds; and what was put on the output where that tells
abbrev pub BoardTold : (List ℕ → List ℕ → Type 0) → (ℕ → ℕ → List ℕ → Type 0) → Option (List ℕ) → Output → Output
    → Report → Type 0
BoardTold Answers IsLarge content old new reports.Answered =
    Holds content (AnswerOnPut Answers old new reports.Answered)
BoardTold Answers IsLarge content old new reports.OutputFault =
    Holds content (AnswerOnPut Answers old new reports.OutputFault)
BoardTold Answers IsLarge content old new reports.BadBoard = Holds content IsNoBoard × (new.taken ≡ old.taken)
BoardTold Answers IsLarge content old new (reports.LargeBoard areas pieces) =
    Holds content (IsLarge areas pieces) × (new.taken ≡ old.taken)
BoardTold Answers IsLarge content old new (reports.TooLong Board) = IsTooLong content × (new.taken ≡ old.taken)
BoardTold Answers IsLarge content old new (reports.ReadFault Board) = new.taken ≡ old.taken
BoardTold Answers IsLarge content old new (reports.NoFile Board) = (content ≡ None) × (new.taken ≡ old.taken)
BoardTold Answers IsLarge content old new reports.NoMemory = old.tells → new.taken ≡ old.taken
BoardTold Answers IsLarge content old new _ = ⊥

-- the report of `solve`, for which no board is too large
abbrev pub SolveTold : Option (List ℕ) → Output → Output → Report → Type 0
SolveTold content old new report = BoardTold IsSolution (λ areas pieces text. ⊥) content old new report

-- ---- least

-- why a text has no answer
abbrev pub GivesNoRemoval : List ℕ → Report → Type 0
GivesNoRemoval text (reports.LargeBoard areas pieces) = IsLargeBoard areas pieces text
GivesNoRemoval text report = GivesNoAnswer text report

-- the report of `least`
abbrev pub LeastTold : Option (List ℕ) → Output → Output → Report → Type 0
LeastTold content old new report = BoardTold IsRemovalOf IsLargeBoard content old new report

-- ---- board

-- the text of a map of an image that does what the program does was put, or what the report says of that
abbrev pub MapPut : Output → Output → Report → Program → Type 0
MapPut old new report program =
    (map : maps.Map) × (image : List ℕ) × IsImageOf program map image × AnswerPut (map_text map) old new report

-- what the report says of the program's map: it was put, or where that failed a prefix of it, or nothing
abbrev pub ProgramPut : Output → Output → Report → Program → Type 0
ProgramPut old new reports.Answered program = MapPut old new reports.Answered program
ProgramPut old new reports.OutputFault program = MapPut old new reports.OutputFault program
ProgramPut old new reports.NoMemory program = old.tells → new.taken ≡ old.taken
ProgramPut old new _ program = ⊥

-- the report of `board` on files that are told; and what was put on the output where that tells
abbrev pub MapTold : Files → List (List ℕ) → Output → Output → Report → Type 0
MapTold files sources old new reports.Answered = HoldProgram files sources (MapPut old new reports.Answered)
MapTold files sources old new reports.OutputFault = HoldProgram files sources (MapPut old new reports.OutputFault)
MapTold files sources old new reports.NoMemory = old.tells → new.taken ≡ old.taken
MapTold files sources old new report = HaveNoProgram files sources report × (new.taken ≡ old.taken)

-- ---- every command

-- words that ask for nothing have this report, and nothing is done
abbrev pub NothingDone : Report → Work → Work → Report → Type 0
NothingDone own old new report =
    IsUnlessMemory own report × (old.files.tells → SameFiles old.files.content new.files.content) × SameStreams old new

-- the report of a command on what is told
abbrev pub CommandTold : Command → Work → Work → Report → Type 0
CommandTold (Compile name sources) old new report =
    (old.files.tells → CompileTold name sources old.files.content new.files.content report) × SameStreams old new
CommandTold (Run steps image) old new report =
    HasNoTokens report × (old.files.tells → SameFiles old.files.content new.files.content)
    × (old.files.tells → ImageTold (old.files.content image) report)
    × (old.files.tells → old.input.tells → RunTold steps (old.files.content image) old new report)
CommandTold (Eval turns sources) old new report =
    (old.files.tells → SameFiles old.files.content new.files.content)
    × (old.files.tells → SourcesTold old.files.content sources report)
    × (old.files.tells → old.input.tells → old.out.tells → EvalTold turns sources old new report)
CommandTold (Solve file) old new report =
    HasNoTokens report × (old.files.tells → SameFiles old.files.content new.files.content)
    × (new.input.left ≡ old.input.left)
    × (old.files.tells → SolveTold (old.files.content file) old.out new.out report)
CommandTold (Gen number) old new report =
    (old.files.tells → SameFiles old.files.content new.files.content) × (new.input.left ≡ old.input.left)
    × AnswerPut (generated number) old.out new.out report
CommandTold (Selftest name number) old new report =
    (new.input.left ≡ old.input.left)
    × SelftestTold turn_limit step_limit name (generated number ∷ []) old.files new.files old.out new.out report
CommandTold (Least file) old new report =
    (old.files.tells → SameFiles old.files.content new.files.content) × (new.input.left ≡ old.input.left)
    × (old.files.tells → LeastTold (old.files.content file) old.out new.out report)
CommandTold (BoardOf sources) old new report =
    (old.files.tells → SameFiles old.files.content new.files.content) × (new.input.left ≡ old.input.left)
    × (old.files.tells → MapTold old.files.content sources old.out new.out report)
CommandTold (ManyFiles count) old new report = NothingDone (reports.TooManyFiles count) old new report
CommandTold Usage old new report = NothingDone reports.Usage old new report

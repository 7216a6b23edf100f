-- The promises of the top call on its statuses.
use Rattle.std.specs.Prelude.{◌≡◌, ◌<◌, ◌≤◌, ◌⊎◌, ⊤, ℕ, List, [], ◌∷◌, length, Option, Some, None}
use Rattle.pcc_base.specs.Counts.{Rose}
use Rattle.pcc_base.specs.Outcome.{Outcome}
use Rattle.ia32_insn.specs.State.{State}
use Rattle.ia32_insn.specs.Runs.{Runs, no_visits}
use Rattle.ia32_machine.specs.First.{First}
use Rattle.pcc_driver.specs.Evaluations.{EvalStatus}
use Rattle.pcc_driver.specs.Answers.{IsNoImage}
use Rattle.puzzle_solver.specs.Reading.{IsNoBoard}
use Rattle.pcc_gen.specs.Generated.{generated}
use Rattle.pcc_words.specs.Asked.{Command, Compile, Run, Eval, Solve, Gen, Selftest, Least, Board, ManyFiles, Usage}
use Rattle.pcc_driver.specs.Outside.{Files, Outside, Store, Work}
use Rattle.pcc_driver.specs.Reports.{end_status}
use Rattle.pcc_driver.specs.Programs.{SourcesStatus, Excess, Exceed}
use Rattle.pcc_driver.specs.Sources.{HoldAll, Holds, file_limit}
use Rattle.pcc_driver.specs.Removals.{IsLargeBoard}
use Rattle.pcc_driver.specs.Selftests.{SelftestStatus, step_limit, turn_limit}
use Rattle.pcc_driver.specs.Solutions.{IsSomeBoard}

-- no count of faults rose
pub record IsQuiet (old new : Outside) : Type 0 where
  pub reads : Rose old.work.files.counts.read_faults new.work.files.counts.read_faults → ⊥
  pub writes : Rose old.work.files.counts.write_faults new.work.files.counts.write_faults → ⊥
  pub input : Rose old.work.input.faults new.work.input.faults → ⊥
  pub output : Rose old.work.out.counts.faults new.work.out.counts.faults → ⊥
  pub errors : Rose old.err.counts.faults new.err.counts.faults → ⊥

-- the status of `compile` and of `board` for what the files hold: every typed program within the limits is compiled
abbrev pub CompileStatus : Files → List (List ℕ) → ℕ → Type 0
CompileStatus files sources status = SourcesStatus files sources (λ p. status ≡ 0) status

-- the status of `run` for so many steps and what the image's file holds
abbrev pub RunStatus : ℕ → List ℕ → Option (List ℕ) → ℕ → Type 0
RunStatus steps input None status = status ≡ 6
RunStatus steps input (Some image) status =
    (file_limit < length image → status ≡ 3)
    × (length image ≤ file_limit → IsNoImage input image → status ≡ 7)
    × (length image ≤ file_limit → (s : State) (o : Outcome) → First image input s → Runs no_visits steps s o
    → status ≡ end_status o.end)

-- the status of `solve` for what the board's file holds
abbrev pub SolveStatus : Option (List ℕ) → ℕ → Type 0
SolveStatus None status = status ≡ 6
SolveStatus (Some text) status =
    (file_limit < length text → status ≡ 3)
    × (length text ≤ file_limit → IsSomeBoard text → status ≡ 0)
    × (length text ≤ file_limit → IsNoBoard text → status ≡ 1)

-- the status of `least` for what the board's file holds
abbrev pub LeastStatus : Option (List ℕ) → ℕ → Type 0
LeastStatus None status = status ≡ 6
LeastStatus (Some text) status =
    (file_limit < length text → status ≡ 3)
    × (length text ≤ file_limit → (n m : ℕ) → IsLargeBoard n m text → status ≡ 3)
    × (length text ≤ file_limit → IsSomeBoard text → ((n m : ℕ) → IsLargeBoard n m text → ⊥) → status ≡ 0)
    × (length text ≤ file_limit → IsNoBoard text → status ≡ 1)

-- the one status of a command on this where nothing fails, which leaves this: that of `selftest` hangs on the image that
-- was written
abbrev pub HasStatus : Command → Work → Work → ℕ → Type 0
HasStatus (Compile name sources) old new status = CompileStatus old.files.content sources status
HasStatus (Run steps image) old new status = RunStatus steps old.input.left (old.files.content image) status
HasStatus (Eval turns sources) old new status = EvalStatus turns old.input.left old.files.content sources status
HasStatus (Solve file) old new status = SolveStatus (old.files.content file) status
HasStatus (Gen number) old new status = status ≡ 0
HasStatus (Selftest name number) old new status =
    SelftestStatus turn_limit step_limit name (generated number ∷ []) new.files.content status
HasStatus (Least file) old new status = LeastStatus (old.files.content file) status
HasStatus (Board sources) old new status = CompileStatus old.files.content sources status
HasStatus (ManyFiles count) old new status = status ≡ 3
HasStatus Usage old new status = status ≡ 2

-- What the status of a command hangs on tells: its files, and the streams that decide how it ends. A generated program
-- that is put, and words that ask for nothing, have their status whatever is told.
abbrev pub TellsEnough : Command → Work → Type 0
TellsEnough (Compile name sources) old = old.files.tells
TellsEnough (Run steps image) old = old.files.tells × old.input.tells
TellsEnough (Eval turns sources) old = old.files.tells × old.input.tells × old.out.tells
TellsEnough (Solve file) old = old.files.tells
TellsEnough (Gen number) old = ⊤
TellsEnough (Selftest name number) old = old.files.tells
TellsEnough (Least file) old = old.files.tells
TellsEnough (Board sources) old = old.files.tells
TellsEnough (ManyFiles count) old = ⊤
TellsEnough Usage old = ⊤

-- the texts are above a limit
abbrev pub AreAboveLimit : List (List ℕ) → Type 0
AreAboveLimit texts = (excess : Excess) × Exceed texts excess

-- the command has too many sources, or sources or a board that are above a limit, where the files tell, or a generated
-- program that is
abbrev pub LimitCause : Command → Store → Type 0
LimitCause (Compile name sources) files = files.tells → HoldAll files.content sources AreAboveLimit
LimitCause (Run steps image) files = ⊥
LimitCause (Eval turns sources) files = files.tells → HoldAll files.content sources AreAboveLimit
LimitCause (Solve file) files = ⊥
LimitCause (Gen number) files = ⊥
LimitCause (Selftest name number) files = AreAboveLimit (generated number ∷ [])
LimitCause (Least file) files =
    files.tells → Holds (files.content file) (λ text. (n m : ℕ) × IsLargeBoard n m text)
LimitCause (Board sources) files = files.tells → HoldAll files.content sources AreAboveLimit
LimitCause (ManyFiles count) files = ⊤
LimitCause Usage files = ⊥

-- Which count rose where a status comes that the outside causes. Status 3 comes besides where there are too many
-- sources, or where these or the board are above a limit.
pub record HasCauses (command : Command) (old new : Outside) (status : ℕ) : Type 0 where
  pub limit : status ≡ 3 → Rose old.work.files.counts.too_long new.work.files.counts.too_long
      ⊎ LimitCause command old.work.files
  pub read_fault : status ≡ 4 → Rose old.work.files.counts.read_faults new.work.files.counts.read_faults
      ⊎ Rose old.work.input.faults new.work.input.faults
  pub write_fault : status ≡ 5 → Rose old.work.files.counts.write_faults new.work.files.counts.write_faults
      ⊎ (Rose old.work.out.counts.faults new.work.out.counts.faults
      ⊎ Rose old.err.counts.faults new.err.counts.faults)
  pub no_file : status ≡ 6 → Rose old.work.files.counts.missing new.work.files.counts.missing

-- a fault was met: the status says so, or that memory was wanting
abbrev pub IsFaultStatus : ℕ → Type 0
IsFaultStatus status = (status ≡ 4) ⊎ ((status ≡ 5) ⊎ (status ≡ 11))

-- no fault goes unnoticed
pub record NoticesFaults (old new : Outside) (status : ℕ) : Type 0 where
  pub reads : old.work.files.counts.read_faults < new.work.files.counts.read_faults → IsFaultStatus status
  pub writes : old.work.files.counts.write_faults < new.work.files.counts.write_faults → IsFaultStatus status
  pub input : old.work.input.faults < new.work.input.faults → IsFaultStatus status
  pub output : old.work.out.counts.faults < new.work.out.counts.faults → IsFaultStatus status
  pub errors : old.err.counts.faults < new.err.counts.faults → IsFaultStatus status

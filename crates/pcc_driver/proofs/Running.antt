-- Lemmas on the runs of images.
use Rattle.std.proofs.Common.{◌≡◌, ℕ, List, [], Option, Some, ap, inl, inr, refl}
use Rattle.std.specs.Prelude.{⊤, length, ◌≤◌}
use Rattle.elf_image.specs.Segments.{Segments, Loads}
use Rattle.ia32_insn.specs.State.{State}
use Rattle.pcc_base.specs.Outcome as outcome
use Rattle.pcc_outside.specs.Streams.{SinkCounts}
use Rattle.ia32_machine.specs.First.{First, first_state, lent}
use Rattle.ia32_machine.specs.Runs as runs
use Rattle.ia32_machine.specs.Runs.{Gives, GivesSoFar, GivesPart, WritesNext}
use Rattle.ia32_machine.specs.declared.ends.MachineEnd.{MachineEnd}
use Rattle.ia32_machine.specs.declared.ends.MachineEnd.TheVariants as machine
use Rattle.pcc_driver.specs.declared.report.Named.TheVariants.{Source, Map, Image, Board}
use Rattle.pcc_driver.specs.Answers.{ImageTold, IsPut, RunTold, RunGives, RunGivesSoFar, RunGivesPart}
use Rattle.pcc_driver.specs.Answers.{GivesNoMachine, IsNoImage, report_of_end}
use Rattle.pcc_driver.specs.Causes.{StreamsCause}
use Rattle.pcc_driver.specs.Outside.{SameStreams, Work}
use Rattle.pcc_driver.specs.Sources.{Holds, file_limit}
use Rattle.pcc_driver.specs.declared.report.Report.{Report}
use Rattle.pcc_driver.specs.declared.report.Report.TheVariants as reports

-- bytes that load nothing have no first state
pub no_image : (image input : List ℕ) → ((segments : Segments) → Loads image segments → ⊥) → IsNoImage input image
no_image image input none s first = none first.0 first.1

-- the report of bytes that give no machine
pub no_machine_told : (steps : ℕ) (report : Report) (content : Option (List ℕ)) (image : List ℕ) (old new : Work)
    → SameStreams old new → content ≡ Some image → length image ≤ file_limit → GivesNoMachine image report
    → RunTold steps content old new report
no_machine_told steps reports.NotImage content image old new same read small none =
    ((image, read, small, no_image image old.input.left none), same)
no_machine_told steps reports.NoMemory content image old new same read small none = inl same
no_machine_told steps reports.Compiled content image old new same read small none = none
no_machine_told steps (reports.Exited status) content image old new same read small none = absurd none
no_machine_told steps (reports.SourceFault fault) content image old new same read small none = absurd none
no_machine_told steps reports.Usage content image old new same read small none = absurd none
no_machine_told steps (reports.TooLong file) content image old new same read small none = absurd none
no_machine_told steps (reports.TooManyTokens tokens) content image old new same read small none = absurd none
no_machine_told steps (reports.LargeArrays bytes) content image old new same read small none = absurd none
no_machine_told steps (reports.LargeFrame name bytes) content image old new same read small none = absurd none
no_machine_told steps (reports.TooManyFiles count) content image old new same read small none = absurd none
no_machine_told steps (reports.LargeBoard areas pieces) content image old new same read small none = absurd none
no_machine_told steps (reports.ReadFault file) content image old new same read small none = absurd none
no_machine_told steps reports.InputFault content image old new same read small none = absurd none
no_machine_told steps (reports.WriteFault file) content image old new same read small none = absurd none
no_machine_told steps reports.OutputFault content image old new same read small none = absurd none
no_machine_told steps (reports.NoFile file) content image old new same read small none = absurd none
no_machine_told steps (reports.Trapped trap) content image old new same read small none = absurd none
no_machine_told steps (reports.Stopped cause address) content image old new same read small none = absurd none
no_machine_told steps (reports.BudgetSpent spent) content image old new same read small none = absurd none
no_machine_told steps reports.Answered content image old new same read small none = absurd none
no_machine_told steps reports.BadBoard content image old new same read small none = absurd none

-- such a report says what the file holds
pub no_machine_file : (report : Report) (content : Option (List ℕ)) (image : List ℕ) → content ≡ Some image
    → length image ≤ file_limit → GivesNoMachine image report → ImageTold content report
no_machine_file reports.NotImage content image read small none = (image, read, small, none)
no_machine_file (reports.NoFile Image) content image read small none = absurd none
no_machine_file (reports.NoFile (Source i)) content image read small none = tt
no_machine_file (reports.NoFile Map) content image read small none = tt
no_machine_file (reports.NoFile Board) content image read small none = tt
no_machine_file (reports.TooLong Image) content image read small none = absurd none
no_machine_file (reports.TooLong (Source i)) content image read small none = tt
no_machine_file (reports.TooLong Map) content image read small none = tt
no_machine_file (reports.TooLong Board) content image read small none = tt
no_machine_file _ content image read small none = tt

-- and so does that of a run
pub machine_file : (steps : ℕ) (end : MachineEnd) (content : Option (List ℕ))
    → ImageTold content (report_of_end steps end)
machine_file steps (machine.Ended status) content = tt
machine_file steps (machine.Trapped trap) content = tt
machine_file steps (machine.Stopped cause address) content = tt
machine_file steps machine.BudgetSpent content = tt
machine_file steps machine.ReadFault content = tt
machine_file steps machine.WriteFault content = tt
machine_file steps machine.NoMemory content = tt

-- the counts of a run are those that its report is to have
pub machine_streams : (steps : ℕ) (end : MachineEnd) (input input' : ℕ) (out out' : SinkCounts)
    → runs.RunCounts input input' out out' end → StreamsCause (report_of_end steps end) input input' out out'
machine_streams steps (machine.Ended status) input input' out out' h = h
machine_streams steps (machine.Trapped trap) input input' out out' h = h
machine_streams steps (machine.Stopped cause address) input input' out out' h = h
machine_streams steps machine.BudgetSpent input input' out out' h = h
machine_streams steps machine.ReadFault input input' out out' h = h
machine_streams steps machine.WriteFault input input' out out' h = h
machine_streams steps machine.NoMemory input input' out out' h = (h.0, h.1)

-- a loaded machine that is lent an input is in the first state
pub lent_first : (image : List ℕ) (segments : Segments) (machine : State) (left : List ℕ) → Loads image segments
    → machine ≡ first_state segments [] → First image left (lent machine left)
lent_first image segments machine left loads same = (segments, loads, ap (λ (m : State). lent m left) same)

-- the end of a run is told by its report
gives_told : (steps : ℕ) (content : Option (List ℕ)) (image : List ℕ) (s : State) (old new : Work) (end : outcome.End)
    → content ≡ Some image → length image ≤ file_limit → First image old.input.left s
    → Gives steps s old.input.left new.input.left (IsPut old.out new.out) end
    → Holds content (RunGives steps old new end)
gives_told steps content image s old new end read small first told =
    (image, read, small, (s, first, told.0, told.1, told.2, told.3, told.4))

so_far_told : (steps : ℕ) (content : Option (List ℕ)) (image : List ℕ) (s left : State) (old new : Work)
    (IsLeft : State → Type 0) → content ≡ Some image → length image ≤ file_limit → First image old.input.left s
    → GivesSoFar steps s left old.input.left new.input.left (IsPut old.out new.out) IsLeft
    → Holds content (RunGivesSoFar steps IsLeft old new)
so_far_told steps content image s left old new IsLeft read small first told =
    let gives = told.2 in
    let last = told.3 in (
      image,
      read,
      small,
      (
        s,
        first,
        told.0,
        told.1,
        gives.0,
        gives.1,
        gives.2,
        gives.3,
        gives.4,
        last.0,
        last.1,
        last.2,
      ),
    )

part_told : (steps : ℕ) (content : Option (List ℕ)) (image : List ℕ) (s left : State) (old new : Work)
    → content ≡ Some image → length image ≤ file_limit → First image old.input.left s
    → GivesPart steps s left old.input.left new.input.left (IsPut old.out new.out)
    → Holds content (RunGivesPart steps old new)
part_told steps content image s left old new read small first told =
    let last = told.9 in (
      image,
      read,
      small,
      (
        s,
        first,
        told.0,
        told.1,
        told.2,
        told.3,
        told.4,
        told.5,
        told.6,
        told.7,
        told.8,
        last.0,
        last.1,
        last.2,
      ),
    )

-- the report of a run of the machine, which was left in some state, tells what the machine does
pub machine_told : (steps : ℕ) (end : MachineEnd) (content : Option (List ℕ)) (image : List ℕ) (s left : State)
    (old new : Work) → content ≡ Some image → length image ≤ file_limit → First image old.input.left s
    → runs.RunTold steps s left old.input.left new.input.left (IsPut old.out new.out) end
    → RunTold steps content old new (report_of_end steps end)
unfolding runs.RunTold
machine_told steps (machine.Ended status) content image s left old new read small first told =
    gives_told steps content image s old new (outcome.Ended status) read small first told.0
machine_told steps (machine.Trapped trap) content image s left old new read small first told =
    gives_told steps content image s old new (outcome.Trapped trap) read small first told.0
machine_told steps (machine.Stopped cause address) content image s left old new read small first told =
    gives_told steps content image s old new (outcome.Stopped cause address) read small first told.0
machine_told steps machine.BudgetSpent content image s left old new read small first told =
    (refl, gives_told steps content image s old new outcome.Goes read small first told.0)
machine_told steps machine.ReadFault content image s left old new read small first told =
    so_far_told steps content image s left old new (λ t. ⊤) read small first told
machine_told steps machine.WriteFault content image s left old new read small first told =
    part_told steps content image s left old new read small first told
machine_told steps machine.NoMemory content image s left old new read small first told =
    inr (so_far_told steps content image s left old new WritesNext read small first told)

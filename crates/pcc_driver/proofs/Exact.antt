-- The status of a command where nothing fails, from the report that it ends in.
use Rattle.std.proofs.Common.{◌≡◌, ℕ, List, [], ◌∷◌, Option, None, sym, ap, ◌∙◌, subst, inl, inr, refl, arith}
use Rattle.std.specs.Prelude.{◌⊎◌}
use Rattle.pcc_base.specs.Counts.{Rose}
use Rattle.pcc_base.specs.Outcome as outcome
use Rattle.pcc_base.specs.Outcome.{Outcome, End}
use Rattle.ia32_insn.specs.State.{State}
use Rattle.ia32_insn.specs.Runs.{Runs, no_visits}
use Rattle.ia32_insn.proofs.Runs.{run_once}
use Rattle.ia32_machine.specs.First.{First}
use Rattle.pcc_gen.specs.Generated.{generated}
use Rattle.pcc_words.specs.Asked as commands
use Rattle.pcc_words.specs.Asked.{Command}
use Rattle.pcc_driver.specs.Causes.{HasCause}
use Rattle.pcc_driver.specs.Ends.{Ends}
use Rattle.pcc_driver.specs.Outside.{Files, Outside, Output, Work}
use Rattle.pcc_driver.specs.Reports.{end_status, status_of}
use Rattle.pcc_driver.specs.declared.report.Named.TheVariants.{Source, Map, Image, Board}
use Rattle.pcc_driver.specs.declared.report.Report.{Report}
use Rattle.pcc_driver.specs.declared.report.Report.TheVariants as reports
use Rattle.pcc_driver.proofs.Ends.{ended_status}
use Rattle.pcc_driver.specs.Sources.{Holds, IsTooLong}
use Rattle.pcc_driver.proofs.SourcesStatus.{refused_status, typed_status}
use Rattle.pcc_driver.proofs.BoardStatus.{least_status, solve_status}
use Rattle.pcc_driver.proofs.EvalStatus.{eval_status}
use Rattle.pcc_driver.proofs.Causes.{own_status}
use Rattle.pcc_driver.proofs.SelftestStatus.{selftest_status}
use Rattle.pcc_driver.specs.Selftests.{step_limit, turn_limit}
use Rattle.pcc_driver.specs.Answers.{AnswerPut, CommandTold, CompileTold, MapTold, RunTold, RunGives, IsNoImage}
use Rattle.pcc_driver.specs.Promises.{IsQuiet, TellsEnough, CompileStatus, RunStatus, HasStatus}
use Rattle.ia32_machine.proofs.First.{first-one}

-- ---- the line

-- where standard error didn't fail the status is the report's, or says that memory was wanting
ends_status : (command : Command) (report : Report) (old new : Output) (result : ℕ)
    → Ends command report old new result → (Rose old.counts.faults new.counts.faults → ⊥)
    → (result ≡ 11) ⊎ (result ≡ status_of report)
ends_status command report old new result ends quiet =
    elim (ended_status command report old new result ends) [
      | inl none ↦ inl none
      | inr (inl (e, rose)) ↦ absurd (quiet rose)
      | inr (inr same) ↦ inr same
    ]

-- ---- compile

-- the report of `compile` has the status of the files
compile_status : (name : List ℕ) (sources : List (List ℕ)) (old new : Outside) (report : Report)
    → HasCause report old.work new.work
    → CompileTold name sources old.work.files.content new.work.files.content report → IsQuiet old new
    → (status_of report ≡ 11) ⊎ CompileStatus old.work.files.content sources (status_of report)
compile_status name sources old new reports.Compiled cause told quiet =
    inr (typed_status old.work.files.content sources told.texts (λ p. 0 ≡ 0) told.stands.program 0
    told.sources_read told.stands.accepted refl)
compile_status name sources old new (reports.WriteFault Map) cause told quiet = absurd (quiet.writes cause.files.0)
compile_status name sources old new (reports.WriteFault Image) cause told quiet = absurd (quiet.writes cause.files.0)
compile_status name sources old new reports.NoMemory cause told quiet = inl refl
compile_status name sources old new (reports.NoFile file) cause told quiet =
    refused_status old.work.files.content sources (λ p. status_of (reports.NoFile file) ≡ 0) (reports.NoFile file)
    old.work.files.counts
    new.work.files.counts cause.files quiet.reads told.0
compile_status name sources old new (reports.TooLong file) cause told quiet =
    refused_status old.work.files.content sources (λ p. status_of (reports.TooLong file) ≡ 0) (reports.TooLong file)
    old.work.files.counts
    new.work.files.counts cause.files quiet.reads told.0
compile_status name sources old new (reports.SourceFault fault) cause told quiet =
    refused_status old.work.files.content sources (λ p. status_of (reports.SourceFault fault) ≡ 0)
    (reports.SourceFault fault) old.work.files.counts
    new.work.files.counts cause.files quiet.reads told.0
compile_status name sources old new (reports.TooManyTokens tokens) cause told quiet =
    refused_status old.work.files.content sources (λ p. status_of (reports.TooManyTokens tokens) ≡ 0)
    (reports.TooManyTokens tokens) old.work.files.counts
    new.work.files.counts cause.files quiet.reads told.0
compile_status name sources old new (reports.LargeArrays bytes) cause told quiet =
    refused_status old.work.files.content sources (λ p. status_of (reports.LargeArrays bytes) ≡ 0)
    (reports.LargeArrays bytes) old.work.files.counts
    new.work.files.counts cause.files quiet.reads told.0
compile_status name sources old new (reports.LargeFrame function bytes) cause told quiet =
    refused_status old.work.files.content sources (λ p. status_of (reports.LargeFrame function bytes) ≡ 0)
    (reports.LargeFrame function bytes) old.work.files.counts
    new.work.files.counts cause.files quiet.reads told.0
compile_status name sources old new (reports.ReadFault file) cause told quiet =
    refused_status old.work.files.content sources (λ p. status_of (reports.ReadFault file) ≡ 0) (reports.ReadFault file)
    old.work.files.counts
    new.work.files.counts cause.files quiet.reads told.0
compile_status name sources old new (reports.WriteFault (Source i)) cause told quiet = absurd told.0
compile_status name sources old new (reports.WriteFault Board) cause told quiet = absurd told.0
compile_status name sources old new (reports.TooManyFiles count) cause told quiet = absurd told.0
compile_status name sources old new (reports.LargeBoard areas pieces) cause told quiet = absurd told.0
compile_status name sources old new (reports.Exited status) cause told quiet = absurd told.0
compile_status name sources old new reports.Usage cause told quiet = absurd told.0
compile_status name sources old new reports.InputFault cause told quiet = absurd told.0
compile_status name sources old new reports.OutputFault cause told quiet = absurd told.0
compile_status name sources old new reports.NotImage cause told quiet = absurd told.0
compile_status name sources old new (reports.Trapped trap) cause told quiet = absurd told.0
compile_status name sources old new (reports.Stopped at address) cause told quiet = absurd told.0
compile_status name sources old new (reports.BudgetSpent steps) cause told quiet = absurd told.0
compile_status name sources old new reports.Answered cause told quiet = absurd told.0
compile_status name sources old new reports.BadBoard cause told quiet = absurd told.0

-- ---- run

no_file_status : (steps : ℕ) (input : List ℕ) (content : Option (List ℕ)) → content ≡ None
    → RunStatus steps input content 6
no_file_status steps input content e = rw e refl

too_long_status : (steps : ℕ) (input : List ℕ) (content : Option (List ℕ)) → IsTooLong content
    → RunStatus steps input content 3
too_long_status steps input content long =
    rw long.1 (
      λ h. refl,
      λ h none. absurd (omega (arith, long.2, h)),
      λ h s o first runs. absurd (omega (arith, long.2, h)),
    )

no_image_status : (steps : ℕ) (input : List ℕ) (content : Option (List ℕ)) → Holds content (IsNoImage input)
    → RunStatus steps input content 7
no_image_status steps input content held =
    rw held.1 (λ h. absurd (omega (arith, held.2, h)), λ h none. refl, λ h s o first runs. absurd (held.3 s first))

-- two runs of all steps of an image end alike
same_end : (steps : ℕ) (image input : List ℕ) (s t : State) (a b : Outcome) → First image input s → First image input t
    → Runs no_visits steps s a → Runs no_visits steps t b → b.end ≡ a.end
same_end steps image input s t a b first other runs others =
    let at_t : Runs no_visits steps t a =
    subst (λ (u : State). Runs no_visits steps u a) (first-one image input s t first other) runs in
    ap (λ (o : Outcome). o.end) (run_once no_visits steps t b a others at_t)

run_gives_status : (steps : ℕ) (old new : Work) (content : Option (List ℕ)) (end : End)
    → Holds content (RunGives steps old new end) → RunStatus steps old.input.left content (end_status end)
run_gives_status steps old new content end held =
    rw held.1 (
      λ h. absurd (omega (arith, held.2, h)),
      λ h none. absurd (none held.3.0 held.3.1),
      λ h s o first runs.
          sym (ap end_status (same_end steps held.0 old.input.left held.3.0 s held.3.2 o held.3.1 first held.3.3 runs
          ∙ held.3.4)),
    )

-- the report of a run has the status of the file
run_status : (steps : ℕ) (content : Option (List ℕ)) (report : Report) (old new : Outside)
    → HasCause report old.work new.work → RunTold steps content old.work new.work report → IsQuiet old new
    → (status_of report ≡ 11) ⊎ RunStatus steps old.work.input.left content (status_of report)
run_status steps content (reports.Exited status) old new cause told quiet =
    inr (run_gives_status steps old.work new.work content (outcome.Ended status) told)
run_status steps content (reports.Trapped trap) old new cause told quiet =
    inr (run_gives_status steps old.work new.work content (outcome.Trapped trap) told)
run_status steps content (reports.Stopped at address) old new cause told quiet =
    inr (run_gives_status steps old.work new.work content (outcome.Stopped at address) told)
run_status steps content (reports.BudgetSpent spent) old new cause told quiet =
    inr (run_gives_status steps old.work new.work content outcome.Goes told.1)
run_status steps content reports.NotImage old new cause told quiet =
    inr (no_image_status steps old.work.input.left content told.0)
run_status steps content (reports.TooLong Image) old new cause told quiet =
    inr (too_long_status steps old.work.input.left content told.0)
run_status steps content (reports.NoFile Image) old new cause told quiet =
    inr (no_file_status steps old.work.input.left content told.0)
run_status steps content (reports.ReadFault file) old new cause told quiet = absurd (quiet.reads cause.files.0)
run_status steps content reports.InputFault old new cause told quiet = absurd (quiet.input cause.streams.0)
run_status steps content reports.OutputFault old new cause told quiet = absurd (quiet.output cause.streams.1)
run_status steps content (reports.WriteFault file) old new cause told quiet = absurd (quiet.writes cause.files.0)
run_status steps content reports.NoMemory old new cause told quiet = inl refl
run_status steps content (reports.TooManyTokens tokens) old new cause told quiet = absurd told
run_status steps content (reports.LargeArrays bytes) old new cause told quiet = absurd told
run_status steps content (reports.LargeFrame function bytes) old new cause told quiet = absurd told
run_status steps content (reports.TooManyFiles count) old new cause told quiet = absurd told
run_status steps content (reports.LargeBoard areas pieces) old new cause told quiet = absurd told
run_status steps content (reports.TooLong (Source i)) old new cause told quiet = absurd told
run_status steps content (reports.TooLong Map) old new cause told quiet = absurd told
run_status steps content (reports.TooLong Board) old new cause told quiet = absurd told
run_status steps content (reports.NoFile (Source i)) old new cause told quiet = absurd told
run_status steps content (reports.NoFile Map) old new cause told quiet = absurd told
run_status steps content (reports.NoFile Board) old new cause told quiet = absurd told
run_status steps content reports.Compiled old new cause told quiet = absurd told
run_status steps content (reports.SourceFault fault) old new cause told quiet = absurd told
run_status steps content reports.Usage old new cause told quiet = absurd told
run_status steps content reports.Answered old new cause told quiet = absurd told
run_status steps content reports.BadBoard old new cause told quiet = absurd told

-- ---- gen

-- the report of an answer that was put says that the command did its work
answer_status : (answer : List ℕ) (report : Report) (old new : Outside) → HasCause report old.work new.work
    → AnswerPut answer old.work.out new.work.out report → IsQuiet old new
    → (status_of report ≡ 11) ⊎ (status_of report ≡ 0)
answer_status answer reports.Answered old new cause told quiet = inr refl
answer_status answer reports.OutputFault old new cause told quiet = absurd (quiet.output cause.streams.1)
answer_status answer reports.NoMemory old new cause told quiet = inl refl
answer_status answer report old new cause told quiet = absurd told

-- ---- board

-- the report of `board` has the status of the files
map_status : (sources : List (List ℕ)) (old new : Outside) (report : Report) → HasCause report old.work new.work
    → MapTold old.work.files.content sources old.work.out new.work.out report → IsQuiet old new
    → (status_of report ≡ 11) ⊎ CompileStatus old.work.files.content sources (status_of report)
map_status sources old new reports.Answered cause (texts, read, (program, typed, put)) quiet =
    inr (typed_status old.work.files.content sources texts (λ p. 0 ≡ 0) program 0 read typed refl)
map_status sources old new reports.OutputFault cause told quiet = absurd (quiet.output cause.streams.1)
map_status sources old new reports.NoMemory cause told quiet = inl refl
map_status sources old new (reports.NoFile file) cause told quiet =
    refused_status old.work.files.content sources (λ p. status_of (reports.NoFile file) ≡ 0) (reports.NoFile file)
    old.work.files.counts
    new.work.files.counts cause.files quiet.reads told.0
map_status sources old new (reports.TooLong file) cause told quiet =
    refused_status old.work.files.content sources (λ p. status_of (reports.TooLong file) ≡ 0) (reports.TooLong file)
    old.work.files.counts
    new.work.files.counts cause.files quiet.reads told.0
map_status sources old new (reports.SourceFault fault) cause told quiet =
    refused_status old.work.files.content sources (λ p. status_of (reports.SourceFault fault) ≡ 0)
    (reports.SourceFault fault) old.work.files.counts
    new.work.files.counts cause.files quiet.reads told.0
map_status sources old new (reports.TooManyTokens tokens) cause told quiet =
    refused_status old.work.files.content sources (λ p. status_of (reports.TooManyTokens tokens) ≡ 0)
    (reports.TooManyTokens tokens) old.work.files.counts
    new.work.files.counts cause.files quiet.reads told.0
map_status sources old new (reports.LargeArrays bytes) cause told quiet =
    refused_status old.work.files.content sources (λ p. status_of (reports.LargeArrays bytes) ≡ 0)
    (reports.LargeArrays bytes) old.work.files.counts
    new.work.files.counts cause.files quiet.reads told.0
map_status sources old new (reports.LargeFrame function bytes) cause told quiet =
    refused_status old.work.files.content sources (λ p. status_of (reports.LargeFrame function bytes) ≡ 0)
    (reports.LargeFrame function bytes) old.work.files.counts
    new.work.files.counts cause.files quiet.reads told.0
map_status sources old new (reports.ReadFault file) cause told quiet =
    refused_status old.work.files.content sources (λ p. status_of (reports.ReadFault file) ≡ 0) (reports.ReadFault file)
    old.work.files.counts
    new.work.files.counts cause.files quiet.reads told.0
map_status sources old new (reports.WriteFault file) cause told quiet = absurd told.0
map_status sources old new (reports.TooManyFiles count) cause told quiet = absurd told.0
map_status sources old new (reports.LargeBoard areas pieces) cause told quiet = absurd told.0
map_status sources old new (reports.Exited status) cause told quiet = absurd told.0
map_status sources old new reports.Usage cause told quiet = absurd told.0
map_status sources old new reports.InputFault cause told quiet = absurd told.0
map_status sources old new reports.NotImage cause told quiet = absurd told.0
map_status sources old new (reports.Trapped trap) cause told quiet = absurd told.0
map_status sources old new (reports.Stopped at address) cause told quiet = absurd told.0
map_status sources old new (reports.BudgetSpent steps) cause told quiet = absurd told.0
map_status sources old new reports.BadBoard cause told quiet = absurd told.0
map_status sources old new reports.Compiled cause told quiet = absurd told.0

-- ---- every command

-- the report of a command has the status that the command has
report_status : (command : Command) (report : Report) (old new : Outside) → HasCause report old.work new.work
    → CommandTold command old.work new.work report → TellsEnough command old.work → IsQuiet old new
    → (status_of report ≡ 11) ⊎ HasStatus command old.work new.work (status_of report)
report_status (commands.Compile name sources) report old new cause told f quiet =
    compile_status name sources old new report cause (told.0 f) quiet
report_status (commands.Run steps image) report old new cause told enough quiet =
    run_status steps (old.work.files.content image) report old new cause (told.3 enough.0 enough.1) quiet
report_status (commands.Eval turns sources) report old new cause told enough quiet =
    eval_status turns sources report old.work new.work cause (told.2 enough.0 enough.1 enough.2) quiet.reads quiet.input
    quiet.output
report_status (commands.Solve file) report old new cause told f quiet =
    solve_status (old.work.files.content file) report old new cause (told.3 f) quiet
report_status (commands.Gen number) report old new cause told enough quiet =
    answer_status (generated number) report old new cause told.2 quiet
report_status (commands.Selftest name number) report old new cause told f quiet =
    selftest_status turn_limit step_limit name (generated number ∷ []) report old new cause told.1 f quiet
report_status (commands.Least file) report old new cause told f quiet =
    least_status (old.work.files.content file) report old new cause (told.2 f) quiet
report_status (commands.Board sources) report old new cause told f quiet =
    map_status sources old new report cause (told.2 f) quiet
report_status (commands.ManyFiles count) report old new cause told enough quiet =
    own_status (reports.TooManyFiles count) report old.work new.work told
report_status commands.Usage report old new cause told enough quiet =
    own_status reports.Usage report old.work new.work told

-- the status of a command where nothing fails
pub exact_status : (command : Command) (report : Report) (old new : Outside) (result : ℕ)
    → HasCause report old.work new.work → CommandTold command old.work new.work report
    → Ends command report old.err new.err result → TellsEnough command old.work → IsQuiet old new
    → (result ≡ 11) ⊎ HasStatus command old.work new.work result
exact_status command report old new result cause told ends enough quiet =
    elim (ends_status command report old.err new.err result ends quiet.errors) [
      | inl none ↦ inl none
      | inr same ↦ elim (report_status command report old new cause told enough quiet) [
        | inl none ↦ inl (same ∙ none)
        | inr has ↦ inr (subst (λ (n : ℕ). HasStatus command old.work new.work n) (sym same) has)
      ]
    ]

-- The status of `selftest`, from its report.
use Rattle.std.proofs.Common.{◌≡◌, ◌+◌, ◌-◌, ℕ, List, [], Some, ap, sym, ◌∙◌, subst, inl, inr, refl, arith}
use Rattle.std.specs.Prelude.{◌⊎◌}
use Rattle.pcc_base.specs.Outcome as outcome
use Rattle.pcc_base.specs.Outcome.{End, Outcome}
use Rattle.pcc_base.specs.declared.fault.Fault.{Fault}
use Rattle.c_eval.specs.Runs.{outcome_in}
use Rattle.c_front.proofs.OneAnswer.{fault_or_limit, no_fault, one_program, within}
use Rattle.c_front.specs.Answers.{HaveFault}
use Rattle.c_tree.specs.Program.{Program}
use Rattle.ia32_insn.specs.Runs.{Runs, no_visits}
use Rattle.ia32_insn.proofs.Runs.{runs_more}
use Rattle.pcc_driver.specs.Causes.{HasCause}
use Rattle.pcc_driver.specs.Outside.{Files, Outside}
use Rattle.pcc_driver.specs.Programs.{Exceed, Excess, HaveTypedProgram, LargeArrays, LargeFrame, ManyTokens}
use Rattle.pcc_driver.specs.Promises.{IsQuiet}
use Rattle.pcc_driver.specs.Reports.{status_of}
use Rattle.pcc_driver.specs.Selftests.{ImageStatus, ImageTested, IsEvalLine, IsRunLine, LineTold, RunsTo, SelftestStatus}
use Rattle.pcc_driver.specs.Selftests.{SelftestTold, StandsAs, TurnsStatus, run_status}
use Rattle.pcc_driver.specs.declared.report.Named.TheVariants.{Map, Image}
use Rattle.pcc_driver.specs.declared.report.Report.{Report}
use Rattle.pcc_driver.specs.declared.report.Report.TheVariants as reports

module _ (turns steps : ℕ) (name : List ℕ) (texts : List (List ℕ)) (files : Files) where
  -- the typed program decides
  typed_status : (p : Program) (status : ℕ) → HaveTypedProgram texts p
      → TurnsStatus steps name files (outcome_in p turns []).end status
      → SelftestStatus turns steps name texts files status
  typed_status p status is h = record {
    program = λ q other. subst (λ (r : Program). TurnsStatus steps name files (outcome_in r turns []).end status)
        (one_program texts p q is other) h;
    limits = λ excess above. absurd (within texts p excess is above);
    refused = λ none few. absurd (none p is);
  }

  -- and by how its turns end
  ended_status : (p : Program) (end : End) (status : ℕ) → HaveTypedProgram texts p → (outcome_in p turns []).end ≡ end
      → TurnsStatus steps name files end status → SelftestStatus turns steps name texts files status
  ended_status p end status is e h =
      typed_status p status is (subst (λ (x : End). TurnsStatus steps name files x status) (sym e) h)

  fault_status : (fault : Fault) → HaveFault texts fault → SelftestStatus turns steps name texts files 1
  fault_status fault faulty = record {
    program = λ p is. absurd (no_fault texts p fault is faulty);
    limits = λ excess above. absurd (fault_or_limit texts fault excess faulty above);
    refused = λ none few. refl;
  }

  limit_status : (excess : Excess) → Exceed texts excess → SelftestStatus turns steps name texts files 3
  limit_status excess above = record {
    program = λ p is. absurd (within texts p excess is above);
    limits = λ other is. refl;
    refused = λ none few. absurd (few excess above);
  }

  -- the image under NAME decides, where the turns end
  image_status : (first image : List ℕ) (o : Outcome) (status : ℕ) → IsEvalLine turns texts first
      → files name ≡ Some image → RunsTo image steps o → status ≡ run_status o.end
      → SelftestStatus turns steps name texts files status
  image_status first image o status (p, typed, (ended, e, line)) written runs is =
      ended_status p (outcome.Ended ended) status typed e (image, o, written, runs, is)

-- the bytes under NAME
image_there : (old new : Files) (name : List ℕ) (texts : List (List ℕ)) (image : List ℕ)
    → StandsAs old new name texts image → new name ≡ Some image
image_there old new name texts image stands = stands.0.image_written ∙ ap Some stands.1

-- an image that ends within so many steps has the same outcome after all of them
all_steps : (most : ℕ) (image line : List ℕ) → (run : IsRunLine most image line) → RunsTo image most run.ran
all_steps most image line run =
    let (s, first, runs) = run.runs in
    let few = run.few in
    let e : most - run.steps + run.steps ≡ most = omega (arith, few) in (
      s,
      first,
      subst (λ (n : ℕ). Runs no_visits n s run.ran) e (runs_more no_visits (most - run.steps) run.steps s run.ran
          (λ g. let no_end : outcome.Ended run.status ≡ outcome.Goes = sym run.ended ∙ g in cc) runs),
    )

-- the status of what comes up to the first line
line_status : (turns steps : ℕ) (name : List ℕ) (texts : List (List ℕ)) (report : Report) (old new : Outside)
    → HasCause report old.work new.work → LineTold turns texts old.work.out new.work.out report → IsQuiet old new
    → (status_of report ≡ 11) ⊎ SelftestStatus turns steps name texts new.work.files.content (status_of report)
line_status turns steps name texts (reports.Trapped trap) old new cause told quiet =
    let (p, typed, e) = told.0 in
    inr (ended_status turns steps name texts new.work.files.content p (outcome.Trapped trap) 8 typed e refl)
line_status turns steps name texts (reports.BudgetSpent spent) old new cause told quiet =
    let (p, typed, e) = told.0 in
    inr (ended_status turns steps name texts new.work.files.content p outcome.Goes 10 typed e.1 refl)
line_status turns steps name texts reports.OutputFault old new cause told quiet =
    absurd (quiet.output cause.streams.1)
line_status turns steps name texts reports.NoMemory old new cause told quiet = inl refl
line_status turns steps name texts (reports.SourceFault fault) old new cause told quiet =
    inr (fault_status turns steps name texts new.work.files.content fault told.0)
line_status turns steps name texts (reports.TooManyTokens tokens) old new cause told quiet =
    inr (limit_status turns steps name texts new.work.files.content ManyTokens told.0.1)
line_status turns steps name texts (reports.LargeArrays bytes) old new cause told quiet =
    inr (limit_status turns steps name texts new.work.files.content (LargeArrays bytes) told.0)
line_status turns steps name texts (reports.LargeFrame function bytes) old new cause told quiet =
    inr (limit_status turns steps name texts new.work.files.content (LargeFrame function.items bytes) told.0)
line_status turns steps name texts report old new cause told quiet = absurd told.0

-- the status of what comes behind it
tested_status : (turns steps : ℕ) (name : List ℕ) (texts : List (List ℕ)) (first : List ℕ) (report : Report)
    (old new : Outside) → HasCause report old.work new.work → IsEvalLine turns texts first
    → ImageTested steps name texts first old.work.files new.work.files old.work.out new.work.out report
    → old.work.files.tells → IsQuiet old new
    → (status_of report ≡ 11) ⊎ SelftestStatus turns steps name texts new.work.files.content (status_of report)
tested_status turns steps name texts first reports.Answered old new cause is told f quiet =
    let (second, image, run, put, stands) = told in
    inr (image_status turns steps name texts new.work.files.content first image run.ran 0 is
    (image_there old.work.files.content new.work.files.content name texts image (stands f))
    (all_steps steps image second run) (sym (ap run_status run.ended)))
tested_status turns steps name texts first (reports.BudgetSpent spent) old new cause is told f quiet =
    let (e, image, goes, put, stands) = told in
    inr (image_status turns steps name texts new.work.files.content first image goes.0 10 is
    (image_there old.work.files.content new.work.files.content name texts image (stands f)) goes.1
    (sym (ap run_status goes.2)))
tested_status turns steps name texts first reports.OutputFault old new cause is told f quiet =
    absurd (quiet.output cause.streams.1)
tested_status turns steps name texts first (reports.WriteFault Map) old new cause is told f quiet =
    absurd (quiet.writes cause.files.0)
tested_status turns steps name texts first (reports.WriteFault Image) old new cause is told f quiet =
    absurd (quiet.writes cause.files.0)
tested_status turns steps name texts first reports.NoMemory old new cause is told f quiet = inl refl
tested_status turns steps name texts first report old new cause is told f quiet = absurd told

-- the report of `selftest` has the status that the texts and the image under NAME have
pub selftest_status : (turns steps : ℕ) (name : List ℕ) (texts : List (List ℕ)) (report : Report) (old new : Outside)
    → HasCause report old.work new.work
    → SelftestTold turns steps name texts old.work.files new.work.files old.work.out new.work.out report
    → old.work.files.tells → IsQuiet old new
    → (status_of report ≡ 11) ⊎ SelftestStatus turns steps name texts new.work.files.content (status_of report)
selftest_status turns steps name texts report old new cause told f quiet = elim told [
  | inl line ↦ line_status turns steps name texts report old new cause line.0 quiet
  | inr (first, is, tested) ↦ tested_status turns steps name texts first report old new cause is tested f quiet
]

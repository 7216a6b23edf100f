-- The steps of the run of an image, counted.
use Rattle.std.proofs.Common.{◌≡◌, ◌<◌, ℕ, suc, List, [], refl, sym, ap, ◌∙◌, subst, arith}
use Rattle.pcc_base.specs.Outcome as outcome
use Rattle.pcc_base.specs.Outcome.{Goes, Outcome}
use Rattle.elf_image.specs.Segments.{Segments, Loads}
use Rattle.ia32_insn.specs.State.{State}
use Rattle.ia32_insn.specs.Runs.{Runs, no_visits, stands}
use Rattle.ia32_machine.specs.First.{First, first_state, lent}
use Rattle.ia32_machine.specs.Runs.{Gives, Reaches, RunTold, StepTold, alone}
use Rattle.ia32_machine.specs.declared.ends.MachineEnd.{MachineEnd}
use Rattle.ia32_machine.specs.declared.ends.MachineEnd.TheVariants as machine
use Rattle.ia32_machine.specs.declared.ends.StepEnd.TheVariants as step
use Rattle.ia32_machine.proofs.First.{first-one}
use Rattle.ia32_machine.proofs.Runs.{Joins, Ran, ran_last, reaches_goes}
use Rattle.pcc_driver.specs.Answers.{GivesNoMachine}
use Rattle.pcc_driver.specs.Selftests.{CountedTold, EndsAfter, EndsSo, GivesNoRun, GoesOn, IsRunLine, RunsTo, run_line}
use Rattle.pcc_driver.specs.declared.report.Report.{Report}
use Rattle.pcc_driver.specs.declared.report.Report.TheVariants as reports
use Rattle.pcc_driver.proofs.OneEnd.{goes-before}

-- the step behind n steps is the first with an end
ends-after : (n most : ℕ) (s t : State) (left left' : List ℕ) (IsPut : List ℕ → Type 0) (end : outcome.End) → n < most
    → Reaches n s t → Gives (suc n) s left left' IsPut end → EndsAfter most s IsPut end (suc n)
ends-after n most s t left left' IsPut end lt reaches gives = record {
  few = omega (arith, lt);
  ran = gives.0;
  runs = gives.1;
  ended = gives.2;
  wrote = gives.4;
  least = λ fewer less other run. goes-before n fewer s (stands [] t Goes) other (omega (arith, less))
      (reaches_goes n s t reaches) refl run;
}

-- a step that ends the run is counted
pub counted_end : (n most : ℕ) (s machine machine' : State) (left left' left'' : List ℕ)
    (IsFirst IsNext IsPut : List ℕ → Type 0) (end : MachineEnd) → Joins IsFirst IsNext IsPut → n < most
    → Ran n s machine left left' IsFirst → StepTold (lent machine left') machine' left'' IsNext (step.End end)
    → CountedTold most s IsPut end (suc n)
unfolding StepTold RunTold
counted_end n most s before after left left' left'' IsFirst IsNext IsPut (machine.Ended status) joins lt r h =
    let told : RunTold (suc n) s after left left'' IsPut (machine.Ended status) =
    ran_last n (suc n) s before after left left' left'' IsFirst IsNext IsPut (machine.Ended status) joins (omega arith) r h
    in ends-after n most s r.state left left'' IsPut (outcome.Ended status) lt r.reaches told.0
counted_end n most s before after left left' left'' IsFirst IsNext IsPut (machine.Trapped trap) joins lt r h =
    let told : RunTold (suc n) s after left left'' IsPut (machine.Trapped trap) =
    ran_last n (suc n) s before after left left' left'' IsFirst IsNext IsPut (machine.Trapped trap) joins (omega arith) r h
    in ends-after n most s r.state left left'' IsPut (outcome.Trapped trap) lt r.reaches told.0
counted_end n most s before after left left' left'' IsFirst IsNext IsPut (machine.Stopped cause address) joins lt r h =
    let told : RunTold (suc n) s after left left'' IsPut (machine.Stopped cause address) =
    ran_last n (suc n) s before after left left' left'' IsFirst IsNext IsPut (machine.Stopped cause address) joins
    (omega arith) r h
    in ends-after n most s r.state left left'' IsPut (outcome.Stopped cause address) lt r.reaches told.0
counted_end n most s before after left left' left'' IsFirst IsNext IsPut machine.BudgetSpent joins lt r h = elim h [ ]
counted_end n most s before after left left' left'' IsFirst IsNext IsPut machine.ReadFault joins lt r h = tt
counted_end n most s before after left left' left'' IsFirst IsNext IsPut machine.WriteFault joins lt r h = tt
counted_end n most s before after left left' left'' IsFirst IsNext IsPut machine.NoMemory joins lt r h = tt

-- all steps were made
pub counted_spent : (most steps : ℕ) (s before : State) (left left' : List ℕ) (IsPut : List ℕ → Type 0)
    → Ran most s before left left' IsPut → CountedTold most s IsPut machine.BudgetSpent steps
counted_spent most steps s before left left' IsPut r =
    (stands [] r.state Goes, reaches_goes most s r.state r.reaches, refl)

-- ---- from the first state of an image

-- a machine that is loaded has no streams of its own
pub loaded_bare : (segments : Segments) (m : State) → m ≡ first_state segments [] → m ≡ alone m
loaded_bare segments m e = e ∙ sym (ap alone e)

-- it is in the first state of the image, where it is lent no input
loaded_first : (image : List ℕ) (segments : Segments) (m : State) → Loads image segments → m ≡ first_state segments []
    → First image [] (lent m [])
loaded_first image segments m loads e = (segments, loads, ap (λ (x : State). lent x []) e)

-- the end that was counted is the image's
pub ends_so : (most steps : ℕ) (image : List ℕ) (segments : Segments) (m : State) (IsPut : List ℕ → Type 0)
    (end : outcome.End) → Loads image segments → m ≡ first_state segments []
    → EndsAfter most (lent m []) IsPut end steps → EndsSo image end
ends_so most steps image segments m IsPut end loads e h =
    (steps, h.ran, (lent m [], loaded_first image segments m loads e, h.runs), h.ended)

pub goes_so : (most steps : ℕ) (image : List ℕ) (segments : Segments) (m : State) (IsPut : List ℕ → Type 0)
    → Loads image segments → m ≡ first_state segments []
    → CountedTold most (lent m []) IsPut machine.BudgetSpent steps → GoesOn most image
goes_so most steps image segments m IsPut loads e h =
    (h.0, (lent m [], loaded_first image segments m loads e, h.1), h.2)

-- the line of a run that was counted
pub line_told : (most steps status : ℕ) (image bytes line : List ℕ) (segments : Segments) (m : State)
    (IsPut : List ℕ → Type 0) → Loads image segments → m ≡ first_state segments []
    → EndsAfter most (lent m []) IsPut (outcome.Ended status) steps
    → ((written : List ℕ) → IsPut written → bytes ≡ written) → line ≡ run_line bytes status steps
    → IsRunLine most image line
line_told most steps status image bytes line segments m IsPut loads e h put is = record {
  steps = steps;
  few = h.few;
  ran = h.ran;
  runs = (lent m [], loaded_first image segments m loads e, h.runs);
  status = status;
  ended = h.ended;
  least = λ fewer less other run. h.least fewer less other
      (subst (λ (s : State). Runs no_visits fewer s other)
      (first-one image [] run.0 (lent m []) run.1 (loaded_first image segments m loads e)) run.2);
  line_is = is ∙ ap (λ (written : List ℕ). run_line written status steps) (put h.ran.written h.wrote);
}

-- bytes that give no machine give no line
pub no_machine_run : (most : ℕ) (image : List ℕ) (report : Report) → GivesNoMachine image report
    → GivesNoRun most image report
no_machine_run most image reports.NotImage none = none
no_machine_run most image reports.NoMemory none = tt
no_machine_run most image report none = absurd none

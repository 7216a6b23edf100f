-- What is told where there is no memory for the words.
use Rattle.std.proofs.Common.{◌≡◌, ◌≤◌, ◌<◌, ℕ, refl, inl, inr, arith}
use Rattle.std.specs.Prelude.{◌⊎◌}
use Rattle.pcc_base.specs.Counts.{Rose}
use Rattle.pcc_words.specs.Asked as commands
use Rattle.pcc_words.specs.Asked.{Command}
use Rattle.pcc_driver.specs.Causes.{HasCause}
use Rattle.pcc_driver.specs.Ends.{Ends}
use Rattle.pcc_driver.specs.Outside.{Outside, Output, Work}
use Rattle.pcc_driver.specs.Answers.{CommandTold}
use Rattle.pcc_driver.specs.Promises.{IsFaultStatus, NoticesFaults}
use Rattle.pcc_driver.specs.declared.report.Report.TheVariants as reports
use Rattle.pcc_driver.proofs.Ends.{ended_status}

-- nothing is done
pub wanting_caused : (work : Work) → HasCause reports.NoMemory work work
wanting_caused work = record { files = refl; streams = (refl, refl) }

pub wanting_told : (command : Command) (work : Work) → CommandTold command work work reports.NoMemory
wanting_told (commands.Compile name sources) work = (λ f. inl (λ other. refl), (refl, refl))
wanting_told (commands.Run steps image) work = (tt, λ f other. refl, λ f. tt, λ f i. inl (refl, refl))
wanting_told (commands.Eval turns sources) work = (λ f other. refl, λ f. tt, λ f i o. inl (refl, refl))
wanting_told (commands.Solve file) work = (tt, λ f other. refl, refl, λ f o. refl)
wanting_told (commands.Gen number) work = (λ f other. refl, refl, λ t. refl)
wanting_told (commands.Selftest name number) work = (refl, inl (λ t. refl, λ f other. refl))
wanting_told (commands.Least file) work = (λ f other. refl, refl, λ f o. refl)
wanting_told (commands.Board sources) work = (λ f other. refl, refl, λ f o. refl)
wanting_told (commands.ManyFiles count) work = (inr refl, λ f other. refl, (refl, refl))
wanting_told commands.Usage work = (inr refl, λ f other. refl, (refl, refl))

-- the status is that of want of memory, or of a fault that came
pub wanting_status : (command : Command) (old new : Output) (result : ℕ)
    → Ends command reports.NoMemory old new result → (result ≡ 11)
    ⊎ ((result ≡ 5) × Rose old.counts.faults new.counts.faults)
wanting_status command old new result ends = elim (ended_status command reports.NoMemory old new result ends) [
  | inl e ↦ inl e
  | inr (inl fault) ↦ inr fault
  | inr (inr e) ↦ inl e
]

pub wanting_few : (command : Command) (old new : Output) (result : ℕ)
    → Ends command reports.NoMemory old new result → result ≤ 11
wanting_few command old new result ends = elim (wanting_status command old new result ends) [
  | inl e ↦ omega (arith, e)
  | inr fault ↦ omega (arith, fault.0)
]

pub wanting_not_done : (command : Command) (old new : Output) (result : ℕ)
    → Ends command reports.NoMemory old new result → result ≡ 0 → ⊥
wanting_not_done command old new result ends done = elim (wanting_status command old new result ends) [
  | inl e ↦ omega (arith, e, done)
  | inr fault ↦ omega (arith, fault.0, done)
]

-- a fault of standard error is told
pub wanting_noticed : (command : Command) (work : Work) (old new : Output) (result : ℕ)
    → Ends command reports.NoMemory old new result
    → NoticesFaults (record { work = work; err = old }) (record { work = work; err = new }) result
wanting_noticed command work old new result ends = record {
  reads = λ h. absurd (omega (arith, h));
  writes = λ h. absurd (omega (arith, h));
  input = λ h. absurd (omega (arith, h));
  output = λ h. absurd (omega (arith, h));
  errors = λ h. told (wanting_status command old new result ends);
}
  where
    told : (result ≡ 11) ⊎ ((result ≡ 5) × Rose old.counts.faults new.counts.faults) → IsFaultStatus result
    told (inl e) = inr (inr e)
    told (inr fault) = inr (inl fault.0)

-- The status that a report ends in.
use Rattle.std.proofs.Common.{◌≡◌, ℕ, Bool, true, false, Result, Ok, Err, ap, ◌∙◌, inl, inr, refl}
use Rattle.std.specs.Prelude.{◌⊎◌}
use Rattle.pcc_base.specs.Counts.{Rose}
use Rattle.pcc_outside.specs.Streams.{SinkCounts, CountsPut}
use Rattle.pcc_outside.specs.declared.sink.WriteRefusal.{WriteRefusal}
use Rattle.pcc_outside.specs.declared.sink.WriteRefusal.TheVariants as put
use Rattle.pcc_words.specs.Asked.{Command}
use Rattle.pcc_driver.specs.Ends.{Ends, EndsIf, IsUnlessMemory, status_after}
use Rattle.pcc_driver.specs.Outside.{Output}
use Rattle.pcc_driver.specs.Reports.{is_silent, status_of}
use Rattle.pcc_driver.specs.declared.report.Report.{Report}

-- the status after a put: that of want of memory, that of a fault that came, or the line's own
put_status : (status : ℕ) (answer : Result Unit WriteRefusal) (counts counts' : SinkCounts)
    → CountsPut counts counts' answer → (status_after status answer ≡ 11)
    ⊎ (((status_after status answer ≡ 5) × Rose counts.faults counts'.faults) ⊎ (status_after status answer ≡ status))
put_status status (Ok done) counts counts' counted = inr (inr refl)
put_status status (Err put.Failed) counts counts' counted = inr (inl (refl, counted.0))
put_status status (Err put.NoMemory) counts counts' counted = inl refl

-- the status of the line that is shown is the report's, or that of want of memory
pub shown_status : (report shown : Report) (status : ℕ) → IsUnlessMemory report shown → status ≡ status_of shown
    → (status ≡ 11)
    ⊎ (status ≡ status_of report)
shown_status report shown status (inl same) e = inr (e ∙ ap status_of same)
shown_status report shown status (inr none) e = inl (e ∙ ap status_of none)

-- a status that is neither 5 nor 11 is the report's
ended_if : (silent : Bool) (command : Command) (report : Report) (old new : Output) (result : ℕ)
    → EndsIf silent command report old new result → (result ≡ 11)
    ⊎ (((result ≡ 5) × Rose old.counts.faults new.counts.faults) ⊎ (result ≡ status_of report))
ended_if true command report old new result ends = inr (inr ends.1)
ended_if false command report old new result ends =
    let put = ends.4 in
    elim (put_status (status_of ends.0) put.0 old.counts new.counts put.1) [
      | inl e ↦ inl (put.3 ∙ e)
      | inr (inl (e, rose)) ↦ inr (inl (put.3 ∙ e, rose))
      | inr (inr e) ↦ elim (shown_status report ends.0 result ends.1 (put.3 ∙ e)) [
        | inl none ↦ inl none
        | inr same ↦ inr (inr same)
      ]
    ]

pub ended_status : (command : Command) (report : Report) (old new : Output) (result : ℕ)
    → Ends command report old new result → (result ≡ 11)
    ⊎ (((result ≡ 5) × Rose old.counts.faults new.counts.faults) ⊎ (result ≡ status_of report))
ended_status command report old new result ends = ended_if (is_silent report) command report old new result ends

use Rattle.std.proofs.Common.{◌≡◌, ℕ, Bool, true, false, List, inl, refl, sym, subst, ◌∙◌}
use Rattle.pcc_words.specs.Asked.{Command}
use Rattle.pcc_words.specs.Words.{meaning}
use Rattle.pcc_driver.specs.Outside.{Output, output_of}
use Rattle.pcc_driver.specs.Reports.{is_silent, status_of, IsShownAs}
use Rattle.pcc_driver.specs.Ends.{EndsIf, IsPut}
use Rattle.pcc_driver.specs.declared.report.Report.{Report}
use Rattle.pcc_driver.proofs.finished.finish.Goals as goal

-- a report without a line leaves standard error alone
ends_silent : (silent : Bool) (command : Command) (report : Report) (err : Output) (result : ℕ)
    → silent ≡ true → result ≡ status_of report → EndsIf silent command report err err result
ends_silent true command report err result e status = ((refl, λ _. refl), status)
ends_silent false command report err result e status = absurd (let wrong : false ≡ true = e in cc)

-- one with a line ends with it
ends_shown : (silent : Bool) (command : Command) (report : Report) (line : List ℕ) (old new : Output) (result : ℕ)
    → silent ≡ false → IsShownAs command report line → IsPut line (status_of report) old new result
    → EndsIf silent command report old new result
ends_shown true command report line old new result e shown put = absurd (let wrong : true ≡ false = e in cc)
ends_shown false command report line old new result e shown put = (report, inl refl, line, shown, put)

pub returns-then-is_silent-clause-ends : goal.returns-then-is_silent-clause-ends
returns-then-is_silent-clause-ends g c =
    ends_silent (is_silent c.args.report.now) (meaning c.args.command.now) c.args.report.now
    (output_of g.E.Sink c.args.err.now) c.status.result
    (sym c.is_silent.ensures ∙ c.if-is_silent.true) c.status.ensures

pub returns-in-Ok-clause-ends : goal.returns-in-Ok-clause-ends
returns-in-Ok-clause-ends g c =
    let old : Output = output_of g.E.Sink c.args.err.now in
    let new : Output = output_of g.E.Sink c.put_line.new.err in
    let put = c.put_line.ensures.put in
    ends_shown (is_silent c.args.report.now) (meaning c.args.command.now) c.args.report.now c.in-Ok.text.items old new
    c.put_line.result (sym c.is_silent.ensures ∙ c.if-is_silent.false) c.in-Ok.ensures
    (subst (λ (n : ℕ). IsPut c.in-Ok.text.items n old new c.put_line.result) c.status-in-Ok.ensures
    (subst (λ (line : List ℕ). IsPut line c.status-in-Ok.result old new c.put_line.result)
    c.as_slice.ensures.value put))

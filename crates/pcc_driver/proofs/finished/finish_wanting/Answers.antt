-- Want of memory is shown of any command.
use Rattle.std.proofs.Common.{◌≡◌, ℕ, Bool, true, false, codes, [], inr, refl, subst}
use Rattle.pcc_words.specs.Asked.{Command}
use Rattle.pcc_driver.specs.Outside.{Output, output_of}
use Rattle.pcc_driver.specs.Ends.{EndsIf, IsPut}
use Rattle.pcc_driver.specs.Reports.{is_silent}
use Rattle.pcc_driver.specs.declared.report.Report.{Report}
use Rattle.pcc_driver.specs.declared.report.Report.TheVariants as reports
use Rattle.pcc_driver.proofs.finished.finish_wanting.Goals as goal

wanting : (silent : Bool) (command : Command) (report : Report) (old new : Output) (result : ℕ) → silent ≡ false
    → IsPut (codes "no memory\n") 11 old new result → EndsIf silent command report old new result
wanting true command report old new result line put = absurd (let wrong : true ≡ false = line in cc)
wanting false command report old new result line put =
    (reports.NoMemory, inr refl, codes "no memory\n", ([], refl), put)

pub returns-clause-ends : goal.returns-clause-ends
returns-clause-ends g c = λ command report line.
    wanting (is_silent report) command report (output_of g.E.Sink c.args.err.now)
    (output_of g.E.Sink c.put_line.new.err) c.put_line.result line
    (subst (λ (n : ℕ). IsPut (codes "no memory\n") n (output_of g.E.Sink c.args.err.now)
    (output_of g.E.Sink c.put_line.new.err) c.put_line.result) c.status.ensures c.put_line.ensures.put)

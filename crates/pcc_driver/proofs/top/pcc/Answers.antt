use Rattle.std.proofs.Common.{◌≡◌, List, ap, refl, sym, subst, ◌∙◌, ℕ}
use Rattle.std.specs.Prelude.{map, string_bytes, String}
use Rattle.std.specs.declared.alloc.Global.{Global}
use Rattle.pcc_words.specs.Asked.{Command, HasFewSources, command_of}
use Rattle.pcc_words.specs.Words.{meaning}
use Rattle.pcc_words.proofs.Few.{few}
use Rattle.pcc_driver.specs.Outside.{Outside, outside_of, output_of}
use Rattle.pcc_driver.specs.declared.report.Report.TheVariants as reports
use Rattle.pcc_driver.proofs.Causes.{status_causes}
use Rattle.pcc_driver.proofs.Exact.{exact_status}
use Rattle.pcc_driver.proofs.Wanting.{wanting_caused, wanting_few, wanting_not_done, wanting_noticed, wanting_told}
use Rattle.pcc_driver.proofs.top.pcc.Goals as goal

abbrev meant : List (String Global) → Command
meant words = command_of (map string_bytes words)

pub carry_out-report-requires : goal.carry_out-report-requires
carry_out-report-requires g c =
    let e : meaning c.in-Ok.command ≡ meant c.as_slice.result.now = c.in-Ok.ensures in
    record { few = subst HasFewSources (sym e) (few (map string_bytes c.as_slice.result.now)) }

pub returns-in-Ok-clause-exact : goal.returns-in-Ok-clause-exact
returns-in-Ok-clause-exact g c =
    let e : meaning c.in-Ok.command ≡ meant c.args.words.now.items =
    c.in-Ok.ensures ∙ ap meant c.as_slice.ensures.value in
    let old : Outside = outside_of g.F.FileStore g.I.Source g.O.Sink g.E.Sink c.args.files.now c.args.input.now
    c.args.out.now c.args.err.now in
    let new : Outside = outside_of g.F.FileStore g.I.Source g.O.Sink g.E.Sink c.carry_out-report.new.files
    c.carry_out-report.new.input c.carry_out-report.new.out c.finish.new.err in
    rw (← e) (exact_status (meaning c.in-Ok.command) c.carry_out-report.result old new c.finish.result
    c.carry_out-report.ensures.cause c.carry_out-report.ensures.told c.finish.ensures.ends)

pub returns-in-Ok-clause-causes : goal.returns-in-Ok-clause-causes
returns-in-Ok-clause-causes g c =
    let e : meaning c.in-Ok.command ≡ meant c.args.words.now.items =
    c.in-Ok.ensures ∙ ap meant c.as_slice.ensures.value in
    let old : Outside = outside_of g.F.FileStore g.I.Source g.O.Sink g.E.Sink c.args.files.now c.args.input.now
    c.args.out.now c.args.err.now in
    let new : Outside = outside_of g.F.FileStore g.I.Source g.O.Sink g.E.Sink c.carry_out-report.new.files
    c.carry_out-report.new.input c.carry_out-report.new.out c.finish.new.err in
    rw (← e) (status_causes (meaning c.in-Ok.command) c.carry_out-report.result old new c.finish.result
    c.carry_out-report.ensures.cause c.carry_out-report.ensures.told c.finish.ensures.ends)

pub returns-in-Err-clause-statuses : goal.returns-in-Err-clause-statuses
returns-in-Err-clause-statuses g c =
    wanting_few (meant c.args.words.now.items) (output_of g.E.Sink c.args.err.now)
    (output_of g.E.Sink c.finish_wanting.new.err) c.finish_wanting.result
    (c.finish_wanting.ensures.ends (meant c.args.words.now.items) reports.NoMemory refl)

pub returns-in-Err-clause-headline : goal.returns-in-Err-clause-headline
returns-in-Err-clause-headline g c = λ name sources is f done.
    absurd (wanting_not_done (meant c.args.words.now.items) (output_of g.E.Sink c.args.err.now)
    (output_of g.E.Sink c.finish_wanting.new.err) c.finish_wanting.result
    (c.finish_wanting.ensures.ends (meant c.args.words.now.items) reports.NoMemory refl) done)

pub returns-in-Err-clause-exact : goal.returns-in-Err-clause-exact
returns-in-Err-clause-exact g c = λ enough quiet.
    let old : Outside = outside_of g.F.FileStore g.I.Source g.O.Sink g.E.Sink c.args.files.now c.args.input.now
    c.args.out.now c.args.err.now in
    let new : Outside = outside_of g.F.FileStore g.I.Source g.O.Sink g.E.Sink c.args.files.now c.args.input.now
    c.args.out.now c.finish_wanting.new.err in
    exact_status (meant c.args.words.now.items) reports.NoMemory old new c.finish_wanting.result
    (wanting_caused old.work) (wanting_told (meant c.args.words.now.items) old.work)
    (c.finish_wanting.ensures.ends (meant c.args.words.now.items) reports.NoMemory refl) enough quiet

pub returns-in-Err-clause-causes : goal.returns-in-Err-clause-causes
returns-in-Err-clause-causes g c =
    let old : Outside = outside_of g.F.FileStore g.I.Source g.O.Sink g.E.Sink c.args.files.now c.args.input.now
    c.args.out.now c.args.err.now in
    let new : Outside = outside_of g.F.FileStore g.I.Source g.O.Sink g.E.Sink c.args.files.now c.args.input.now
    c.args.out.now c.finish_wanting.new.err in
    status_causes (meant c.args.words.now.items) reports.NoMemory old new c.finish_wanting.result
    (wanting_caused old.work) (wanting_told (meant c.args.words.now.items) old.work)
    (c.finish_wanting.ensures.ends (meant c.args.words.now.items) reports.NoMemory refl)

pub returns-in-Err-clause-noticed : goal.returns-in-Err-clause-noticed
returns-in-Err-clause-noticed g c =
    let old : Outside = outside_of g.F.FileStore g.I.Source g.O.Sink g.E.Sink c.args.files.now c.args.input.now
    c.args.out.now c.args.err.now in
    wanting_noticed (meant c.args.words.now.items) old.work old.err (output_of g.E.Sink c.finish_wanting.new.err)
    c.finish_wanting.result (c.finish_wanting.ensures.ends (meant c.args.words.now.items) reports.NoMemory refl)

pub returns-in-Err-clause-answered : goal.returns-in-Err-clause-answered
returns-in-Err-clause-answered g c =
    let old : Outside = outside_of g.F.FileStore g.I.Source g.O.Sink g.E.Sink c.args.files.now c.args.input.now
    c.args.out.now c.args.err.now in (
      reports.NoMemory,
      wanting_caused old.work,
      wanting_told (meant c.args.words.now.items) old.work,
      c.finish_wanting.ensures.ends (meant c.args.words.now.items) reports.NoMemory refl,
    )

-- The report of a program that is evaluated, or of sources without one.
use Rattle.std.proofs.Common.{ℕ, List, map, refl}
use Rattle.c_tree.specs.Erased.{program_of}
use Rattle.pcc_driver.specs.Outside.{Work, work_of}
use Rattle.pcc_driver.proofs.EvalTold.{end_sources, end_told, none_sources, none_told}
use Rattle.pcc_driver.proofs.EvalStatus.{eval_status}
use Rattle.pcc_driver.proofs.evaluated.eval.Goals as goal

pub returns-in-Ok-clause-sources : goal.returns-in-Ok-clause-sources
returns-in-Ok-clause-sources g c = λ f.
    rw c.evaluation_report.ensures (end_sources c.args.turns c.eval-end.result
    (g.F.FileStore.content c.args.files.now) (map (λ s. s.now) c.args.sources.now) (program_of c.in-Ok.program)
    (c.in-Ok.ensures.told f))

pub returns-in-Ok-clause-told : goal.returns-in-Ok-clause-told
returns-in-Ok-clause-told g c = λ f i o.
    let old : Work = work_of g.F.FileStore g.I.Source g.O.Sink c.args.files.now c.args.input.now c.args.out.now in
    let new : Work = work_of g.F.FileStore g.I.Source g.O.Sink c.program_of_sources.new.files c.eval-end.new.input
    c.eval-end.new.out in
    rw c.evaluation_report.ensures (end_told c.args.turns c.eval-end.result (map (λ s. s.now) c.args.sources.now) old
    new
    (program_of c.in-Ok.program) (c.in-Ok.ensures.told f) (c.eval-end.ensures.told i o))

pub returns-in-Err-clause-sources : goal.returns-in-Err-clause-sources
returns-in-Err-clause-sources g c = λ f.
    none_sources (g.F.FileStore.content c.args.files.now) (map (λ s. s.now) c.args.sources.now) c.in-Err.report
    (c.in-Err.ensures.told f)

pub returns-in-Err-clause-told : goal.returns-in-Err-clause-told
returns-in-Err-clause-told g c = λ f i o.
    let old : Work = work_of g.F.FileStore g.I.Source g.O.Sink c.args.files.now c.args.input.now c.args.out.now in
    let new : Work = work_of g.F.FileStore g.I.Source g.O.Sink c.program_of_sources.new.files c.args.input.now
    c.args.out.now in
    none_told c.args.turns (map (λ s. s.now) c.args.sources.now) old new c.in-Err.report (c.in-Err.ensures.told f)
    (refl, refl)

use Rattle.std.proofs.Common.{Some, None}
use Rattle.std.proofs.lemmas.Result.{err_from_is_err_and}
use Rattle.c_eval_state.specs.Changes.{doing}
use Rattle.c_eval_state.specs.Left.{left_of}
use Rattle.c_eval_laws.specs.Tasks.{Evaluates}
use Rattle.c_tree.specs.Erased.{expression_of, program_of}
use Rattle.c_eval.specs.AtOnce.{Shortened}
use Rattle.c_eval.specs.Standing.{before_task, standing, streams_of}
use Rattle.c_eval.proofs.Advancing.{wants_memory}
use Rattle.c_eval.proofs.Reaching.{advanced_shortened, reached_steps, shortened_fits}
use Rattle.c_eval.proofs.ahead.advance_expression.Goals as goal

pub returns-in_err-task : goal.returns-in_err-task
returns-in_err-task g c =
    let p = err_from_is_err_and c.from_residual.result c.from_residual.ensures.1 in
    rw (p.1, p.2) (wants_memory (program_of c.args.program.now)
    (doing (Evaluates (expression_of c.args.e.now)) (left_of c.args.left.now)) (left_of c.shorten.new.left)
    c.args.store.now c.args.store.now (streams_of g.I.Source g.O.Sink c.args.input.now c.args.out.now))

pub advance_by_step-requires-clause-fits : goal.advance_by_step-requires-clause-fits
advance_by_step-requires-clause-fits g c =
    let h : Shortened (expression_of c.args.e.now) c.args.store.now (left_of c.args.left.now)
    (left_of c.shorten.new.left) (Some c.in-Some.task) = rw c.in-Some.is at c.in_ok-task.ensures in
    shortened_fits (program_of c.args.program.now) (expression_of c.args.e.now) c.in-Some.task c.args.store.now
    (left_of c.args.left.now) (left_of c.shorten.new.left) c.requires.fits h

pub returns-in-Some : goal.returns-in-Some
returns-in-Some g c =
    let h : Shortened (expression_of c.args.e.now) c.args.store.now (left_of c.args.left.now)
    (left_of c.shorten.new.left) (Some c.in-Some.task) = rw c.in-Some.is at c.in_ok-task.ensures in
    advanced_shortened (program_of c.args.program.now) (expression_of c.args.e.now) c.in-Some.task
    (standing g.I.Source g.O.Sink (left_of c.args.left.now) c.args.store.now c.args.input.now c.args.out.now)
    (standing g.I.Source g.O.Sink (left_of c.advance_by_step.new.left) c.advance_by_step.new.store
    c.advance_by_step.new.input c.advance_by_step.new.out) (left_of c.shorten.new.left) c.advance_by_step.result
    c.requires.fits h c.advance_by_step.ensures

pub returns-in-None : goal.returns-in-None
returns-in-None g c =
    let p = program_of c.args.program.now in
    let h : Shortened (expression_of c.args.e.now) c.args.store.now (left_of c.args.left.now)
    (left_of c.shorten.new.left) None = rw c.in-None.is at c.in_ok-task.ensures in
    reached_steps p (before_task (Evaluates (expression_of c.args.e.now))
    (standing g.I.Source g.O.Sink (left_of c.args.left.now) c.args.store.now c.args.input.now c.args.out.now))
    (left_of c.shorten.new.left) c.requires.fits (h p)

use Rattle.std.proofs.Common.{◌≢◌, ◌∙◌, ap, rules, arith}
use Rattle.std.proofs.lemmas.Result.{err_from_is_err_and}
use Rattle.c_eval_state.specs.Left.{left_of}
use Rattle.c_eval_state.specs.Views.{task_of}
use Rattle.c_eval_laws.specs.Steps.{Configuration}
use Rattle.c_eval_laws.specs.Tasks.{Ahead, top}
use Rattle.c_tree.specs.Erased.{program_of}
use Rattle.c_tree.specs.Evaluation.{low_byte}
use Rattle.c_tree.specs.Store.{Held}
use Rattle.c_eval.specs.Standing.{streams_of}
use Rattle.c_eval.proofs.Advancing.{wants_memory}
use Rattle.c_eval.proofs.Taking.{none_left, task_passed}
use Rattle.c_eval.proofs.step.advance.Goals as goal

pub returns-in_err-pass-in-Breaking : goal.returns-in_err-pass-in-Breaking
returns-in_err-pass-in-Breaking g c =
    let p = err_from_is_err_and c.from_residual.result c.from_residual.ensures.1 in
    rw (p.1, p.2) (wants_memory (program_of c.args.program.now) (left_of c.args.left.now) (left_of c.pass.new.left)
    c.args.store.now c.pass.new.store (streams_of g.I.Source g.O.Sink c.args.input.now c.args.out.now))

pub returns-in-None : goal.returns-in-None
returns-in-None g c = none_left (program_of c.args.program.now) (left_of c.args.left.now)
    (left_of c.take_value.new.self) c.args.store.now
    (streams_of g.I.Source g.O.Sink c.args.input.now c.args.out.now) c.low_byte.result c.in-None.ensures.0
    (c.low_byte.ensures ∙ ap (λ (v : Held). low_byte v) (c.take_value.ensures.value
    ∙ ap (λ (d : Configuration). top d.values) c.in-None.ensures.1))

pub returns-in_ok-pass-in-Breaking : goal.returns-in_ok-pass-in-Breaking
returns-in_ok-pass-in-Breaking g c =
    let other : (left_of c.take_task.new.self).way ≢ Ahead = first_of (search rules, grind arith) in
    task_passed (program_of c.args.program.now) (task_of c.in-Some.task) (left_of c.args.left.now)
    (left_of c.take_task.new.self) (left_of c.pass.new.left) c.args.store.now c.pass.new.store
    (streams_of g.I.Source g.O.Sink c.args.input.now c.args.out.now) c.in-Some.ensures other c.requires
    c.in_ok-pass-in-Breaking.ensures

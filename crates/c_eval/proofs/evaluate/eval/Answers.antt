use Rattle.c_eval_state.specs.Left.{left_of}
use Rattle.c_tree.specs.Erased.{program_of}
use Rattle.c_eval.specs.Standing.{standing, streams_of}
use Rattle.c_eval.proofs.Starting.{eval_told, first_fits, none_told, wanting_told}
use Rattle.c_eval.proofs.evaluate.eval.Goals as goal

pub returns-in-Err-clause-told : goal.returns-in-Err-clause-told
returns-in-Err-clause-told g c = λ _ _. wanting_told (program_of c.args.program.now) c.args.turns
    (g.I.Source.left c.args.input.now) (g.O.Sink.taken c.args.out.now)

pub run-requires : goal.run-requires
run-requires g c =
    let started = rw c.in-Ok-Some.field-0-is at c.in-Ok-Some.ensures in
    first_fits (program_of c.args.program.now) started.0 (left_of c.in-Ok-Some.left) started.1

pub returns-in-Ok-Some-clause-told : goal.returns-in-Ok-Some-clause-told
returns-in-Ok-Some-clause-told g c = λ input out.
    let started = rw c.in-Ok-Some.field-0-is at c.in-Ok-Some.ensures in
    eval_told (program_of c.args.program.now) c.args.turns c.run.result started.0 (left_of c.in-Ok-Some.left)
    c.in-Ok.store (streams_of g.I.Source g.O.Sink c.args.input.now c.args.out.now)
    (standing g.I.Source g.O.Sink (left_of c.run.new.left) c.run.new.store c.run.new.input c.run.new.out)
    started.1 (c.in-Ok.ensures (g.I.Source.left c.args.input.now) c.args.turns) c.run.ensures input out

pub returns-in-Ok-None-clause-told : goal.returns-in-Ok-None-clause-told
returns-in-Ok-None-clause-told g c = λ _ _. none_told (program_of c.args.program.now) c.args.turns
    (g.I.Source.left c.args.input.now) (g.O.Sink.taken c.args.out.now)
    (rw c.in-Ok-None.field-0-is at c.in-Ok-None.ensures)

pub returns-clause-told : goal.returns-clause-told
returns-clause-told g c = λ _ _. wanting_told (program_of c.args.program.now) c.args.turns
    (g.I.Source.left c.args.input.now) (g.O.Sink.taken c.args.out.now)

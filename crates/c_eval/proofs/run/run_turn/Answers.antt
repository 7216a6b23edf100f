use Rattle.std.proofs.lemmas.Result.{err_from_is_err_and}
use Rattle.c_eval_state.specs.Left.{left_of}
use Rattle.c_tree.specs.Erased.{program_of}
use Rattle.c_eval.specs.Standing.{Meets, standing}
use Rattle.c_eval.proofs.Turning.{stops_at, turn_ready, turned}
use Rattle.c_eval.proofs.run.run_turn.Goals as goal

pub returns-in_err-turn : goal.returns-in_err-turn
returns-in_err-turn g c =
    let p = err_from_is_err_and c.from_residual.result c.from_residual.ensures.1 in
    rw (p.1, p.2) (stops_at (program_of c.args.program.now) c.args.rest c.in_err-turn.field-0.0
    (standing g.I.Source g.O.Sink (left_of c.args.left.now) c.args.store.now c.args.input.now c.args.out.now)
    (standing g.I.Source g.O.Sink (left_of c.next_turn.new.left) c.next_turn.new.store c.next_turn.new.input
    c.next_turn.new.out) c.in_err-turn.ensures)

pub begin-requires-clause-ready : goal.begin-requires-clause-ready
begin-requires-clause-ready g c =
    let m : Meets (program_of c.args.program.now) c.in_ok-turn.turn
    (standing g.I.Source g.O.Sink (left_of c.args.left.now) c.args.store.now c.args.input.now c.args.out.now)
    (standing g.I.Source g.O.Sink (left_of c.next_turn.new.left) c.next_turn.new.store c.next_turn.new.input
    c.next_turn.new.out) = c.in_ok-turn.ensures in
    turn_ready (program_of c.args.program.now) c.in_ok-turn.turn m.task (left_of c.next_turn.new.left) m.is_turn
    m.ahead m.fits

pub returns : goal.returns
returns g c = turned (program_of c.args.program.now) c.in_ok-turn.turn c.args.rest
    (standing g.I.Source g.O.Sink (left_of c.args.left.now) c.args.store.now c.args.input.now c.args.out.now)
    (standing g.I.Source g.O.Sink (left_of c.next_turn.new.left) c.next_turn.new.store c.next_turn.new.input
    c.next_turn.new.out) (left_of c.begin.new.left) c.begin.new.store c.begin.result c.in_ok-turn.ensures
    c.begin.ensures

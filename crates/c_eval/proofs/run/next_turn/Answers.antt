use Rattle.c_eval_state.specs.Left.{left_of}
use Rattle.c_tree.specs.Erased.{program_of}
use Rattle.c_eval.specs.Standing.{standing}
use Rattle.c_eval.proofs.Walking.{walks_stops}
use Rattle.c_eval.proofs.run.next_turn.Goals as goal

pub returns-in-Err : goal.returns-in-Err
returns-in-Err g c = walks_stops (program_of c.args.program.now) c.in-Err.end
    (standing g.I.Source g.O.Sink (left_of c.args.left.now) c.args.store.now c.args.input.now c.args.out.now)
    (standing g.I.Source g.O.Sink (left_of c.steps.left) c.steps.store c.steps.input c.steps.out)
    (standing g.I.Source g.O.Sink (left_of c.advance.new.left) c.advance.new.store c.advance.new.input
    c.advance.new.out) c.steps.invariant c.in-Err.ensures

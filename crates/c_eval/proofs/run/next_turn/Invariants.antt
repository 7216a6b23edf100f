use Rattle.c_tree.specs.Erased.{program_of}
use Rattle.c_eval_laws.specs.Weights.{weights}
use Rattle.c_eval_state.specs.Left.{left_of}
use Rattle.c_eval.specs.Standing.{standing}
use Rattle.c_eval.proofs.Walking.{Walks}
use Rattle.c_eval.proofs.run.next_turn.Given as goal

-- the steps so far
abbrev pub invariant-steps : goal.invariant-steps
invariant-steps g l = Walks (program_of l.program)
    (standing g.I.Source g.O.Sink (left_of l.fn.left) l.fn.store l.fn.input l.fn.out)
    (standing g.I.Source g.O.Sink (left_of l.left) l.store l.input l.out)

abbrev pub decreases-steps : goal.decreases-steps
decreases-steps g l = weights (left_of l.left).tasks

use Rattle.c_tree.specs.Erased.{program_of}
use Rattle.c_eval_state.specs.Left.{left_of}
use Rattle.c_eval.specs.Standing.{standing}
use Rattle.c_eval.proofs.Turning.{Runs}
use Rattle.c_eval.proofs.run.run.Given as goal

-- the turns so far
abbrev pub invariant-turns : goal.invariant-turns
invariant-turns g l = Runs (program_of l.program) l.turns l.rest
    (standing g.I.Source g.O.Sink (left_of l.fn.left) l.fn.store l.fn.input l.fn.out)
    (standing g.I.Source g.O.Sink (left_of l.left) l.store l.input l.out)

abbrev pub decreases-turns : goal.decreases-turns
decreases-turns g l = l.rest

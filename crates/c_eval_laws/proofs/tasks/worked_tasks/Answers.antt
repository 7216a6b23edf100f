-- The steps are computed, with the wrapping of conversions and sums.
use Rattle.std.proofs.Common.{refl}
use Rattle.std.specs.Int.{int_wrap}
use Rattle.c_eval_laws.proofs.tasks.worked_tasks.Goals as goal

pub returns-clause-status : goal.returns-clause-status
unfolding int_wrap
returns-clause-status c = refl

pub returns-clause-written : goal.returns-clause-written
unfolding int_wrap
returns-clause-written c = refl

pub returns-clause-steps : goal.returns-clause-steps
unfolding int_wrap
returns-clause-steps c = refl

pub returns-clause-before : goal.returns-clause-before
unfolding int_wrap
returns-clause-before c = refl

pub returns-clause-goes : goal.returns-clause-goes
unfolding int_wrap
returns-clause-goes c = refl

pub returns-clause-turns : goal.returns-clause-turns
unfolding int_wrap
returns-clause-turns c = refl

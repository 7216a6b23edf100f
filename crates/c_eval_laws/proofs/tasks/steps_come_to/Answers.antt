use Rattle.c_eval_laws.proofs.Corollaries.{steps_end, steps_go_on}
use Rattle.c_eval_laws.proofs.tasks.steps_come_to.Goals as goal

pub returns-clause-on : goal.returns-clause-on
returns-clause-on c = steps_go_on

pub returns-clause-end : goal.returns-clause-end
returns-clause-end c = steps_end

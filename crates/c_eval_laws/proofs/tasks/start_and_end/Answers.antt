use Rattle.c_eval_laws.proofs.Starting.{is_end, starts}
use Rattle.c_eval_laws.proofs.tasks.start_and_end.Goals as goal

pub returns-clause-start : goal.returns-clause-start
returns-clause-start c = starts

pub returns-clause-end : goal.returns-clause-end
returns-clause-end c = is_end

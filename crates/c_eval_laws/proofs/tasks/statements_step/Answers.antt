use Rattle.c_eval_laws.proofs.Statements.{statements_step}
use Rattle.c_eval_laws.proofs.tasks.statements_step.Goals as goal

pub returns : goal.returns
returns c = statements_step

use Rattle.c_eval_laws.proofs.Expressions.{expressions_step}
use Rattle.c_eval_laws.proofs.tasks.expressions_step.Goals as goal

pub returns : goal.returns
returns c = expressions_step

use Rattle.flow_liveness.proofs.Naming.{before_is_not_after, one_after, one_before}
use Rattle.flow_liveness.proofs.form_laws.names_are_fresh.Goals as goal

pub returns-clause-before : goal.returns-clause-before
returns-clause-before c = one_before

pub returns-clause-after : goal.returns-clause-after
returns-clause-after c = one_after

pub returns-clause-apart : goal.returns-clause-apart
returns-clause-apart c = before_is_not_after

use Rattle.flow_liveness.proofs.Fitting.{first_fits, step_fits}
use Rattle.flow_liveness.proofs.Outcomes.{form_keeps_outcome}
use Rattle.flow_liveness.proofs.form_laws.form_keeps_meaning.Goals as goal

pub returns-clause-first : goal.returns-clause-first
returns-clause-first c = first_fits

pub returns-clause-steps : goal.returns-clause-steps
returns-clause-steps c = step_fits

pub returns-clause-outcome : goal.returns-clause-outcome
returns-clause-outcome c = form_keeps_outcome

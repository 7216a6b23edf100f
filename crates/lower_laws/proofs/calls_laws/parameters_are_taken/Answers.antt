use Rattle.lower_laws.proofs.Parameters.{parameters-taken}
use Rattle.lower_laws.proofs.calls_laws.parameters_are_taken.Goals as goal

pub returns : goal.returns
returns c = parameters-taken

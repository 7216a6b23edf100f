use Rattle.lower_laws.proofs.Numbering.{statements-own}
use Rattle.lower_laws.proofs.calls_laws.statements_are_own.Goals as goal

pub returns : goal.returns
returns c = statements-own

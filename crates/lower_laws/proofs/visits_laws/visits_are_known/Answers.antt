use Rattle.lower_laws.proofs.VisitsCalls.{visits-known}
use Rattle.lower_laws.proofs.visits_laws.visits_are_known.Goals as goal

pub returns : goal.returns
returns c = visits-known c.statements_are_own.ensures

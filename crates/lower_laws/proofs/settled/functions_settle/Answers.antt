use Rattle.lower_laws.proofs.SettledFunctions.{functions-settle}
use Rattle.lower_laws.proofs.settled.functions_settle.Goals as goal

pub returns : goal.returns
returns c = functions-settle

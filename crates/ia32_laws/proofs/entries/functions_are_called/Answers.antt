use Rattle.ia32_laws.proofs.EntriesCalling.{call-comes}
use Rattle.ia32_laws.proofs.entries.functions_are_called.Goals as goal

pub returns : goal.returns
returns c = record { call = call-comes }

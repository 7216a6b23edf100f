use Rattle.ia32_laws.proofs.Returning.{return-follows}
use Rattle.ia32_laws.proofs.entries.functions_return.Goals as goal

pub returns : goal.returns
returns c = record { returns = return-follows }

use Rattle.ia32_laws.proofs.ClearsFollowing.{row-follows}
use Rattle.ia32_laws.proofs.clears.clears_are_followed.Goals as goal

pub returns : goal.returns
returns c = record { clear = row-follows }

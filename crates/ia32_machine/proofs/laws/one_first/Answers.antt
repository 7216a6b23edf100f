use Rattle.ia32_machine.proofs.First.{first-one}
use Rattle.ia32_machine.proofs.laws.one_first.Goals as goal

pub returns : goal.returns
returns c = first-one

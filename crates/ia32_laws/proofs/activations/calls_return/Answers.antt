use Rattle.ia32_laws.proofs.Leaving.{leave-comes, return-comes}
use Rattle.ia32_laws.proofs.activations.calls_return.Goals as goal

pub returns-clause-value : goal.returns-clause-value
returns-clause-value c = return-comes

pub returns-clause-none : goal.returns-clause-none
returns-clause-none c = leave-comes

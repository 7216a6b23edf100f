use Rattle.std.proofs.Common.{rules}
use Rattle.ia32_machine.proofs.operations.add.Goals as goal

pub returns-clause-value : goal.returns-clause-value
returns-clause-value c = search rules

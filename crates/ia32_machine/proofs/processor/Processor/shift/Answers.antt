use Rattle.std.proofs.Common.{rules}
use Rattle.ia32_machine.proofs.processor.Processor.shift.Goals as goal

pub returns : goal.returns
returns c = search rules

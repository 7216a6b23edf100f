use Rattle.ia32_machine.proofs.Kept.{instruction-keeps}
use Rattle.ia32_machine.proofs.code_laws.instruction_keeps_code.Goals as goal

pub returns : goal.returns
returns c = instruction-keeps

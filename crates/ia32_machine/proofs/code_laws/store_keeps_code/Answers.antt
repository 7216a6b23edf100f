use Rattle.ia32_machine.proofs.Kept.{store-keeps}
use Rattle.ia32_machine.proofs.code_laws.store_keeps_code.Goals as goal

pub returns : goal.returns
returns c = store-keeps

use Rattle.ia32_select.proofs.Whole.{few-blocks}
use Rattle.ia32_select.proofs.size_laws.blocks_are_few.Goals as goal

pub returns : goal.returns
returns c = few-blocks

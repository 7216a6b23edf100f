use Rattle.lower_laws.proofs.Sequences.{empty-blocks-lower}
use Rattle.lower_laws.proofs.statements_laws.empty_blocks_lower.Goals as goal

pub returns : goal.returns
returns c = empty-blocks-lower

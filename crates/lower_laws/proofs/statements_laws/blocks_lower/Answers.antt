use Rattle.lower_laws.proofs.Sequences.{blocks-lower}
use Rattle.lower_laws.proofs.statements_laws.blocks_lower.Goals as goal

pub returns : goal.returns
returns c = blocks-lower

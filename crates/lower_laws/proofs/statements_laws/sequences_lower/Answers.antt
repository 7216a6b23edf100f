use Rattle.lower_laws.proofs.Sequences.{sequences-lower}
use Rattle.lower_laws.proofs.statements_laws.sequences_lower.Goals as goal

pub returns : goal.returns
returns c = sequences-lower

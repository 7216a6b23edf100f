use Rattle.lower_laws.proofs.Copying.{texts-lower}
use Rattle.lower_laws.proofs.statements_laws.texts_lower.Goals as goal

pub returns : goal.returns
returns c = texts-lower

use Rattle.lower_laws.proofs.Assigning.{assigns-lower}
use Rattle.lower_laws.proofs.expressions_laws.assigns_lower.Goals as goal

pub returns : goal.returns
returns c = assigns-lower

use Rattle.lower_laws.proofs.WholePassing.{arguments-pass}
use Rattle.lower_laws.proofs.whole.all_arguments_pass.Goals as goal

pub returns : goal.returns
returns c = arguments-pass

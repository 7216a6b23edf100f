use Rattle.std.proofs.Common.{refl}
use Rattle.lower_lines.proofs.bounds.objects_hold.Goals as goal

pub returns : goal.returns
returns c = λ p. refl

use Rattle.ia32_laws.proofs.Follows.{steps-follow}
use Rattle.ia32_laws.proofs.standing_laws.steps_are_followed.Goals as goal

pub returns : goal.returns
returns c = steps-follow

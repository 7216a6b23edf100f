use Rattle.lower_laws.proofs.ExpressionPassing.{numbers-pass}
use Rattle.lower_laws.proofs.expressions_laws.numbers_pass.Goals as goal

pub returns : goal.returns
returns c = numbers-pass

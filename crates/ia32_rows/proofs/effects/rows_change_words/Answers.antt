use Rattle.ia32_rows.proofs.Unary.{complement-puts, extension-puts, negation-puts, zero_extension-puts}
use Rattle.ia32_rows.proofs.effects.rows_change_words.Goals as goal

pub returns-clause-negation : goal.returns-clause-negation
returns-clause-negation c = negation-puts

pub returns-clause-complement : goal.returns-clause-complement
returns-clause-complement c = complement-puts

pub returns-clause-extension : goal.returns-clause-extension
returns-clause-extension c = extension-puts

pub returns-clause-zero_extension : goal.returns-clause-zero_extension
returns-clause-zero_extension c = zero_extension-puts

use Rattle.ia32_laws.proofs.Dividing.{division-stops, quotient-puts, remainder-puts}
use Rattle.ia32_laws.proofs.cores.rows_divide_words.Goals as goal

pub returns-clause-stops : goal.returns-clause-stops
returns-clause-stops c = division-stops

pub returns-clause-quotient : goal.returns-clause-quotient
returns-clause-quotient c = quotient-puts

pub returns-clause-remainder : goal.returns-clause-remainder
returns-clause-remainder c = remainder-puts

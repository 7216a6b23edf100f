use Rattle.ia32_laws.proofs.Halves.{half-puts, low-puts}
use Rattle.ia32_laws.proofs.Shifts.{shift-puts}
use Rattle.ia32_laws.proofs.cores.rows_of_words.Goals as goal

pub returns-clause-low : goal.returns-clause-low
returns-clause-low c = low-puts

pub returns-clause-half : goal.returns-clause-half
returns-clause-half c = half-puts

pub returns-clause-shift : goal.returns-clause-shift
returns-clause-shift c = shift-puts

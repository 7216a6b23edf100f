use Rattle.lower_laws.proofs.Parameters.{words-read}
use Rattle.lower_laws.proofs.calls_laws.words_are_read.Goals as goal

pub returns : goal.returns
returns c = words-read

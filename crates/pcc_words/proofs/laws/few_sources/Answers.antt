-- Words mean a command of few sources.
use Rattle.pcc_words.proofs.Few.{few}
use Rattle.pcc_words.proofs.laws.few_sources.Goals as goal

pub returns : goal.returns
returns c = few

use Rattle.ia32_laws.proofs.Passing.{word-passes}
use Rattle.ia32_laws.proofs.cores.rows_pass_words.Goals as goal

pub returns : goal.returns
returns c = word-passes

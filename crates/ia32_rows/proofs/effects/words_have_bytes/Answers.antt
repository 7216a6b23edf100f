use Rattle.ia32_rows.proofs.Lowest.{lowest-bytes}
use Rattle.ia32_rows.proofs.effects.words_have_bytes.Goals as goal

pub returns : goal.returns
returns c = lowest-bytes

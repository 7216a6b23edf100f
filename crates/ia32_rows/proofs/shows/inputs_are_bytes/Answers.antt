use Rattle.ia32_rows.proofs.Worked.{inputs-are-bytes}
use Rattle.ia32_rows.proofs.shows.inputs_are_bytes.Goals as goal

pub returns : goal.returns
returns c = inputs-are-bytes

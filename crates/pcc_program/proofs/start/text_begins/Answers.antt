use Rattle.pcc_program.proofs.Areas.{text_begins}
use Rattle.pcc_program.proofs.start.text_begins.Goals as goal

pub returns : goal.returns
returns c = text_begins

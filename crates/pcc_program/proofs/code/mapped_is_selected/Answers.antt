use Rattle.pcc_program.proofs.Selected.{mapped-is-selected}
use Rattle.pcc_program.proofs.code.mapped_is_selected.Goals as goal

pub returns : goal.returns
returns c = mapped-is-selected

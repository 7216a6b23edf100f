use Rattle.ia32_select.proofs.Whole.{selected-code}
use Rattle.ia32_select.proofs.size_laws.selected_is_code.Goals as goal

pub returns : goal.returns
returns c = selected-code

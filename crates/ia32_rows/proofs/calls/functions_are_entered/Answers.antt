use Rattle.ia32_rows.proofs.Prologue.{prologue-goes}
use Rattle.ia32_rows.proofs.calls.functions_are_entered.Goals as goal

pub returns : goal.returns
returns c = prologue-goes

use Rattle.ia32_rows.proofs.Ending.{ending-halts}
use Rattle.ia32_rows.proofs.calls.endings_halt.Goals as goal

pub returns : goal.returns
returns c = ending-halts

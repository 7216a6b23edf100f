use Rattle.ia32_rows.proofs.Worked.{waiting-calls, oldest-is-main}
use Rattle.ia32_rows.proofs.shows.calls_wait.Goals as goal

pub returns : goal.returns
returns c = record { waiting = waiting-calls; oldest = oldest-is-main }

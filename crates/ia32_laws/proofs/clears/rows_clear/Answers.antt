use Rattle.ia32_laws.proofs.Clearing.{clear-goes}
use Rattle.ia32_laws.proofs.clears.rows_clear.Goals as goal

pub returns : goal.returns
returns c = record { clears = clear-goes }

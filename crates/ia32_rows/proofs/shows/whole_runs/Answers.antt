use Rattle.ia32_rows.proofs.Along.{whole_runs}
use Rattle.ia32_rows.proofs.shows.whole_runs.Goals as goal

pub returns : goal.returns
returns c = whole_runs

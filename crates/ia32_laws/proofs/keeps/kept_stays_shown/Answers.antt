use Rattle.ia32_laws.proofs.Shown.{moved-shows, set-shows}
use Rattle.ia32_laws.proofs.keeps.kept_stays_shown.Goals as goal

pub returns-clause-moved : goal.returns-clause-moved
returns-clause-moved c = moved-shows

pub returns-clause-set : goal.returns-clause-set
returns-clause-set c = set-shows

use Rattle.ia32_laws.proofs.Functions.{function-stands, starts-stand}
use Rattle.ia32_laws.proofs.Points.{entries-stand}
use Rattle.ia32_laws.proofs.standing_laws.functions_stand.Goals as goal

pub returns-clause-functions : goal.returns-clause-functions
returns-clause-functions c = function-stands

pub returns-clause-entries : goal.returns-clause-entries
returns-clause-entries c = entries-stand

pub returns-clause-start : goal.returns-clause-start
returns-clause-start c = starts-stand

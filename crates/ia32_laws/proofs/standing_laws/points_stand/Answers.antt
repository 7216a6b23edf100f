use Rattle.ia32_laws.proofs.Points.{points-stand, rows-stand, labels-stand}
use Rattle.ia32_laws.proofs.standing_laws.points_stand.Goals as goal

pub returns-clause-points : goal.returns-clause-points
returns-clause-points c = points-stand

pub returns-clause-rows : goal.returns-clause-rows
returns-clause-rows c = rows-stand

pub returns-clause-blocks : goal.returns-clause-blocks
returns-clause-blocks c = labels-stand

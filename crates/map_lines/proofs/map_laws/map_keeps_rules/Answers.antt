use Rattle.map_lines.proofs.HomesRules.{keeps-rules}
use Rattle.map_lines.proofs.map_laws.map_keeps_rules.Goals as goal

pub returns : goal.returns
returns c = keeps-rules c.points_stand.ensures.points

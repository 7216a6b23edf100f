use Rattle.map_lines.proofs.HomesBelonging.{belongs}
use Rattle.map_lines.proofs.map_laws.map_belongs.Goals as goal

pub returns : goal.returns
returns c = belongs c.points_are_apart.ensures.nops

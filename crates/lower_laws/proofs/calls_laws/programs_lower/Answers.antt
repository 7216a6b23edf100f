use Rattle.lower_laws.proofs.Programs.{programs-lower}
use Rattle.lower_laws.proofs.calls_laws.programs_lower.Goals as goal

pub returns : goal.returns
returns c = programs-lower c.all_lines_close.ensures c.bodies_lower.ensures

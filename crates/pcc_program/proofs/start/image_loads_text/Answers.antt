-- The areas one by one.
use Rattle.pcc_program.proofs.Areas.{areas_are}
use Rattle.pcc_program.proofs.start.image_loads_text.Goals as goal

pub returns-clause-memory : goal.returns-clause-memory
returns-clause-memory c = areas_are

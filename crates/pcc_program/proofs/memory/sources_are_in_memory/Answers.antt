use Rattle.pcc_program.proofs.Files.{sources_are_in_memory}
use Rattle.pcc_program.proofs.memory.sources_are_in_memory.Goals as goal

pub returns : goal.returns
returns c = sources_are_in_memory

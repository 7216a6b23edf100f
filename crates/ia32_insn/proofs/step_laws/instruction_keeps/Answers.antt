use Rattle.ia32_insn.proofs.Kept.{instruction-areas, instruction-memory, instruction-streams}
use Rattle.ia32_insn.proofs.step_laws.instruction_keeps.Goals as goal

pub returns-clause-areas : goal.returns-clause-areas
returns-clause-areas c = instruction-areas

pub returns-clause-memory : goal.returns-clause-memory
returns-clause-memory c = instruction-memory

pub returns-clause-streams : goal.returns-clause-streams
returns-clause-streams c = instruction-streams

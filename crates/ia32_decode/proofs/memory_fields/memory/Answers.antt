use Rattle.std.proofs.Common.{rules}
use Rattle.ia32_insn.specs.Reading.{read_memory}
use Rattle.ia32_decode.proofs.memory_fields.memory.Goals as goal

pub returns-then-number-eq4-clause-same : goal.returns-then-number-eq4-clause-same
unfolding read_memory
returns-then-number-eq4-clause-same c = search rules

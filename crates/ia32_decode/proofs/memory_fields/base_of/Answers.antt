use Rattle.std.proofs.Common.{rules}
use Rattle.ia32_insn.specs.Reading.{read_base}
use Rattle.ia32_decode.proofs.memory_fields.base_of.Goals as goal

pub returns-then-number-eq5 : goal.returns-then-number-eq5
unfolding read_base
returns-then-number-eq5 c = search rules

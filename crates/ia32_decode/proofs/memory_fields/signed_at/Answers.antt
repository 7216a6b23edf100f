use Rattle.std.proofs.Common.{arith}
use Rattle.std.proofs.lemmas.Grind.{common_steps}
use Rattle.ia32_insn.specs.Reading.{read_signed}
use Rattle.ia32_decode.proofs.memory_fields.signed_at.Goals as goal

pub returns-then-size-eq1 : goal.returns-then-size-eq1
unfolding read_signed
returns-then-size-eq1 c = grind (arith, common_steps)

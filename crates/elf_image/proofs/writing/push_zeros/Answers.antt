-- What is there is kept whole, and the zeros follow.
use Rattle.std.proofs.Common.{arith}
use Rattle.std.proofs.lemmas.Grind.{common_steps}
use Rattle.pcc_base.specs.Bytes.{zeros}
use Rattle.elf_image.proofs.writing.push_zeros.Goals as goal

pub returns : goal.returns
unfolding zeros
returns c = grind (arith, common_steps)

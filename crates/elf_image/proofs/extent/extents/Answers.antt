use Rattle.std.proofs.Common.{arith}
use Rattle.std.proofs.lemmas.Grind.{common_steps}
use Rattle.elf_image.proofs.extent.extents.Goals as goal

pub loop-segment-preserved : goal.loop-segment-preserved
loop-segment-preserved c = grind (arith, common_steps)

pub returns : goal.returns
returns c = grind (arith, common_steps)

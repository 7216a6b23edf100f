-- The length of an image, by its parts.
use Rattle.std.proofs.Common.{arith}
use Rattle.elf_image.proofs.Front.{length-image}
use Rattle.elf_image.proofs.laws.image_parts_lie_in_file.Goals as goal

pub returns-clause-text_part : goal.returns-clause-text_part
returns-clause-text_part c = λ parts _. omega (arith, length-image parts)

pub returns-clause-data_part : goal.returns-clause-data_part
returns-clause-data_part c = λ parts _. omega (arith, length-image parts)

-- The lengths of the four parts, and those of the text and the zeros after it, whole pages.
use Rattle.elf_image.proofs.Front.{length-image}
use Rattle.elf_image.proofs.laws.image_length.Goals as goal

pub returns : goal.returns
returns c = λ parts _. length-image parts

-- Each field of the headers is read back.
use Rattle.elf_image.proofs.Loading.{loads-image}
use Rattle.elf_image.proofs.laws.image_loads.Goals as goal

pub returns : goal.returns
returns c = loads-image

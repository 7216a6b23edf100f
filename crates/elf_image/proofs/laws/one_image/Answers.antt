-- The parts of an image are found in its bytes, so two images of the same bytes have the same parts.
use Rattle.elf_image.proofs.Loading.{loads-one}
use Rattle.elf_image.proofs.laws.one_image.Goals as goal

pub returns : goal.returns
returns c = loads-one

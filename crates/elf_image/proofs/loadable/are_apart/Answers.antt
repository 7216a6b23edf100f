-- Segments are apart exactly where their memory is.
use Rattle.elf_image.proofs.Apart.{memory-apart}
use Rattle.elf_image.proofs.loadable.are_apart.Goals as goal

pub returns : goal.returns
returns c =
    memory-apart c.args.segments.now c.in_ok-extents.field-0.items c.are_distinct.result c.in_ok-extents.ensures
    c.are_distinct.ensures

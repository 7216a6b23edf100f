-- The memory that segments take, without their bytes.
use Rattle.elf_image.specs.declared.distinct.Extent.{Extent}
use Rattle.elf_image.specs.declared.loaded.Segment.{Segment}

abbrev pub extent_of : Segment → Extent
extent_of segment = record { address = segment.addr; size = segment.size }

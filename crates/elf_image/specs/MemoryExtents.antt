-- The memory that segments take, without their bytes.
use Rattle.std.specs.Prelude.{false, []}
use Rattle.elf_image.specs.declared.distinct.Extent.{Extent}
use Rattle.elf_image.specs.Pieces.{AreApart, Piece}

-- a segment that takes this memory, and has no bytes in the file
abbrev pub memory_of : Extent → Piece
memory_of extent =
    record {
      address = extent.address;
      bytes = [];
      size = extent.size;
      readable = false;
      writable = false;
      runnable = false;
    }

-- no address is in both
abbrev pub AreDistinct : Extent → Extent → Type 0
AreDistinct a b = AreApart (memory_of a) (memory_of b)

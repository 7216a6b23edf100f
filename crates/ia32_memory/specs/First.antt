-- The first memory of an image (ELF, "Program Header").
use Rattle.ia32_insn.specs.State.{Area}
use Rattle.elf_image.specs.Pieces.{Piece}
use Rattle.ia32_memory.specs.Cells.{padded}

-- the memory of a segment
abbrev pub area_of : Piece → Area
area_of piece =
    record {
      address = piece.address;
      bytes = padded piece.size piece.bytes;
      readable = piece.readable;
      writable =
          piece.writable;
      runnable = piece.runnable;
    }

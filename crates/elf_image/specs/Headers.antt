-- What contracts see of the program headers that are read.
use Rattle.std.specs.Prelude.{ℕ, List, Option, Some, None, cond}
use Rattle.elf_image.specs.declared.program_header.ProgramHeader.{ProgramHeader}
use Rattle.elf_image.specs.Fields.{Header, header_at, is_load}

-- one that loads a segment: its type is PT_LOAD
abbrev pub header_of : ProgramHeader → Header
header_of h =
    record {
      kind = 1;
      offset = h.offset;
      address = h.address;
      file_size = h.file_size;
      memory_size = h.memory_size;
      flags = h.flags;
    }

-- the header at an offset, if it loads a segment
abbrev pub load_header_at : ℕ → List ℕ → Option Header
load_header_at offset bytes = cond (is_load (header_at offset bytes)) (Some (header_at offset bytes)) None

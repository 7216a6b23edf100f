-- What the bytes of a file load: segments of memory, and where running begins.
use Rattle.std.specs.Prelude.{◌≡◌, ℕ, ◌+◌, ◌*◌, ◌≤◌, ◌^◌, Bool, true, false, not, List, [], ◌∷◌, length, map, take}
use Rattle.std.specs.Prelude.{drop, sum_by, All, AllPairs, bit_and, nat_eq}
use Rattle.elf_image.specs.Pieces.{Piece, AreApart}
use Rattle.elf_image.specs.declared.image.Image.{Image}
use Rattle.elf_image.specs.declared.loaded.Segment.{Segment}
use Rattle.elf_image.specs.declared.loaded.Loaded.{Loaded}
use Rattle.elf_image.specs.Layout.{Parts, text_address, text_span, data_memory}
use Rattle.elf_image.specs.Fields.{Header, IsExecutable, entry_in, header_count, headers_offset, loads_in}

-- an image without where it lies in memory
abbrev pub parts_of : Image → Parts
parts_of image = record { entry = image.entry; text = image.text.items; data_bytes = image.data_bytes.items }

pub record Segments : Type 0 where
  pub entry : ℕ
  pub pieces : List Piece

abbrev pub piece_of : Segment → Piece
piece_of s = record {
  address = s.addr;
  bytes = s.bytes.items;
  size = s.size;
  readable = s.read;
  writable = s.write;
  runnable = s.exec;
}

abbrev pub segments_of : Loaded → Segments
segments_of loaded = record { entry = loaded.entry; pieces = map piece_of loaded.segments.items }

-- the text, which is read and run, and the data, which is read and written
abbrev pub image_segments : Parts → Segments
image_segments parts =
    record {
      entry = parts.entry;
      pieces =
          record {
            address = text_address;
            bytes = parts.text;
            size = length parts.text;
            readable = true;
            writable =
                false;
            runnable = true;
          }
          ∷ record {
            address = text_address + text_span parts;
            bytes = parts.data_bytes;
            size = data_memory parts;
            readable = true;
            writable = true;
            runnable = false;
          }
          ∷ [];
    }

-- so many bytes from an offset on lie in the file; also where they are none, the offset is one of the file or its end
abbrev pub IsFilePart : List ℕ → ℕ → ℕ → Type 0
IsFilePart file offset size = offset + size ≤ length file

-- a segment's bytes fit into it, and it ends within the address space
pub record IsPiece (piece : Piece) : Type 0 where
  pub filled : length piece.bytes ≤ piece.size
  pub within : piece.address + piece.size ≤ 2 ^ 32

-- what a machine may be loaded with
pub record IsLoadable (segments : Segments) : Type 0 where
  pub each : All IsPiece segments.pieces
  pub apart : AllPairs AreApart segments.pieces
  pub memory : sum_by (λ piece. piece.size) segments.pieces ≤ 0x50000000

-- ---- what a file loads (ELF, "Program Loading")

-- a bit of p_flags is set: PF_X is 1, PF_W is 2, PF_R is 4
abbrev pub has_flag : ℕ → Header → Bool
has_flag bit header = not (nat_eq (bit_and header.flags bit) 0)

-- the segment of a program header: its first bytes stand in the file
abbrev pub piece_at : List ℕ → Header → Piece
piece_at bytes header =
    record {
      address = header.address;
      bytes = take header.file_size (drop header.offset bytes);
      size = header.memory_size;
      readable = has_flag 4 header;
      writable = has_flag 2 header;
      runnable = has_flag 1 header;
    }

-- the segments of the program headers that load one
abbrev pub segments_in : List ℕ → Segments
segments_in bytes =
    record { entry = entry_in bytes; pieces = map (piece_at bytes) (loads_in (header_count bytes) bytes) }

-- the bytes of the segment lie in the file
abbrev pub IsInFile : List ℕ → Header → Type 0
IsInFile bytes header = IsFilePart bytes header.offset header.file_size

-- The bytes of a file load these segments: its header is that of a program, all program headers lie in the file, and
-- so do the bytes of each segment that is loaded.
pub record Loads (bytes : List ℕ) (segments : Segments) : Type 0 where
  pub executable : IsExecutable bytes
  pub headers : IsFilePart bytes (headers_offset bytes) (0x20 * header_count bytes)
  pub parts : All (IsInFile bytes) (loads_in (header_count bytes) bytes)
  pub are : segments ≡ segments_in bytes
  pub loadable : IsLoadable segments

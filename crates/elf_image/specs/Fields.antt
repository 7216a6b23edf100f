-- The numbers of a file's headers (ELF, "Data Representation", "ELF Header" and "Program Header").
use Rattle.std.specs.Prelude.{◌≡◌, ℕ, ◌+◌, ◌*◌, ◌≤◌, List, [], ◌∷◌, length, map, take, drop, Bool, nat_eq}
use Rattle.std.specs.List.{filter, range_with_len}
use Rattle.byteorder.specs.Endian.{little_number}

-- an Elf32_Half: the number in two bytes, the lowest first
abbrev pub half_at : ℕ → List ℕ → ℕ
half_at offset bytes = little_number 2 (drop offset bytes)

-- an Elf32_Word, an Elf32_Addr or an Elf32_Off: the number in four bytes, the lowest first
abbrev pub word_at : ℕ → List ℕ → ℕ
word_at offset bytes = little_number 4 (drop offset bytes)

-- ---- the ELF header

-- e_entry, e_phoff, e_phnum
abbrev pub entry_in : List ℕ → ℕ
entry_in bytes = word_at 0x18 bytes

abbrev pub headers_offset : List ℕ → ℕ
headers_offset bytes = word_at 0x1c bytes

abbrev pub header_count : List ℕ → ℕ
header_count bytes = half_at 0x2c bytes

-- EI_MAG0 to EI_MAG3, ELFCLASS32, ELFDATA2LSB and EV_CURRENT
abbrev pub identity : List ℕ
identity = 0x7f ∷ 0x45 ∷ 0x4c ∷ 0x46 ∷ 1 ∷ 1 ∷ 1 ∷ []

-- The header is that of a program for the Intel 80386: e_type ET_EXEC, e_machine EM_386, e_version EV_CURRENT, and
-- at least one program header, of 0x20 bytes.
pub record IsExecutable (bytes : List ℕ) : Type 0 where
  pub long : 0x34 ≤ length bytes
  pub identified : take 7 bytes ≡ identity
  pub kind : half_at 0x10 bytes ≡ 2
  pub processor : half_at 0x12 bytes ≡ 3
  pub version : word_at 0x14 bytes ≡ 1
  pub header_size : half_at 0x2a bytes ≡ 0x20
  pub some : 1 ≤ header_count bytes

-- ---- program headers

-- p_type, p_offset, p_vaddr, p_filesz, p_memsz and p_flags
pub record Header : Type 0 where
  pub kind : ℕ
  pub offset : ℕ
  pub address : ℕ
  pub file_size : ℕ
  pub memory_size : ℕ
  pub flags : ℕ

-- the program header that stands at an offset
abbrev pub header_at : ℕ → List ℕ → Header
header_at offset bytes =
    record {
      kind = word_at offset bytes;
      offset = word_at (offset + 4) bytes;
      address = word_at (offset + 8) bytes;
      file_size = word_at (offset + 0x10) bytes;
      memory_size = word_at (offset + 0x14) bytes;
      flags = word_at (offset + 0x18) bytes;
    }

-- the first so many program headers of a file, in order
abbrev pub headers_in : ℕ → List ℕ → List Header
headers_in count bytes = map (λ k. header_at (headers_offset bytes + 0x20 * k) bytes) (range_with_len 0 count)

-- p_type is PT_LOAD
abbrev pub is_load : Header → Bool
is_load header = nat_eq header.kind 1

-- those of them that load a segment
abbrev pub loads_in : ℕ → List ℕ → List Header
loads_in count bytes = filter is_load (headers_in count bytes)

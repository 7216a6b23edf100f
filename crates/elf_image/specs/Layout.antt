-- The bytes of an image file (ELF, "ELF Header" and "Program Header"; System V ABI, Intel386 supplement).
use Rattle.std.specs.Prelude.{ℕ, ◌+◌, ◌-◌, ◌<◌, ◌≤◌, ◌^◌, List, [], ◌∷◌, ◌++◌, length}
use Rattle.std.specs.Int.{next_multiple_of}
use Rattle.byteorder.specs.Endian.{little_bytes}
use Rattle.pcc_base.specs.Bytes.{AreBytes, zeros}

-- what an image is made of
pub record Parts : Type 0 where
  pub entry : ℕ
  pub text : List ℕ
  pub data_bytes : List ℕ

-- what an image may be made of
pub record Fits (parts : Parts) : Type 0 where
  pub entry : parts.entry < 2 ^ 32
  pub text : AreBytes parts.text
  pub data_bytes : AreBytes parts.data_bytes
  pub size : length parts.text + length parts.data_bytes ≤ 1200000000

-- a word of four bytes, the lowest first
abbrev pub word : ℕ → List ℕ
word n = little_bytes 4 n

-- the address of the first segment
abbrev pub text_address : ℕ
text_address = 0x08048000

-- from the first segment's address to the second's: the bytes of the text, in whole pages
abbrev pub text_span : Parts → ℕ
text_span parts = next_multiple_of (length parts.text) 0x1000

-- the bytes of the second segment's memory: its data in whole words, and the stack
abbrev pub data_memory : Parts → ℕ
data_memory parts = next_multiple_of (length parts.data_bytes) 4 + 0x04001000

-- e_ident (0x7f and "ELF"), e_type 2, e_machine 3, e_version 1, e_entry, e_phoff 0x34, e_shoff 0, e_flags 0,
-- e_ehsize 0x34, e_phentsize 0x20, e_phnum 2, and no sections
abbrev pub elf_header : ℕ → List ℕ
elf_header entry =
    (0x7f ∷ 0x45 ∷ 0x4c ∷ 0x46 ∷ 1 ∷ 1 ∷ 1 ∷ 0 ∷ 0 ∷ 0 ∷ 0 ∷ 0 ∷ 0 ∷ 0 ∷ 0 ∷ 0 ∷ 2 ∷ 0 ∷ 3 ∷ 0 ∷ [])
    ++ word 1 ++ word entry ++ word 0x34 ++ word 0 ++ word 0
    ++ (0x34 ∷ 0 ∷ 0x20 ∷ 0 ∷ 2 ∷ 0 ∷ 0 ∷ 0 ∷ 0 ∷ 0 ∷ 0 ∷ 0 ∷ [])

-- p_type 1, p_offset, p_vaddr, p_paddr, p_filesz, p_memsz, p_flags, p_align 0x1000
abbrev pub program_header : ℕ → ℕ → ℕ → ℕ → ℕ → List ℕ
program_header offset address filesz memsz flags =
    word 1 ++ word offset ++ word address ++ word address ++ word filesz ++ word memsz ++ word flags ++ word 0x1000

-- the headers, the text at offset 0x1000, and the data at the next whole page. Flags 5 are read and run,
-- flags 6 read and write.
abbrev pub image_bytes : Parts → List ℕ
image_bytes parts =
    elf_header parts.entry
    ++ program_header 0x1000 text_address (length parts.text) (length parts.text) 5
    ++ program_header (0x1000 + text_span parts) (text_address + text_span parts) (length parts.data_bytes)
    (data_memory parts) 6
    ++ zeros (0x1000 - 0x74)
    ++ parts.text
    ++ zeros (text_span parts - length parts.text)
    ++ parts.data_bytes

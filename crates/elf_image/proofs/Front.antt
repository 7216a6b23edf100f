-- Where the parts of an image stand in its bytes.
use Rattle.std.proofs.Common.{◌≡◌, ℕ, ◌+◌, ◌-◌, List, ◌++◌, length, take, drop, sym, ap, ◌∙◌, arith, append_assoc}
use Rattle.std.proofs.Common.{◌<◌, ◌^◌, [], ◌∷◌, refl, length-append}
use Rattle.std.proofs.Math.Seq.{take-append_seam, drop-append_seam}
use Rattle.byteorder.specs.Endian.{little_number}
use Rattle.byteorder.specs.Numbers.{little_number-reads_back}
use Rattle.elf_image.specs.Fields.{Header, entry_in, header_at, loads_in}
use Rattle.pcc_base.specs.Bytes.{zeros}
use Rattle.pcc_base.proofs.Zeros.{length-zeros}
use Rattle.elf_image.specs.Layout.{Parts, Fits, elf_header, program_header, text_address, text_span, data_memory}
use Rattle.elf_image.specs.Layout.{image_bytes, word}

-- the bytes before the text
pub front : Parts → List ℕ
front parts =
    elf_header parts.entry
    ++ program_header 0x1000 text_address (length parts.text) (length parts.text) 5
    ++ program_header (0x1000 + text_span parts) (text_address + text_span parts) (length parts.data_bytes)
    (data_memory parts) 6
    ++ zeros (0x1000 - 0x74)

-- the text begins at the first page
pub length-front : (parts : Parts) → length (front parts) ≡ 0x1000
unfolding front
length-front parts = let e = length-zeros (0x1000 - 0x74) in omega (arith, e)

-- an image is what stands before the text, the text, zeros and the data
pub image-parts : (parts : Parts) → image_bytes parts
    ≡ front parts ++ (parts.text ++ (zeros (text_span parts - length parts.text) ++ parts.data_bytes))
unfolding front
image-parts parts = simp append_assoc

-- the length of an image
pub length-image : (parts : Parts) → length (image_bytes parts) ≡ 0x1000 + text_span parts + length parts.data_bytes
length-image parts =
    let a = length-front parts in
    let z = length-zeros (text_span parts - length parts.text) in
    ap length (image-parts parts) ∙ simp length-append (omega (arith, a, z))

-- a word that stands in the bytes is read back
pub word-reads : (n : ℕ) (after : List ℕ) → n < 2 ^ 32 → little_number 4 (word n ++ after) ≡ n
word-reads n after small = little_number-reads_back 4 n after (omega (arith, small))

-- the text begins at the first page
pub text-reads : (parts : Parts) → take (length parts.text) (drop 0x1000 (image_bytes parts)) ≡ parts.text
text-reads parts =
    let rest = zeros (text_span parts - length parts.text) ++ parts.data_bytes in
    let at : drop 0x1000 (image_bytes parts) ≡ parts.text ++ rest =
    ap (λ (n : ℕ). drop n (image_bytes parts)) (sym (length-front parts))
    ∙ ap (drop (length (front parts))) (image-parts parts)
    ∙ drop-append_seam (front parts) (parts.text ++ rest) in
    ap (take (length parts.text)) at ∙ take-append_seam parts.text rest

-- the data begins at the next page
pub data-reads : (parts : Parts) → drop (0x1000 + text_span parts) (image_bytes parts) ≡ parts.data_bytes
data-reads parts =
    let pad = zeros (text_span parts - length parts.text) in
    let before = front parts ++ (parts.text ++ pad) in
    let long : length before ≡ 0x1000 + text_span parts =
    simp length-append (omega (arith, length-front parts, length-zeros (text_span parts - length parts.text))) in
    let whole : image_bytes parts ≡ before ++ parts.data_bytes = image-parts parts ∙ simp append_assoc in
    ap (λ (n : ℕ). drop n (image_bytes parts)) (sym long)
    ∙ ap (drop (length before)) whole
    ∙ drop-append_seam before parts.data_bytes

-- headers are equal where their fields are
headers-equal : {k o a f m g l p b e n h : ℕ} → k ≡ l → o ≡ p → a ≡ b → f ≡ e → m ≡ n → g ≡ h
    → record { kind = k; offset = o; address = a; file_size = f; memory_size = m; flags = g }
    ≡ (let header : Header = record { kind = l; offset = p; address = b; file_size = e; memory_size = n; flags = h } in
    header)
headers-equal same-kind same-offset same-address same-file same-memory same-flags = cc

-- the program header of the text
abbrev pub text_header : Parts → Header
text_header parts =
    record {
      kind = 1;
      offset = 0x1000;
      address = text_address;
      file_size = length parts.text;
      memory_size = length parts.text;
      flags = 5;
    }

-- the program header of the data
abbrev pub data_header : Parts → Header
data_header parts =
    record {
      kind = 1;
      offset = 0x1000 + text_span parts;
      address = text_address + text_span parts;
      file_size = length parts.data_bytes;
      memory_size = data_memory parts;
      flags = 6;
    }

-- e_entry is the entry
pub entry-reads : (parts : Parts) → Fits parts → entry_in (image_bytes parts) ≡ parts.entry
entry-reads parts fits = word-reads parts.entry (drop 0x1c (image_bytes parts)) fits.entry

-- the first program header is that of the text
pub text_header-reads : (parts : Parts) → Fits parts → header_at 0x34 (image_bytes parts) ≡ text_header parts
text_header-reads parts fits =
    let file : length parts.text < 2 ^ 32 = omega (arith, fits.size) in
    headers-equal
    refl
    refl
    refl
    (word-reads (length parts.text) (drop 0x48 (image_bytes parts)) file)
    (word-reads (length parts.text) (drop 0x4c (image_bytes parts)) file)
    refl

-- the second program header is that of the data
pub data_header-reads : (parts : Parts) → Fits parts → header_at 0x54 (image_bytes parts) ≡ data_header parts
data_header-reads parts fits =
    let size = fits.size in
    headers-equal
    refl
    (word-reads (0x1000 + text_span parts) (drop 0x5c (image_bytes parts)) (omega arith))
    (word-reads (text_address + text_span parts) (drop 0x60 (image_bytes parts)) (omega arith))
    (word-reads (length parts.data_bytes) (drop 0x68 (image_bytes parts)) (omega arith))
    (word-reads (data_memory parts) (drop 0x6c (image_bytes parts)) (omega arith))
    refl

-- an image has these two, and both are loaded
pub loads-both : (parts : Parts) → Fits parts
    → loads_in 2 (image_bytes parts) ≡ text_header parts ∷ data_header parts ∷ []
loads-both parts fits = ap (λ (h : Header). h ∷ header_at 0x54 (image_bytes parts) ∷ []) (text_header-reads parts fits)
    ∙ ap (λ (h : Header). text_header parts ∷ h ∷ []) (data_header-reads parts fits)

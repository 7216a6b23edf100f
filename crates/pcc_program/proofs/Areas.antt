-- The areas of an image's segments, one by one.
use Rattle.std.specs.Prelude.{◌≡◌, ℕ, ◌+◌, ◌-◌, true, false, List, [], ◌∷◌, ◌++◌, length, replicate, None}
use Rattle.std.specs.Int.{next_multiple_of}
use Rattle.std.proofs.Common.{arith, sym, ap, ◌∙◌}
use Rattle.std.proofs.lemmas.List.{append-nil}
use Rattle.ia32_insn.specs.Registers.{zero_registers}
use Rattle.ia32_insn.specs.State.{Area}
use Rattle.pcc_base.specs.Bytes.{zeros}
use Rattle.ia32_insn.specs.Items.{round_up, text_start, data_bytes, data_start, data_memory, text_area}
use Rattle.ia32_insn.specs.Items.{text_state}
use Rattle.elf_image.specs.Segments.{image_segments}
use Rattle.elf_image.proofs.Loading.{loads-image}
use Rattle.ia32_memory.specs.Cells.{padded}
use Rattle.ia32_memory.specs.First.{area_of}
use Rattle.ia32_machine.specs.First.{first_state}
use Rattle.pcc_program.specs.Begins.{SegmentsAreMemory, TextBegins, parts_of_text}

round_up-words : (n : ℕ) → next_multiple_of n 4 ≡ round_up 4 n
round_up-words n = omega arith

round_up-pages : (n : ℕ) → next_multiple_of n 0x1000 ≡ round_up 0x1000 n
round_up-pages n = omega arith

-- no zeros follow what is whole
no_zeros : (n : ℕ) → zeros (n - n) ≡ []
unfolding zeros
no_zeros n =
    let nothing : n - n ≡ 0 = omega arith in
    ap (λ (m : ℕ). replicate m 0) nothing

text_loaded : (text : List ℕ) → area_of (record
    { address = text_start; bytes = text; size = length text; readable = true; writable = false; runnable = true })
    ≡ text_area text
unfolding padded
text_loaded text =
    ap (λ (bytes : List ℕ). record {
      address = text_start;
      bytes = bytes;
      readable = true;
      writable = false;
      runnable =
          true;
    })
    (ap (λ (xs : List ℕ). text ++ xs) (no_zeros (length text)) ∙ append-nil text)

data_loaded : (text bytes : List ℕ) (address size address' size' : ℕ) → address ≡ address' → size ≡ size'
    → area_of (record {
      address = address;
      bytes = bytes;
      size = size;
      readable = true;
      writable = true;
      runnable =
          false;
    })
    ≡ record {
      address = address';
      bytes = bytes ++ zeros (size' - length bytes);
      readable = true;
      writable = true;
      runnable = false;
    }
unfolding padded
data_loaded text bytes address size address' size' a s =
    ap (λ (n : ℕ). record {
      address = n;
      bytes = bytes ++ zeros (size - length bytes);
      readable = true;
      writable = true;
      runnable = false;
    }) a
    ∙ ap (λ (n : ℕ). record {
      address = address';
      bytes = bytes ++ zeros (n - length bytes);
      readable = true;
      writable =
          true;
      runnable = false;
    }) s

-- the segments of an image are the areas of its text
pub areas_are : SegmentsAreMemory
areas_are text objects input =
    let address : text_start + next_multiple_of (length text) 0x1000 ≡ data_start text =
    ap (λ (n : ℕ). text_start + n) (round_up-pages (length text)) in
    let size : next_multiple_of (length (data_bytes objects)) 4 + 0x04001000 ≡ data_memory objects =
    ap (λ (n : ℕ). n + 0x04001000) (round_up-words (length (data_bytes objects))) in
    ap (λ (area : Area). area ∷ area_of (record {
      address = text_start + next_multiple_of (length text) 0x1000;
      bytes = data_bytes objects;
      size =
          next_multiple_of (length (data_bytes objects)) 4 + 0x04001000;
      readable = true;
      writable = true;
      runnable =
          false;
    }) ∷ []) (text_loaded text)
    ∙ ap (λ (area : Area). text_area text ∷ area ∷ [])
    (data_loaded text (data_bytes objects) (text_start + next_multiple_of (length text) 0x1000)
    (next_multiple_of (length (data_bytes objects)) 4 + 0x04001000) (data_start text) (data_memory objects) address
    size)

-- the bytes of the image of a text have the text's state as their first
pub text_begins : TextBegins
text_begins text objects input fits =
    let state : text_state text objects input ≡ first_state (image_segments (parts_of_text text objects)) input =
    ap (λ (areas : List Area). record {
      registers = zero_registers;
      flags = None;
      eip = text_start;
      memory = areas;
      left = input;
      taken = 0;
      written = [];
    }) (sym (areas_are text objects input))
    in
    (image_segments (parts_of_text text objects), loads-image (parts_of_text text objects) fits, state)

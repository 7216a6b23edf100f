-- The image of a text begins in the text's state.
use Rattle.std.specs.Prelude.{◌≡◌, ℕ, List, map}
use Rattle.ia32_insn.specs.Items.{Object, text_start, data_bytes, text_state}
use Rattle.elf_image.specs.Layout.{Parts, Fits, image_bytes}
use Rattle.elf_image.specs.Segments.{image_segments}
use Rattle.ia32_memory.specs.First.{area_of}
use Rattle.ia32_machine.specs.First.{First}

-- the image of a text and its static objects
abbrev pub parts_of_text : List ℕ → List Object → Parts
parts_of_text text objects = record { entry = text_start; text = text; data_bytes = data_bytes objects }

-- ---- laws

-- the segments of the image of a text and its static objects are the memory of the text's state
abbrev pub SegmentsAreMemory : Type 0
SegmentsAreMemory =
    (text : List ℕ) (objects : List Object) (input : List ℕ)
    → map area_of (image_segments (parts_of_text text objects)).pieces ≡ (text_state text objects input).memory

-- and the entry is where that state begins
abbrev pub EntryIsStart : Type 0
EntryIsStart =
    (text : List ℕ) (objects : List Object) (input : List ℕ)
    → (image_segments (parts_of_text text objects)).entry ≡ (text_state text objects input).eip

-- the bytes of the image of a text and its static objects have the text's state as their first
abbrev pub TextBegins : Type 0
TextBegins =
    (text : List ℕ) (objects : List Object) (input : List ℕ) → Fits (parts_of_text text objects)
    → First (image_bytes (parts_of_text text objects)) input (text_state text objects input)

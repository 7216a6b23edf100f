-- Small lists of segments, as examples.
use Rattle.std.specs.Prelude.{ℕ, true, false, List, []}
use Rattle.elf_image.specs.Pieces.{Piece}
use Rattle.elf_image.specs.Segments.{Segments}

-- a segment of so many bytes of memory, none of them from the file
abbrev pub blank : ℕ → ℕ → Piece
blank address size =
    record { address = address; bytes = []; size = size; readable = true; writable = true; runnable = false }

abbrev pub only : List Piece → Segments
only pieces = record { entry = 0; pieces = pieces }

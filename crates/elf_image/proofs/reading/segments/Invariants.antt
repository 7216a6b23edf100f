-- The segments of the headers so far.
use Rattle.std.proofs.Common.{◌≡◌, map, take}
use Rattle.elf_image.specs.Headers.{header_of}
use Rattle.elf_image.specs.Segments.{piece_at, piece_of}
use Rattle.elf_image.proofs.reading.segments.Given as goal

abbrev pub invariant-loop-header : goal.invariant-loop-header
invariant-loop-header l =
    map piece_of l.segments.items ≡ map (piece_at l.bytes) (map header_of (take l.header-index l.headers))

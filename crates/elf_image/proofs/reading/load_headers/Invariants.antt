-- The headers so far that load a segment.
use Rattle.std.proofs.Common.{◌≡◌, map}
use Rattle.elf_image.specs.Fields.{header_count, headers_offset, loads_in}
use Rattle.elf_image.specs.Headers.{header_of}
use Rattle.elf_image.proofs.reading.load_headers.Given as goal

abbrev pub invariant-loop-k : goal.invariant-loop-k
invariant-loop-k l = (map header_of l.headers.items ≡ loads_in l.k l.bytes) × (l.start ≡ headers_offset l.bytes)
    × (l.count ≡ header_count l.bytes)

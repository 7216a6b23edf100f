use Rattle.std.proofs.Common.{◌≡◌, map, take}
use Rattle.elf_image.specs.Segments.{piece_of}
use Rattle.ia32_memory.specs.First.{area_of}
use Rattle.ia32_memory.proofs.memory.Memory.load.Given as goal

abbrev pub invariant-loop-segment : goal.invariant-loop-segment
invariant-loop-segment l = l.areas.items ≡ map area_of (map piece_of (take l.segment-index l.segments))

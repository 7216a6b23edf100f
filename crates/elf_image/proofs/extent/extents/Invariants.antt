-- The memory of the segments so far.
use Rattle.std.proofs.Common.{◌≡◌, map, take}
use Rattle.elf_image.specs.Extents.{extent_of}
use Rattle.elf_image.proofs.extent.extents.Given as goal

abbrev pub invariant-loop-segment : goal.invariant-loop-segment
invariant-loop-segment l = l.extents.items ≡ map extent_of (take l.segment-index l.segments)

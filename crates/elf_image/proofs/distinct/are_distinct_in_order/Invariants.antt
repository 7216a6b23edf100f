-- Those that are left follow what came before exactly where all are distinct.
use Rattle.std.proofs.Common.{◌↔◌, AllPairs, length}
use Rattle.elf_image.specs.MemoryExtents.{AreDistinct}
use Rattle.elf_image.proofs.MemoryExtents.{Follow, InOrder}
use Rattle.elf_image.proofs.distinct.are_distinct_in_order.Given as goal

abbrev pub decreases-loop-first : goal.decreases-loop-first
decreases-loop-first l = length l.rest

abbrev pub invariant-loop-first : goal.invariant-loop-first
invariant-loop-first l = (AllPairs AreDistinct l.extents ↔ Follow l.end l.rest) × InOrder l.rest

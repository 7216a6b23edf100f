-- What is left and what the segments so far have are all.
use Rattle.std.proofs.Common.{◌≡◌, ◌+◌, sum_by, take}
use Rattle.elf_image.proofs.loadable.are_few.Given as goal

abbrev pub invariant-loop-segment : goal.invariant-loop-segment
invariant-loop-segment l = l.free + sum_by (λ s. s.size) (take l.segment-index l.segments) ≡ 0x50000000

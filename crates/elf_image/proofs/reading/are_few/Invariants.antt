-- What is left and what the segments so far have are all.
use Rattle.std.proofs.Common.{◌≡◌, ◌+◌, sum_by, take}
use Rattle.elf_image.proofs.reading.are_few.Given as goal

abbrev pub invariant-loop-header : goal.invariant-loop-header
invariant-loop-header l = l.free + sum_by (λ h. h.memory_size) (take l.header-index l.headers) ≡ 0x50000000

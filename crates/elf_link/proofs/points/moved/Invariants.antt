-- The addresses so far.
use Rattle.std.proofs.Common.{◌≡◌, ◌+◌, take, map}
use Rattle.elf_link.proofs.points.moved.Given as goal

abbrev pub invariant-loop-offset : goal.invariant-loop-offset
invariant-loop-offset l = l.addresses.items ≡ map (λ p. l.fn.address + p) (take l.offset-index l.offsets.items)

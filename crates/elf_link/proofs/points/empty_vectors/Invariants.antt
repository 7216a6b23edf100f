-- So many vectors so far.
use Rattle.std.proofs.Common.{◌≡◌, length}
use Rattle.elf_link.proofs.points.empty_vectors.Given as goal

abbrev pub invariant-loop : goal.invariant-loop
invariant-loop l = length l.vectors.items ≡ l.counter

use Rattle.std.proofs.Common.{take}
use Rattle.allocator.specs.Spills.{AreListed}
use Rattle.allocator.proofs.candidates.candidates_of.Given as goal

abbrev pub invariant-loop-i : goal.invariant-loop-i
invariant-loop-i l = AreListed l.distances l.point (take l.i l.pieces) l.candidates.items

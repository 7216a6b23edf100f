use Rattle.std.proofs.Common.{◌≡◌, take}
use Rattle.allocator.specs.Solutions.{spots_of}
use Rattle.allocator.proofs.spots.spots_on.Given as goal

abbrev pub invariant-loop-piece : goal.invariant-loop-piece
invariant-loop-piece g l = l.spots.items ≡ take l.piece (spots_of l.board.states)

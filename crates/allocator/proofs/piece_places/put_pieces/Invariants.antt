use Rattle.allocator.proofs.Putting.{ArePutTo}
use Rattle.allocator.proofs.piece_places.put_pieces.Given as goal

abbrev pub invariant-loop-i : goal.invariant-loop-i
invariant-loop-i l = ArePutTo l.point l.pieces l.places l.i l.initial.map l.map

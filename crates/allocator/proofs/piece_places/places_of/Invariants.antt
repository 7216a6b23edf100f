use Rattle.allocator.proofs.Standing.{ArePlacesTo}
use Rattle.allocator.proofs.piece_places.places_of.Given as goal

abbrev pub invariant-loop-i : goal.invariant-loop-i
invariant-loop-i l = ArePlacesTo l.i l.map.slots l.pieces l.spots l.places.items

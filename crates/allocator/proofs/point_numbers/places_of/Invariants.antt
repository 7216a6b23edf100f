use Rattle.std.proofs.Common.{◌≡◌, length, take}
use Rattle.flow_liveness.specs.Names.{joined}
use Rattle.allocator.specs.SplitForms.{ArePlaces}
use Rattle.allocator.proofs.point_numbers.places_of.Given as goal

-- the points of the blocks so far have their places
abbrev pub invariant-loop-block : goal.invariant-loop-block
invariant-loop-block l = record {
  placed : ArePlaces (joined (take l.block l.graph.blocks)) l.places.items;
  first : l.first ≡ length (joined (take l.block l.graph.blocks));
  many : length l.places.items ≡ length l.graph.ops;
}

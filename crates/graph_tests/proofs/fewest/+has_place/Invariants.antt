use Rattle.std.proofs.Common.{◌-◌, length}
use Rattle.graph_tests.proofs.fewest.+has_place.Given as goal

abbrev pub decreases-has_place : goal.decreases-has_place
decreases-has_place l = length l.pieces.now - l.from

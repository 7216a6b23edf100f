use Rattle.std.proofs.Common.{length}
use Rattle.parallel_copies.proofs.legal.+all_beside.Given as goal

-- the moves from here on
abbrev pub decreases-all_beside : goal.decreases-all_beside
decreases-all_beside l = length l.moves.now

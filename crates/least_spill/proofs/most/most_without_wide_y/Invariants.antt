use Rattle.least_spill.specs.Most.{IsMostBefore}
use Rattle.least_spill.proofs.most.most_without_wide_y.Given as goal

abbrev pub invariant-loop-x : goal.invariant-loop-x
invariant-loop-x l = IsMostBefore l.areas l.pieces l.x 0 l.best

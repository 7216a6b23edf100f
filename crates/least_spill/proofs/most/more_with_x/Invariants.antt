use Rattle.least_spill.specs.Most.{IsMostBefore}
use Rattle.least_spill.proofs.most.more_with_x.Given as goal

abbrev pub invariant-loop-z : goal.invariant-loop-z
invariant-loop-z l = IsMostBefore l.areas l.pieces l.x l.z l.best

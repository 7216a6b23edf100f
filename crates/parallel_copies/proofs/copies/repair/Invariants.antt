use Rattle.ia32_emit.specs.Locations.{distance}
use Rattle.parallel_copies.specs.Steps.{weight}
use Rattle.parallel_copies.proofs.Starting.{IsMaking}
use Rattle.parallel_copies.proofs.copies.repair.Given as goal

-- what was made so far, and what waits
abbrev pub invariant-loop-step : goal.invariant-loop-step
invariant-loop-step l = IsMaking (distance l.fn.word) l.fn.moves l.waiting.items l.out.items

-- each step leaves less
abbrev pub decreases-loop-step : goal.decreases-loop-step
decreases-loop-step l = weight l.waiting.items

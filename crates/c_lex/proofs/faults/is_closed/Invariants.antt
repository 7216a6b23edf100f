-- Whether the literal is closed is seen from each place that the loop comes to.
use Rattle.std.proofs.Common.{length, ◌-◌, ◌≡◌, drop}
use Rattle.c_lex.specs.Literals.{is_closed}
use Rattle.c_lex.proofs.faults.is_closed.Given as goal

abbrev pub invariant-loop-at : goal.invariant-loop-at
invariant-loop-at l = is_closed l.quote l.inside ≡ is_closed l.quote (drop l.at l.inside)

abbrev pub decreases-loop-at : goal.decreases-loop-at
decreases-loop-at l = length l.inside - l.at

use Rattle.std.proofs.Common.{◌≡◌, map, take}
use Rattle.puzzle_solver.proofs.order.variables_of.Given as goal

abbrev pub invariant-loop-candidate : goal.invariant-loop-candidate
invariant-loop-candidate l = l.variables.items ≡ map (λ c. c.variable) (take l.candidate-index l.candidates)

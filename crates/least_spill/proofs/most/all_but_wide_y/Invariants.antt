use Rattle.std.proofs.Common.{ℕ, ◌<◌}
use Rattle.puzzle_board.specs.Bounds.{IsBounded}
use Rattle.puzzle_solver.specs.Plans.{numbers}
use Rattle.least_spill.proofs.Choices.{all_but}
use Rattle.least_spill.proofs.most.all_but_wide_y.Given as goal

abbrev pub invariant-loop-fewer : goal.invariant-loop-fewer
invariant-loop-fewer l = (r : ℕ) → r < l.fewer → ¬ IsBounded (numbers l.areas (all_but l.pieces r))

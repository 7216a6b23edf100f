use Rattle.std.proofs.Common.{◌+◌, ◌*◌, ◌≤◌}
use Rattle.puzzle_solver.specs.Filling.{IsFilled, left_by}
use Rattle.puzzle_solver.proofs.wide_shares.fill.Given as goal

abbrev pub invariant-loop-placed : goal.invariant-loop-placed
invariant-loop-placed g l =
    record {
      filled : IsFilled l.kind l.from (left_by l.kind l.from) l._placed l.initial.board l.board;
      few : l.steps ≤ l.initial.steps + 6 * l._placed;
    }

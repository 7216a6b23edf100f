use Rattle.std.proofs.Common.{◌+◌, ◌*◌, ◌≤◌, length}
use Rattle.puzzle_solver.specs.Near.{IsCounted, steps_for}
use Rattle.puzzle_solver.specs.Onward.{IsOnward}
use Rattle.puzzle_solver.proofs.wanted.place_wanted.Given as goal

abbrev pub invariant-loop-number : goal.invariant-loop-number
invariant-loop-number g l =
    record {
      counted : IsCounted l.board l.left.counts;
      onward : IsOnward l.fn.board l.board;
      few :
          l.steps + steps_for l.left.counts.pieces + 2 * l.left.hints
          ≤ l.fn.steps + steps_for l.fn.counts.pieces + 10 * length l.fn.board.areas + 102;
    }

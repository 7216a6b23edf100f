use Rattle.std.proofs.Common.{◌+◌, ◌*◌, ◌≤◌}
use Rattle.puzzle_board.specs.Boards.{free_areas}
use Rattle.puzzle_solver.specs.Columns.{IsRoom, IsWaiting, columns_from}
use Rattle.puzzle_solver.specs.Onward.{IsOnward}
use Rattle.puzzle_solver.proofs.narrow.place_narrow.Given as goal

abbrev pub invariant-loop-area : goal.invariant-loop-area
invariant-loop-area g l =
    record {
      waiting : IsWaiting l.board l.rest.x l.rest.y l.rest.z;
      room : IsRoom l.rest.x l.rest.y l.rest.z (columns_from (free_areas l.board) l.area);
      onward : IsOnward l.initial.board l.board;
      few :
          l.steps + 5 * (l.rest.x + l.rest.y + l.rest.z)
          ≤ l.initial.steps + l.area + 5 * (l.fn.waiting.x + l.fn.waiting.y + l.fn.waiting.z);
    }

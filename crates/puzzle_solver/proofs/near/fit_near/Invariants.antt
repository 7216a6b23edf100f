use Rattle.std.proofs.Common.{◌≤◌, length, vec_capacity}
use Rattle.puzzle_solver.proofs.Spilling.{SoFar}
use Rattle.puzzle_solver.proofs.near.fit_near.Given as goal

abbrev pub invariant-loop-i : goal.invariant-loop-i
invariant-loop-i g l =
    record {
      so_far : SoFar l.initial.board l.order l.i l.removed.items l.board;
      room : length l.order ≤ vec_capacity l.removed;
    }

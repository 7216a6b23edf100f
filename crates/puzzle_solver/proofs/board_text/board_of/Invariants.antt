use Rattle.std.proofs.Common.{◌≡◌, take}
use Rattle.puzzle_solver.specs.Reading.{fresh_board, pieces_from}
use Rattle.puzzle_solver.proofs.board_text.board_of.Given as goal

abbrev pub invariant-loop-i : goal.invariant-loop-i
invariant-loop-i g l = l.board ≡ fresh_board l.areas (pieces_from 0 (take l.i l.shapes))

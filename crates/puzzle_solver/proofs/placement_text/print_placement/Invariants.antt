use Rattle.std.proofs.Common.{◌≡◌, take}
use Rattle.puzzle_solver.specs.Texts.{lines_from}
use Rattle.puzzle_solver.proofs.placement_text.print_placement.Given as goal

abbrev pub invariant-loop-number : goal.invariant-loop-number
invariant-loop-number g l = l.text.items ≡ lines_from 0 (take l.number l.board.pieces) l.board.states

use Rattle.std.proofs.Common.{◌≡◌, take}
use Rattle.allocator.specs.PointBoards.{pieces_of_all}
use Rattle.allocator.proofs.point_pieces.pieces_for.Given as goal

abbrev pub invariant-loop-i : goal.invariant-loop-i
invariant-loop-i l =
    l.pieces.items ≡ pieces_of_all l.form.graph l.form.lives l.point l.op (take l.i l.vars)

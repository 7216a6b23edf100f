use Rattle.std.proofs.Common.{drop}
use Rattle.map_file.proofs.PiecesOrdered.{Ordered}
use Rattle.map_file.proofs.pieces.are_in_order.Given as goal

-- the pieces are in order exactly where those that are left come behind the last one
abbrev pub invariant-loop-piece : goal.invariant-loop-piece
invariant-loop-piece l = Ordered l.pieces l.last (drop l.piece-index l.pieces)

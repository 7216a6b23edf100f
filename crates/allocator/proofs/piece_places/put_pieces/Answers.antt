use Rattle.std.proofs.Common.{arith}
use Rattle.allocator.proofs.Putting.{piece-more-at}
use Rattle.allocator.proofs.piece_places.put_pieces.Goals as goal

pub loop-i-preserved : goal.loop-i-preserved
loop-i-preserved c =
    piece-more-at c.args.point c.args.pieces.now c.args.places.now c.loop-i.i _ _ c.args.map.now c.loop-i.map
    c.put_piece.new.map c.requires.order c.loop-i-test.true (omega (arith, c.requires.many, c.loop-i-test.true))
    c.requires.befores c.requires.afters c.loop-i.invariant c.in_ok-put_piece.ensures

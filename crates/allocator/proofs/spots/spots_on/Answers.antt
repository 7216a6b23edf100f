use Rattle.std.proofs.Common.{arith}
use Rattle.allocator.proofs.Solving.{spots-end, spots-more}
use Rattle.allocator.proofs.spots.spots_on.Goals as goal

pub loop-piece-preserved : goal.loop-piece-preserved
loop-piece-preserved g c =
    spots-more c.args.board.now.states c.loop-piece.piece c.spot.result c.loop-piece.spots.items c.push.new.self.items
    (omega (arith, c.is_board.ensures.states, c.pieces-pieces.ensures.value, c.loop-piece-test.true))
    c.spot.ensures.value c.loop-piece.invariant c.in_ok-push.ensures.items

pub returns : goal.returns
returns g c =
    spots-end c.args.board.now.states c.loop-piece.piece c.loop-piece.spots.items
    (omega (arith, c.is_board.ensures.states, c.pieces-pieces.ensures.value, c.loop-piece-test.false))
    c.loop-piece.invariant

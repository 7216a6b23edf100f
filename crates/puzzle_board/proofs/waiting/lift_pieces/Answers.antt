use Rattle.std.proofs.Common.{arith, ◌∙◌}
use Rattle.std.proofs.lemmas.Option.{slice_get-get_or}
use Rattle.puzzle_board.proofs.Stored.{length-piece_classes, lift-step, piece-unlisted-read}
use Rattle.puzzle_board.proofs.waiting.lift_pieces.Goals as goal

pub lift_piece-requires-clause-node : goal.lift_piece-requires-clause-node
lift_piece-requires-clause-node g c =
    let long = length-piece_classes c.args.pieces.now c.loop-i.states (c.loop-i.auto.states ∙ c.requires.same) in
    omega (arith, c.loop-i.invariant.1.room, long, c.loop-i-test.true)

pub lift_piece-requires-clause-in_none : goal.lift_piece-requires-clause-in_none
lift_piece-requires-clause-in_none g c =
    piece-unlisted-read c.loop-i.waiting c.args.pieces.now c.loop-i.states c.loop-i.i c.loop-i.invariant.1
    c.loop-i-test.true (omega (arith, c.loop-i.auto.states, c.requires.same, c.loop-i-test.true))

pub loop-i-preserved : goal.loop-i-preserved
loop-i-preserved g c = (
  lift-step c.args.states.now c.loop-i.states c.lift_piece.new.states c.loop-i.i
      (omega (arith, c.requires.same, c.loop-i-test.true)) c.loop-i.auto.states c.loop-i.invariant.0
      c.lift_piece.ensures.states,
  c.lift_piece.ensures.filed c.args.pieces.now (slice_get-get_or c.args.pieces.now c.loop-i.i _ c.loop-i-test.true)
      c.loop-i.invariant.1,
  c.lift_piece.ensures.nodes ∙ c.loop-i.invariant.2,
)

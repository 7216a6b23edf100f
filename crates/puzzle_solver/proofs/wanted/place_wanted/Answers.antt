use Rattle.std.proofs.Common.{◌∙◌, List, ap, arith, length, sym}
use Rattle.puzzle_board.specs.declared.area.Area.{Area}
use Rattle.puzzle_board.specs.declared.piece.Piece.{Piece}
use Rattle.puzzle_solver.proofs.Onward.{onward-more, onward-none}
use Rattle.puzzle_solver.proofs.wanted.place_wanted.Goals as goal

pub loop-number-init : goal.loop-number-init
loop-number-init g c = record {
  counted = c.requires;
  onward = onward-none c.args.board.now;
  few = omega arith;
}

pub follow-left-requires-clause-number : goal.follow-left-requires-clause-number
follow-left-requires-clause-number g c =
    let same = ap (λ (pieces : List Piece). length pieces) c.loop-number.invariant.onward.pieces in
    omega (arith, same)

pub follow-left-requires-clause-areas : goal.follow-left-requires-clause-areas
follow-left-requires-clause-areas g c =
    c.areas-areas.ensures.value
    ∙ ap (λ (areas : List Area). length areas) (sym c.loop-number.invariant.onward.areas)

pub loop-number-preserved : goal.loop-number-preserved
loop-number-preserved g c = record {
  counted = c.follow-left.ensures.counted;
  onward =
      onward-more c.args.board.now c.loop-number.board c.follow-left.new.board c.loop-number.invariant.onward
      c.follow-left.ensures.onward;
  few = omega arith;
}

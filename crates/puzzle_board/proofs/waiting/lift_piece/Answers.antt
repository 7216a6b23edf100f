use Rattle.std.proofs.Common.{refl, set, arith}
use Rattle.puzzle_board.specs.declared.piece.State.TheVariants.{Unplaced}
use Rattle.puzzle_board.specs.Stored.{piece_classes}
use Rattle.puzzle_board.proofs.Stored.{piece-set, length-piece-set, lift-nothing}
use Rattle.puzzle_board.proofs.waiting.lift_piece.Goals as goal

pub returns-in-At-clause-filed : goal.returns-in-At-clause-filed
returns-in-At-clause-filed g c pieces e f =
    let states = c.args.states.now in
    let n = c.args.number in
    c.file.ensures.filed 6 (piece_classes pieces states) (piece_classes pieces (set states n Unplaced)) f
    (rw c.list_of.ensures.value (piece-set pieces states n c.args.piece Unplaced e c.requires.within))
    (omega (arith, length-piece-set pieces states n c.args.piece Unplaced e, f.room))

pub returns-in-Unplaced : goal.returns-in-Unplaced
returns-in-Unplaced g c = record {
  states = λ s e. lift-nothing c.args.states.now c.args.number Unplaced s c.in-Unplaced.is e;
  filed = λ pieces e f. f;
  nodes = refl;
}

use Rattle.std.proofs.Common.{ℕ, Option, set, subst, arith}
use Rattle.puzzle_board.specs.Classes.{IsRefiled}
use Rattle.puzzle_board.specs.Stored.{piece_classes}
use Rattle.puzzle_board.proofs.Stored.{piece-set, length-piece-set, settled-none}
use Rattle.puzzle_board.proofs.waiting.settle.Goals as goal

pub returns-clause-filed : goal.returns-clause-filed
returns-clause-filed g c pieces p e f =
    let states = c.args.states.now in
    let n = c.args.number in
    let s = c.args.state in
    let refiled = subst
    (λ (class : Option ℕ). IsRefiled (piece_classes pieces states) (piece_classes pieces (set states n s)) n class)
    (settled-none p s c.requires.settled)
    (piece-set pieces states n p s e c.requires.within) in
    c.unfile.ensures.filed 6 (piece_classes pieces states) (piece_classes pieces (set states n s)) f refiled
    (omega (arith, length-piece-set pieces states n p s e, f.room))

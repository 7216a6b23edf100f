use Rattle.std.proofs.Common.{◌+◌, ◌∙◌, drop, get_or, sym, true≢false}
use Rattle.std.proofs.lemmas.List.{drop_all, drop_more}
use Rattle.pcc_base.specs.declared.run.Width.TheVariants.{One}
use Rattle.puzzle_board.specs.declared.piece.Kind.TheVariants.{X}
use Rattle.puzzle_board.specs.declared.piece.Piece.{Piece}
use Rattle.map_file.proofs.PiecesOrdered.{all_follow, none_follows, one_follows}
use Rattle.map_file.proofs.pieces.are_in_order.Goals as goal

abbrev any_piece : Piece
any_piece = record { kind = X; width = One; var = 0 }

pub loop-piece-init : goal.loop-piece-init
loop-piece-init c = (λ f. f, λ f. f)

pub returns-then-not-follows : goal.returns-then-not-follows
returns-then-not-follows c =
    let xs = c.args.pieces.now in
    let i = c.loop-piece.piece-index in
    none_follows xs c.loop-piece.last (get_or xs i any_piece) (drop i xs) (drop (i + 1) xs)
    (drop_more xs i any_piece c.loop-piece-test.true)
    (λ before. true≢false (sym (c.follows.ensures.1 before) ∙ c.if-not-follows.true)) c.loop-piece.invariant

pub loop-piece-preserved : goal.loop-piece-preserved
loop-piece-preserved c =
    let xs = c.args.pieces.now in
    let i = c.loop-piece.piece-index in
    one_follows xs c.loop-piece.last (get_or xs i any_piece) (drop i xs) (drop (i + 1) xs)
    (drop_more xs i any_piece c.loop-piece-test.true) (c.follows.ensures.0 c.if-not-follows.false)
    c.loop-piece.invariant

pub returns : goal.returns
returns c =
    let xs = c.args.pieces.now in
    let i = c.loop-piece.piece-index in
    all_follow xs c.loop-piece.last (drop i xs) (drop_all i xs c.loop-piece-test.false) c.loop-piece.invariant

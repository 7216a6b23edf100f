use Rattle.std.proofs.Common.{length, sym, ◌∙◌}
use Rattle.puzzle_board.proofs.Spans.{ascending-more, ascending-one, some-there, none-there}
use Rattle.puzzle_board.proofs.waiting.stays_ascending.Goals as goal

pub returns : goal.returns
returns c last =
    ascending-more c.args.pieces.now c.args.piece _
    (some-there (length c.args.pieces.now) (sym c.if-is_empty.false ∙ c.is_empty.ensures)) last
    (c.requires c.if-not-ascending.false)

pub returns-then-is_empty : goal.returns-then-is_empty
returns-then-is_empty c last =
    ascending-one c.args.pieces.now c.args.piece
    (none-there (length c.args.pieces.now) (sym c.if-is_empty.true ∙ c.is_empty.ensures))

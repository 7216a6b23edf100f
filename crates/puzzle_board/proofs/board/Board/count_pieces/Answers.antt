use Rattle.puzzle_board.proofs.Calls.{counted-pieces}
use Rattle.puzzle_board.proofs.board.Board.count_pieces.Goals as goal

pub returns-clause-value : goal.returns-clause-value
returns-clause-value g c =
    counted-pieces _ _ _ c.args.kind c.args.width c.list_of.result c.len.result c.self.invariant.pieces
    c.self.view_is c.list_of.ensures.value c.list_of.ensures.few c.len.ensures.len

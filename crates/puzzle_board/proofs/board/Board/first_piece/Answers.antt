use Rattle.puzzle_board.proofs.Calls.{found-piece}
use Rattle.puzzle_board.proofs.board.Board.first_piece.Goals as goal

pub returns-clause-found : goal.returns-clause-found
returns-clause-found g c =
    found-piece _ _ _ c.args.kind c.args.width c.list_of.result c.first.result c.self.invariant.pieces
    c.self.view_is c.list_of.ensures.value c.list_of.ensures.few c.first.ensures.first

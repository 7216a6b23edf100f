use Rattle.puzzle_board.proofs.Calls.{found-area}
use Rattle.puzzle_board.proofs.board.Board.first_area.Goals as goal

pub returns-clause-found : goal.returns-clause-found
returns-clause-found g c =
    found-area _ _ _ _ _ _ c.args.kind c.list.result c.first.result c.self.invariant c.self.view_is
    c.list.ensures.value c.list.ensures.few c.first.ensures.first

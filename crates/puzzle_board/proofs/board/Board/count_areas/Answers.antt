use Rattle.puzzle_board.proofs.Calls.{counted-areas}
use Rattle.puzzle_board.proofs.board.Board.count_areas.Goals as goal

pub returns-clause-value : goal.returns-clause-value
returns-clause-value g c =
    counted-areas _ _ _ _ _ _ c.args.kind c.list.result c.len.result c.self.invariant c.self.view_is
    c.list.ensures.value c.list.ensures.few c.len.ensures.len

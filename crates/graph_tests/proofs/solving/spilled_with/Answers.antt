use Rattle.std.proofs.Common.{List, ℕ, subst, sym}
use Rattle.std.specs.List.{AllByRecursion}
use Rattle.puzzle_board.specs.declared.piece.Piece.{Piece}
use Rattle.puzzle_board.specs.Boards.{remaining}
use Rattle.puzzle_board.specs.Classes.{IsAmong}
use Rattle.graph_tests.proofs.Ordered.{narrow-among}
use Rattle.graph_tests.proofs.solving.spilled_with.Goals as goal

pub fit-requires-clause-ordered : goal.fit-requires-clause-ordered
fit-requires-clause-ordered g c =
    let order : List ℕ = c.in_ok-order.order.items in
    let all = narrow-among c.args.candidates.now order c.in_ok-order.ensures in
    let left = subst (λ (ps : List Piece). AllByRecursion (λ p. IsAmong order p.var) ps)
    (sym c.in_ok-board.ensures.remain) all in
    subst (λ (vs : List ℕ). AllByRecursion (λ p. IsAmong vs p.var) (remaining c.in_ok-board.board))
    (sym c.deref.ensures.value) left

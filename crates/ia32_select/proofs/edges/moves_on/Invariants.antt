-- The moves so far, and what is left.
use Rattle.std.proofs.Common.{◌⊎◌, ℕ, drop}
use Rattle.puzzle_board.specs.Places.{entries_at}
use Rattle.ia32_select.specs.EdgeMoves.{AreMovesOf, IsMinded}
use Rattle.ia32_select.proofs.Gathering.{IsLeft}
use Rattle.ia32_select.proofs.edges.moves_on.Given as goal

abbrev pub invariant-loop-entry : goal.invariant-loop-entry
invariant-loop-entry l = record {
  so_far : AreMovesOf l.edge.graph.now l.edge.map.now l.edge.point l.edge.next l.variables.items l.moves.items;
  left : (v : ℕ) → IsMinded l.edge.map.now l.edge.point l.edge.next l.variables.items v
      ⊎ IsLeft (drop l.entry-index (entries_at l.edge.map.now.before l.edge.next)) v;
}

use Rattle.std.proofs.Common.{◌-◌, ◌≡◌, ◌<◌, ◌≤◌, ℕ, length}
use Rattle.lower.specs.StartedBlocks.{starts_at}
use Rattle.lower_lines.specs.Statements.{labelled_before, labelled_from}
use Rattle.lower.proofs.labels.starts_of.Given as goal

abbrev pub invariant-places : goal.invariant-places
invariant-places l = record {
  bound : l.place ≤ l.statements;
  size : length l.blocks.items ≡ l.place;
  count : l.count ≡ labelled_before l.labels l.place;
  starts : (p : ℕ) → p < l.place → starts_at l.blocks.items p ≡ labelled_from l.first l.labels p;
}

abbrev pub decreases-places : goal.decreases-places
decreases-places l = l.statements - l.place

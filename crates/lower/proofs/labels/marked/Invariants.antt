use Rattle.std.proofs.Common.{◌≡◌, ◌<◌, ◌≤◌, ℕ, drop, false, length, get_or}
use Rattle.lower_lines.specs.Statements.{has_label}
use Rattle.lower.proofs.labels.marked.Given as goal

abbrev pub invariant-labels : goal.invariant-labels
invariant-labels l = record {
  bound : l.left ≤ length l.labels;
  size : length l.marks.items ≡ l.statements;
  marks : (p : ℕ) → p < l.statements → get_or l.marks.items p false ≡ has_label (drop l.left l.labels) p;
}

abbrev pub decreases-labels : goal.decreases-labels
decreases-labels l = l.left

use Rattle.std.proofs.Common.{◌-◌, ◌≡◌, ◌≤◌, ℕ, false, length, get_or}
use Rattle.lower.proofs.labels.unmarked.Given as goal

abbrev pub invariant-places : goal.invariant-places
invariant-places l = record {
  bound : l.place ≤ l.statements;
  size : length l.marks.items ≡ l.place;
  none : (p : ℕ) → get_or l.marks.items p false ≡ false;
}

abbrev pub decreases-places : goal.decreases-places
decreases-places l = l.statements - l.place

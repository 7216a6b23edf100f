-- The notes from here on are known.
use Rattle.std.proofs.Common.{◌≤◌, map, drop, length}
use Rattle.c_check_expressions.specs.Notes.{note_of}
use Rattle.c_check.specs.Tables.{known_of, IsKnownOf}
use Rattle.c_check.proofs.known.defined.Given as goal

abbrev pub invariant-notes : goal.invariant-notes
invariant-notes l = record {
  within : l.left ≤ length l.notes;
  known : IsKnownOf (map note_of (drop l.left l.notes)) (known_of l.known);
}

abbrev pub decreases-notes : goal.decreases-notes
decreases-notes l = l.left

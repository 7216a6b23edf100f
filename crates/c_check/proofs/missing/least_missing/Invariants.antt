-- What is found is the least from here on.
use Rattle.std.proofs.Common.{◌≡◌, ◌≤◌, map, drop, length}
use Rattle.std.specs.Prelude.{filter_map}
use Rattle.c_typing.specs.Faults.{least}
use Rattle.c_typing.specs.Numbering.{missing_at}
use Rattle.c_check_expressions.specs.Notes.{note_of}
use Rattle.c_check.proofs.missing.least_missing.Given as goal

abbrev pub invariant-notes : goal.invariant-notes
invariant-notes l = record {
  within : l.left ≤ length l.notes;
  found : l.found ≡ least (filter_map (missing_at (map note_of l.notes)) (map note_of (drop l.left l.notes)));
}

abbrev pub decreases-notes : goal.decreases-notes
decreases-notes l = l.left

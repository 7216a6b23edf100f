-- Whether one of the notes from here on is of `main`.
use Rattle.std.proofs.Common.{◌≡◌, ◌≤◌, map, drop, length}
use Rattle.std.specs.List.{list_any}
use Rattle.c_typing.specs.Typed.{is_main}
use Rattle.c_check_expressions.specs.Notes.{note_of}
use Rattle.c_check.proofs.missing.has_main.Given as goal

abbrev pub invariant-notes : goal.invariant-notes
invariant-notes l = record {
  within : l.left ≤ length l.notes;
  found : l.found ≡ list_any is_main (map note_of (drop l.left l.notes));
}

abbrev pub decreases-notes : goal.decreases-notes
decreases-notes l = l.left

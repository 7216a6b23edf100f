-- The objects of the notes so far.
use Rattle.std.proofs.Common.{◌≡◌, map, take}
use Rattle.c_typing.specs.Library.{Entity}
use Rattle.c_check_expressions.specs.Notes.{note_of}
use Rattle.c_check.specs.Tables.{known_of, object_described, test_of}
use Rattle.c_check.proofs.Order.{objects_with, seen_in}
use Rattle.c_check.proofs.first_values.describe.Given as goal

abbrev pub invariant-notes : goal.invariant-notes
invariant-notes l = record {
  seen : (e : Entity) → test_of l.seen e ≡ seen_in (known_of l.known) (map note_of (take l.note-index l.notes)) e;
  objects : map object_described l.objects.items
      ≡ objects_with (known_of l.known) (map note_of (take l.note-index l.notes));
}

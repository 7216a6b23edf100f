-- The numbers of the notes so far.
use Rattle.std.proofs.Common.{◌≡◌, map, take}
use Rattle.c_check_expressions.specs.Notes.{note_of}
use Rattle.c_check.specs.Tables.{known_of}
use Rattle.c_check.proofs.Order.{numbers_with}
use Rattle.c_check.proofs.numbers.numbered.Given as goal

abbrev pub invariant-notes : goal.invariant-notes
invariant-notes l = l.numbers ≡ numbers_with (known_of l.known).objects (map note_of (take l.note-index l.notes))

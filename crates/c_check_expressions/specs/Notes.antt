-- What the code's notes are to the definitions of typing.
use Rattle.c_typing.specs.Checked as checked
use Rattle.c_check_names.specs.Views.{entity_of, declared_of}
use Rattle.c_check_expressions.specs.declared.notes.Contents.{Contents}
use Rattle.c_check_expressions.specs.declared.notes.Contents.TheVariants as contents
use Rattle.c_check_expressions.specs.declared.notes.Stored.{Stored}
use Rattle.c_check_expressions.specs.declared.notes.Note.{Note}
use Rattle.c_check_expressions.specs.declared.notes.Note.TheVariants as notes

abbrev pub contents_of : Contents → checked.Contents
contents_of contents.Elsewhere = checked.Elsewhere
contents_of contents.Zeros = checked.Zeros
contents_of (contents.Values values) = checked.Values values.items

abbrev pub stored_of : Stored → checked.Stored
stored_of s = record {
  entity = entity_of s.entity;
  element = s.element;
  count = s.count;
  contents = contents_of s.contents;
}

abbrev pub note_of : Note → checked.Note
note_of (notes.Uses entity at) = checked.Uses (entity_of entity) at
note_of (notes.Stores stored) = checked.Stores (stored_of stored)
note_of (notes.Defines entity declared) = checked.Defines (entity_of entity) (declared_of declared)

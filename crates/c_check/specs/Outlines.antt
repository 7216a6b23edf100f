-- A program before its functions have their numbers and its objects their elements.
use Rattle.std.specs.Prelude.{◌≡◌, List, [], map, true}
use Rattle.std.specs.List.{list_any}
use Rattle.pcc_base.specs.declared.span.Span.{Span}
use Rattle.pcc_base.specs.declared.fault.Fault.{Fault}
use Rattle.pcc_base.specs.declared.refusal.Refusal.{Refusal}
use Rattle.pcc_base.specs.declared.refusal.Refusal.TheVariants as refusals
use Rattle.std.specs.Prelude.{Option, Some}
use Rattle.c_syntax.specs.Statements.{ExternalTree}
use Rattle.c_tree.specs.Program as tree
use Rattle.c_typing.specs.Checked.{Note}
use Rattle.c_typing.specs.Faults.{least}
use Rattle.c_typing.specs.Library.{number_among}
use Rattle.c_typing.specs.Numbering.{missing, numbers_of, static_objects}
use Rattle.c_typing.specs.Typed.{faults_of, is_main, limit_of, main, no_main, notes_of, or_else}
use Rattle.c_check.specs.Tables.{object_described}
use Rattle.c_check.specs.declared.outlines.Outline.{Outline}

-- the program that an outline is with these functions
abbrev pub made : Outline → List tree.Function → tree.Program
made o functions = record {
  objects = map object_described o.objects.items;
  functions = functions;
  main = o.main;
}

-- what notes give of a program, where nothing is missing
pub record IsOutlineOf (notes : List Note) (o : Outline) : Type 0 where
  pub bodies : missing notes ≡ []
  pub has_main : list_any is_main notes ≡ true
  pub main : o.main ≡ number_among (numbers_of notes).functions main
  pub objects : map object_described o.objects.items ≡ static_objects notes

-- files without a fault have this outline
pub record IsOutline (units : List (List ExternalTree)) (o : Outline) : Type 0 where
  pub no_fault : faults_of units ≡ []
  pub noted : IsOutlineOf (notes_of units) o

-- the fault of files that fit: what is missing
abbrev pub unfinished : List Note → Span → Option Fault
unfinished notes end = or_else (least (missing notes)) (no_main (list_any is_main notes) end)

-- why files that fit have no typed program
abbrev pub IsUnfinished : List Note → Span → Refusal → Type 0
IsUnfinished notes end (refusals.Fault f) = unfinished notes end ≡ Some f
IsUnfinished notes end (refusals.Limit limit) = ⊥
IsUnfinished notes end refusals.NoMemory = Unit {0}

-- why a program isn't answered: the limit that it is above
abbrev pub IsTooLarge : tree.Program → Refusal → Type 0
IsTooLarge p (refusals.Fault f) = ⊥
IsTooLarge p (refusals.Limit limit) = limit_of p ≡ Some limit
IsTooLarge p refusals.NoMemory = Unit {0}

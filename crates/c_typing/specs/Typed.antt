-- The one typed program of files, or why there is none: the least fault, or a limit.
use Rattle.std.specs.Prelude.{◌≡◌, ℕ, suc, ◌+◌, ◌*◌, ◌/◌, List, [], ◌∷◌, length, codes, sum_by, Bool, true, false}
use Rattle.std.specs.Prelude.{◌&&◌, Option, Some, None, if◌then◌else◌, nat_lt}
use Rattle.std.specs.List.{list_any}
use Rattle.pcc_base.specs.declared.span.Span.{Span}
use Rattle.pcc_base.specs.declared.fault.Fault.{Fault}
use Rattle.pcc_base.specs.declared.fault.FaultKind.TheVariants.{NoMain}
use Rattle.pcc_base.specs.declared.refusal.Limit.{Limit}
use Rattle.pcc_base.specs.declared.refusal.Limit.TheVariants.{Arrays, Frame}
use Rattle.c_syntax.specs.Statements.{ExternalTree}
use Rattle.c_tree.specs.Program.{int, StaticObject, Function, Program}
use Rattle.c_tree.specs.Sizes.{bytes_of, frame_bound}
use Rattle.c_typing.specs.Faults.{fault, least}
use Rattle.c_typing.specs.Library.{Entity, Shared, same_entity, number_among}
use Rattle.c_typing.specs.Types.{DeclaredFunction, same_type}
use Rattle.c_typing.specs.Checked.{Checked, Note, Uses, Stores, Defines, faults_in, notes_in, value_in}
use Rattle.c_typing.specs.Names.{Numbers, first_scope}
use Rattle.c_typing.specs.Numbering.{numbers_of, static_objects, missing}
use Rattle.c_typing.specs.Files.{typed_units}

-- ---- faults

-- the files, where objects and functions have these numbers
abbrev pub judged : Numbers → List (List ExternalTree) → Checked (List Function)
judged numbers units = typed_units units (first_scope numbers)

abbrev pub no_numbers : Numbers
no_numbers = record { objects = []; functions = [] }

-- the numbers that the files give, by what they note where nothing has a number yet
abbrev pub numbers_in : List (List ExternalTree) → Numbers
numbers_in units = numbers_of (notes_in (judged no_numbers units))

abbrev pub checked : List (List ExternalTree) → Checked (List Function)
checked units = judged (numbers_in units) units

-- all faults but those of definitions that are missing
abbrev pub faults_of : List (List ExternalTree) → List Fault
faults_of units = faults_in (checked units)

abbrev pub notes_of : List (List ExternalTree) → List Note
notes_of units = notes_in (checked units)

-- the places where something is called or used that no file defines
abbrev pub missing_bodies : List (List ExternalTree) → List Fault
missing_bodies units = missing (notes_of units)

-- `int main(void)` (C99 5.1.2.2.1)
abbrev pub main : Entity
main = Shared (codes "main")

abbrev pub is_main : Note → Bool
is_main (Uses e at) = false
is_main (Stores stored) = false
is_main (Defines e type) = same_entity e main && same_type type (DeclaredFunction (Some int) [])

abbrev pub has_main : List (List ExternalTree) → Bool
has_main units = list_any is_main (notes_of units)

-- ---- the program

abbrev pub program_with : Numbers → List Note → Option (List Function) → Option Program
program_with numbers notes None = None
program_with numbers notes (Some functions) = Some (record {
  objects = static_objects notes;
  functions = functions;
  main = number_among numbers.functions main;
})

abbrev pub elaborated : List (List ExternalTree) → Option Program
elaborated units = program_with (numbers_in units) (notes_of units) (value_in (checked units))

-- the files have this typed program
pub record Typed (units : List (List ExternalTree)) (p : Program) : Type 0 where
  pub no_fault : faults_of units ≡ []
  pub bodies : missing_bodies units ≡ []
  pub main : has_main units ≡ true
  pub is : elaborated units ≡ Some p

-- ---- refusals

-- the first of two answers that there is
abbrev pub or_else : Option Fault → Option Fault → Option Fault
or_else None g = g
or_else (Some f) g = Some f

-- no `main` is a fault at the end of the last file
abbrev pub no_main : Bool → Span → Option Fault
no_main true end = None
no_main false end = Some (fault NoMain end)

-- The fault that is answered: a definition that is missing is one where there is no other but a missing `main`, and
-- that only where there is no other.
abbrev pub fault_of : List (List ExternalTree) → Span → Option Fault
fault_of units end =
    or_else (least (faults_of units)) (or_else (least (missing_bodies units)) (no_main (has_main units) end))

abbrev pub IsLeastFault : List (List ExternalTree) → Span → Fault → Type 0
IsLeastFault units end f = fault_of units end ≡ Some f

-- ---- limits

-- an object has a word with its element count, and its elements, padded to words
abbrev pub object_bytes : StaticObject → ℕ
object_bytes o = 4 + (length o.elements * bytes_of o.element + 3) / 4 * 4

abbrev pub arrays_bytes : Program → ℕ
arrays_bytes p = sum_by object_bytes p.objects

abbrev pub most_arrays : ℕ
most_arrays = 0x01000000

abbrev pub most_frame : ℕ
most_frame = 0x4000

-- the first function, from a number on, whose frame is too large
abbrev pub large_frame : ℕ → List Function → Option Limit
large_frame k [] = None
large_frame k (f ∷ fs) =
    if nat_lt most_frame (frame_bound f) then Some (Frame k (frame_bound f)) else large_frame (suc k) fs

-- the limit that a typed program is above, where it is: first that of the static objects, then that of frames
abbrev pub limit_of : Program → Option Limit
limit_of p = if nat_lt most_arrays (arrays_bytes p) then Some (Arrays (arrays_bytes p)) else large_frame 0 p.functions

-- the files have this typed program, which is within the limits
pub record IsAccepted (units : List (List ExternalTree)) (p : Program) : Type 0 where
  pub typed : Typed units p
  pub small : limit_of p ≡ None

-- the files have a typed program that is above this limit
pub record IsAbove (units : List (List ExternalTree)) (limit : Limit) : Type 0 where
  pub program : Program
  pub typed : Typed units program
  pub above : limit_of program ≡ Some limit

-- ---- what is found of files that have an elaborated program

abbrev pub objects_in : Option Program → List StaticObject
objects_in None = []
objects_in (Some p) = p.objects

abbrev pub objects_found : List (List ExternalTree) → List StaticObject
objects_found units = objects_in (elaborated units)

abbrev pub limit_in : Option Program → Option Limit
limit_in None = None
limit_in (Some p) = limit_of p

abbrev pub limit_found : List (List ExternalTree) → Option Limit
limit_found units = limit_in (elaborated units)

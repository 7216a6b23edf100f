-- The static objects and functions of a program, in the order of their numbers.
--
-- Functions are numbered by their definitions, in the order of the text. Static objects are the defined objects of
-- static storage and the string literals, in the order of the first places that declare or spell them.
use Rattle.std.specs.Prelude.{ℕ, zero, suc, ℤ, pos, List, [], ◌∷◌, map, filter, filter_map, Bool, true, false, not}
use Rattle.std.specs.Prelude.{◌||◌}
use Rattle.std.specs.Prelude.{Option, Some, None, if◌then◌else◌}
use Rattle.std.specs.List.{list_any}
use Rattle.pcc_base.specs.declared.fault.Fault.{Fault}
use Rattle.pcc_base.specs.declared.fault.FaultKind.TheVariants.{NoBody}
use Rattle.c_tree.specs.Program.{StaticObject}
use Rattle.c_typing.specs.Faults.{fault}
use Rattle.c_typing.specs.Library.{Entity, same_entity}
use Rattle.c_typing.specs.Checked.{Contents, Elsewhere, Zeros, Values, Stored, Note, Uses, Stores, Defines}
use Rattle.c_typing.specs.Names.{Numbers}

abbrev pub object_noted : Note → Option Stored
object_noted (Uses e at) = None
object_noted (Stores stored) = Some stored
object_noted (Defines e type) = None

-- the objects where they are declared or spelled
abbrev pub objects_noted : List Note → List Stored
objects_noted notes = filter_map object_noted notes

abbrev pub function_noted : Note → Option Entity
function_noted (Uses e at) = None
function_noted (Stores stored) = None
function_noted (Defines e type) = Some e

-- ---- which objects are defined (C99 6.9.2)

abbrev pub defines : Contents → Bool
defines Elsewhere = false
defines Zeros = true
defines (Values values) = true

abbrev pub is_defining : Entity → Stored → Bool
is_defining e o = if same_entity o.entity e then defines o.contents else false

abbrev pub is_defined : List Stored → Entity → Bool
is_defined all e = list_any (is_defining e) all

-- ---- the objects in order

abbrev pub is_not : Entity → Stored → Bool
is_not e o = not (same_entity o.entity e)

-- each object once, where it is first
abbrev pub first_ones : List Stored → List Stored
first_ones [] = []
first_ones (o ∷ os) = o ∷ filter (is_not o.entity) (first_ones os)

abbrev pub defined_ones : List Stored → List Stored
defined_ones all = filter (λ o. is_defined all o.entity) (first_ones all)

abbrev pub numbers_of : List Note → Numbers
numbers_of notes = record {
  objects = map (λ o. o.entity) (defined_ones (objects_noted notes));
  functions = filter_map function_noted notes;
}

-- ---- what they hold at first

-- as many elements as there are: these values, and then zeros (C99 6.7.8p21)
abbrev pub filled : ℕ → List ℤ → List ℤ
filled zero values = []
filled (suc n) [] = pos 0 ∷ filled n []
filled (suc n) (v ∷ vs) = v ∷ filled n vs

abbrev pub values_or : List ℤ → Contents → List ℤ
values_or other Elsewhere = other
values_or other Zeros = other
values_or other (Values values) = values

-- the values that a declaration of the object gives; at most one does
abbrev pub values_of : List Stored → Entity → List ℤ
values_of [] e = []
values_of (o ∷ os) e = if same_entity o.entity e then values_or (values_of os e) o.contents else values_of os e

abbrev pub static_object : List Stored → Stored → StaticObject
static_object all o = record { element = o.element; elements = filled o.count (values_of all o.entity) }

abbrev pub static_objects : List Note → List StaticObject
static_objects notes = map (static_object (objects_noted notes)) (defined_ones (objects_noted notes))

-- ---- what is called or used without a definition

abbrev pub is_function_of : Entity → Note → Bool
is_function_of e (Uses f at) = false
is_function_of e (Stores stored) = false
is_function_of e (Defines f type) = same_entity f e

abbrev pub is_there : List Note → Entity → Bool
is_there notes e = is_defined (objects_noted notes) e || list_any (is_function_of e) notes

abbrev pub missing_at : List Note → Note → Option Fault
missing_at notes (Uses e at) = if is_there notes e then None else Some (fault NoBody at)
missing_at notes (Stores stored) = None
missing_at notes (Defines e type) = None

abbrev pub missing : List Note → List Fault
missing notes = filter_map (missing_at notes) notes

-- What is known of the things that notes speak of.
use Rattle.std.specs.Prelude.{◌≡◌, ℤ, List, [], ◌∷◌, filter_map, option_map, Bool, false, ◌||◌, Option, Some, None}
use Rattle.std.specs.Prelude.{if◌then◌else◌}
use Rattle.std.specs.List.{list_any, AllByRecursion}
use Rattle.std.specs.Map.{lookup}
use Rattle.c_tree.specs.Program as tree
use Rattle.c_typing.specs.Library.{Entity, same_entity}
use Rattle.c_typing.specs.Checked as checked
use Rattle.c_typing.specs.Checked.{Note, Uses, Stores, Defines}
use Rattle.c_typing.specs.Names.{Numbers}
use Rattle.c_typing.specs.Numbering.{is_defined, is_function_of, values_of, objects_noted, function_noted, filled}
use Rattle.c_check_names.specs.declared.entity.Entity.{Entity as Stored}
use Rattle.c_check_names.specs.Views.{entity_of, with_entity}
use Rattle.c_check.specs.declared.known.Known.{Known as Table}
use Rattle.c_check.specs.declared.first_values.Described.{Described}
use Rattle.c_check.specs.declared.tables.Things.{Things}
use Rattle.c_check.specs.declared.tables.Values.{Values}

-- ---- tables, as functions

abbrev pub is_entity : Entity → Stored → Bool
is_entity e k = same_entity (entity_of k) e

-- which things are among the stored ones
abbrev pub among : List Stored → Entity → Bool
among ks e = list_any (is_entity e) ks

abbrev pub nothing : Entity → Bool
nothing e = false

abbrev pub with_thing : Entity → (Entity → Bool) → Entity → Bool
with_thing thing old e = same_entity thing e || old e

abbrev pub values_or_none : Option (List ℤ) → List ℤ
values_or_none None = []
values_or_none (Some values) = values

abbrev pub no_values : Entity → List ℤ
no_values e = []

abbrev pub with_values : Entity → List ℤ → (Entity → List ℤ) → Entity → List ℤ
with_values thing values old e = if same_entity thing e then values else old e

abbrev pub test_of : Things → Entity → Bool
test_of t e = among t.things.keys e

abbrev pub values_in : Values → Entity → List ℤ
values_in t e = values_or_none (option_map (λ v. v.items) (lookup (is_entity e) t.values.entries))

-- ---- what notes define

-- which objects and functions are defined, and what values the objects have
pub record Known : Type 0 where
  pub objects : Entity → Bool
  pub values : Entity → List ℤ
  pub functions : Entity → Bool

abbrev pub known_of : Table → Known
known_of t = record { objects = test_of t.objects; values = values_in t.values; functions = test_of t.functions }

pub record IsKnownOf (notes : List Note) (k : Known) : Type 0 where
  pub objects : (e : Entity) → k.objects e ≡ is_defined (objects_noted notes) e
  pub values : (e : Entity) → k.values e ≡ values_of (objects_noted notes) e
  pub functions : (e : Entity) → k.functions e ≡ list_any (is_function_of e) notes

-- each function is defined once
abbrev pub AreApart : List Entity → Type 0
AreApart [] = Unit {0}
AreApart (e ∷ es) = AllByRecursion (λ f. same_entity e f ≡ false) es × AreApart es

abbrev pub AreDefinedOnce : List Note → Type 0
AreDefinedOnce notes = AreApart (filter_map function_noted notes)

-- what a note numbers has a number, where these objects are defined
abbrev pub with_number : (Entity → Bool) → Note → Numbers → Numbers
with_number defined (Uses e at) n = n
with_number defined (Stores o) n = if defined o.entity then record n { objects = with_entity n.objects o.entity } else n
with_number defined (Defines e type) n = record n { functions = with_entity n.functions e }

-- ---- objects whose elements aren't built yet

abbrev pub object_described : Described → tree.StaticObject
object_described d = record { element = d.element; elements = filled d.count d.values.items }

-- what one note more gives objects
abbrev pub is_seen_with : Note → (Entity → Bool) → Entity → Bool
is_seen_with (Uses e at) seen = seen
is_seen_with (Stores o) seen = with_thing o.entity seen
is_seen_with (Defines e type) seen = seen

abbrev pub described_as : checked.Stored → List ℤ → tree.StaticObject
described_as o values = record { element = o.element; elements = filled o.count values }

-- an object is described where it is first, if it is defined
abbrev pub described_by : Known → (Entity → Bool) → Note → List tree.StaticObject
described_by k seen (Uses e at) = []
described_by k seen (Stores o) =
    if seen o.entity then []
    else if k.objects o.entity then described_as o (k.values o.entity) ∷ []
    else []
described_by k seen (Defines e type) = []

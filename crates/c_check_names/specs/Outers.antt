-- What a table keeps of the declarations outside functions: of each thing, what all of its declarations say.
use Rattle.std.specs.Prelude.{◌≡◌, List, slice_get, Bool, true, false, not, ◌&&◌, Option, Some, None}
use Rattle.std.specs.List.{list_any}
use Rattle.std.specs.Map.{lookup}
use Rattle.c_typing.specs.Library as library
use Rattle.c_typing.specs.Library.{same_entity}
use Rattle.c_typing.specs.Names as names
use Rattle.c_typing.specs.Types.{same_type}
use Rattle.c_check_names.specs.declared.entity.Entity.{Entity}
use Rattle.c_check_names.specs.declared.sums.Seen.{Seen}
use Rattle.c_check_names.specs.Views.{entity_of}

-- what is stored is this thing
abbrev pub is_entity : library.Entity → Entity → Bool
is_entity e k = same_entity (entity_of k) e

-- nothing is known where it isn't declared; the place of its first declaration, whether another one has another type,
-- and whether one of them is whole
abbrev pub IsSummed : List names.Outer → library.Entity → Option Seen → Type 0
IsSummed os e None = list_any (λ o. same_entity e o.entity) os ≡ false
IsSummed os e (Some s) = (first : names.Outer) × (slice_get os s.first ≡ Some first)
    × (same_entity e first.entity ≡ true)
    × (list_any (λ o. same_entity e o.entity && not (same_type first.type o.type)) os ≡ s.mixed)
    × (list_any (λ o. same_entity e o.entity && o.whole) os ≡ s.whole)

-- of each thing
abbrev pub SumsUp : List names.Outer → List (Entity × Seen) → Type 0
SumsUp os entries = (e : library.Entity) → IsSummed os e (lookup (is_entity e) entries)

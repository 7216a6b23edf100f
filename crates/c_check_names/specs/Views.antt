-- What the entities, meanings and declarations of the tables are to the definitions of typing.
use Rattle.std.specs.Prelude.{List, [], ◌∷◌, ◌++◌, if◌then◌else◌}
use Rattle.std.specs.List.{list_any}
use Rattle.c_typing.specs.Library as library
use Rattle.c_typing.specs.Names as names
use Rattle.c_typing.specs.Types as types
use Rattle.c_check_names.specs.declared.entity.LibraryFunction.{LibraryFunction}
use Rattle.c_check_names.specs.declared.entity.LibraryFunction.TheVariants as functions
use Rattle.c_check_names.specs.declared.entity.Entity.{Entity}
use Rattle.c_check_names.specs.declared.entity.Entity.TheVariants as entities
use Rattle.c_check_names.specs.declared.meaning.Signature.{Signature}
use Rattle.c_check_names.specs.declared.meaning.Meaning.{Meaning}
use Rattle.c_check_names.specs.declared.meaning.Meaning.TheVariants as meanings
use Rattle.c_check_names.specs.declared.meaning.Declared.{Declared}
use Rattle.c_check_names.specs.declared.meaning.Declared.TheVariants as kinds
use Rattle.c_check_names.specs.declared.meaning.Outer.{Outer}
use Rattle.c_check_names.specs.declared.meaning.Storage.{Storage}
use Rattle.c_check_names.specs.declared.meaning.Storage.TheVariants as storages

abbrev pub library_of : LibraryFunction → library.LibraryFunction
library_of functions.Putchar = library.Putchar
library_of functions.Getchar = library.Getchar
library_of functions.Exit = library.Exit

abbrev pub entity_of : Entity → library.Entity
entity_of (entities.Library f) = library.Library (library_of f)
entity_of (entities.Shared name) = library.Shared name.items
entity_of (entities.OfFile file name) = library.OfFile file name.items
entity_of (entities.At file line col) = library.At (record { file = file; line = line; col = col })

abbrev pub signature_of : Signature → names.Signature
signature_of g = record { result = g.result; parameters = g.parameters.items }

abbrev pub meaning_of : Meaning → names.Meaning
meaning_of (meanings.Local number of) = names.Local number of
meaning_of (meanings.LocalArray number element) = names.LocalArray number element
meaning_of (meanings.Object entity of) = names.Object (entity_of entity) of
meaning_of (meanings.ObjectArray entity element) = names.ObjectArray (entity_of entity) element
meaning_of (meanings.Function entity signature) = names.Function (entity_of entity) (signature_of signature)

abbrev pub declared_of : Declared → types.Declared
declared_of (kinds.Value of) = types.DeclaredValue of
declared_of (kinds.Array element count) = types.DeclaredArray element count
declared_of (kinds.Function result parameters) = types.DeclaredFunction result parameters.items

abbrev pub outer_of : Outer → names.Outer
outer_of o = record { entity = entity_of o.entity; type = declared_of o.declared; whole = o.whole }

abbrev pub storage_of : Storage → types.Storage
storage_of storages.Unsaid = types.Unsaid
storage_of storages.Auto = types.Auto
storage_of storages.Register = types.Register
storage_of storages.Static = types.Static
storage_of storages.Extern = types.Extern

-- one more entity has a number, unless it has one
abbrev pub with_entity : List library.Entity → library.Entity → List library.Entity
with_entity es e = if list_any (λ x. library.same_entity x e) es then es else es ++ e ∷ []

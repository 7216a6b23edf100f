-- What the code's specifiers and types of objects are to the definitions of typing.
use Rattle.std.specs.Prelude.{List, [], ◌∷◌, ◌++◌, filter_map, Option, Some, None}
use Rattle.c_syntax.specs.declared.operator.SpecifierWord.{SpecifierWord}
use Rattle.c_typing.specs.Declarators as declarators
use Rattle.c_typing.specs.Types as types
use Rattle.c_check_names.specs.declared.meaning.Storage.{Storage}
use Rattle.c_check_names.specs.declared.meaning.Storage.TheVariants as storages
use Rattle.c_check_names.specs.Views.{storage_of}
use Rattle.c_check_declarations.specs.declared.specifiers.Position.{Position}
use Rattle.c_check_declarations.specs.declared.specifiers.Position.TheVariants as positions
use Rattle.c_check_declarations.specs.declared.specifiers.Specified.{Specified}
use Rattle.c_check_declarations.specs.declared.objects.ObjectType.{ObjectType}
use Rattle.c_check_declarations.specs.declared.objects.ObjectType.TheVariants as objects

abbrev pub position_of : Position → types.Position
position_of positions.Outside = types.Outside
position_of positions.InBlock = types.InBlock
position_of positions.InFor = types.InFor
position_of positions.InParameters = types.InParameters
position_of positions.InCast = types.InCast

-- the storage words that were found, of which there is one at most
abbrev pub storage_words : Storage → List types.Storage
storage_words storages.Unsaid = []
storage_words storages.Auto = types.Auto ∷ []
storage_words storages.Register = types.Register ∷ []
storage_words storages.Static = types.Static ∷ []
storage_words storages.Extern = types.Extern ∷ []

-- the storage that these and more specifiers say; none where too many were found
abbrev pub storage_behind : Option Storage → List SpecifierWord → Option types.Storage
storage_behind None words = None
storage_behind (Some found) words =
    types.the_storage (storage_words found ++ filter_map types.storage_word words)

abbrev pub specified_of : Specified → types.Specified
specified_of s = record { base = s.base; storage = storage_of s.storage }

abbrev pub object_of : ObjectType → declarators.ObjectType
object_of (objects.Integer of) = declarators.IntegerObject of
object_of (objects.Pointer element) = declarators.PointerObject element
object_of (objects.Array element count) = declarators.ArrayObject element count

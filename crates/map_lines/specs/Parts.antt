-- The objects, frame arrays and variables of a map, as a program, the addresses of its objects and the places of its frame
-- arrays fix them.
use Rattle.std.specs.Prelude.{ℕ, List, [], ◌∷◌, length}
use Rattle.pcc_base.specs.declared.run.Width.{Width}
use Rattle.pcc_base.specs.declared.run.Width.TheVariants.{One, Two}
use Rattle.c_tree.specs.declared.types.IntegerType.TheVariants.{Char, Short, Int, UnsignedInt}
use Rattle.c_tree.specs.declared.types.ValueType.{ValueType}
use Rattle.c_tree.specs.declared.types.ValueType.TheVariants.{Void, Integer, Pointer}
use Rattle.c_tree.specs.Program.{StaticObject, Local, LocalArray}
use Rattle.c_tree.specs.Sizes.{bytes_of}
use Rattle.map_text.specs.Maps.{MapObject, MapArray, MapVariable, NamesScalar, NamesArray, NamesIndex, Temporary}

-- the static objects at these addresses
abbrev pub objects_at : List StaticObject → List ℕ → List MapObject
objects_at [] addresses = []
objects_at (o ∷ os) [] = []
objects_at (o ∷ os) (address ∷ addresses) =
    record { address = address; count = length o.elements; bytes = bytes_of o.element } ∷ objects_at os addresses

-- the frame arrays, so far below the frame
abbrev pub arrays_at : List LocalArray → List ℕ → List MapArray
arrays_at [] belows = []
arrays_at (a ∷ others) [] = []
arrays_at (a ∷ others) (below ∷ belows) =
    record { below = below; count = a.count; bytes = bytes_of a.element } ∷ arrays_at others belows

-- the variables of a local of a type: one for an integer, and two for a pointer, its array and then its index
abbrev pub typed_variables : List ℕ → ValueType → List MapVariable
typed_variables name Void = []
typed_variables name (Integer Char) = record { width = One; named = NamesScalar name } ∷ []
typed_variables name (Integer Short) = record { width = Two; named = NamesScalar name } ∷ []
typed_variables name (Integer Int) = record { width = Two; named = NamesScalar name } ∷ []
typed_variables name (Integer UnsignedInt) = record { width = Two; named = NamesScalar name } ∷ []
typed_variables name (Pointer element) =
    record { width = Two; named = NamesArray name } ∷ record { width = Two; named = NamesIndex name } ∷ []

abbrev pub local_variables : Local → List MapVariable
local_variables l = typed_variables l.name l.of

abbrev pub temporary : Width → MapVariable
temporary width = record { width = width; named = Temporary }

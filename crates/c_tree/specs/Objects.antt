-- The static objects of a program as an image has them.
use Rattle.std.specs.Prelude.{List, map}
pub use Rattle.pcc_base.specs.Objects.{Object, IsObject}
use Rattle.c_tree.specs.Program.{StaticObject, Program}
use Rattle.c_tree.specs.Sizes.{bytes_of}

-- an object with the bytes of an element of its type
abbrev pub data_object : StaticObject → Object
data_object o = record { width = bytes_of o.element; elements = o.elements }

abbrev pub data_objects : Program → List Object
data_objects program = map data_object program.objects

-- Which map a tree in memory is.
use Rattle.std.specs.Prelude.{List, map}
use Rattle.map_text.specs.Entries.{below, standings_of}
use Rattle.map_text.specs.Maps as maps
use Rattle.map_text.specs.Maps.{NamesScalar, NamesArray, NamesIndex}
use Rattle.map_file.specs.declared.file.MapArray.{MapArray}
use Rattle.map_file.specs.declared.file.MapBlock.{MapBlock}
use Rattle.map_file.specs.declared.file.MapFile.{MapFile}
use Rattle.map_file.specs.declared.file.MapFunction.{MapFunction}
use Rattle.map_file.specs.declared.file.MapName.{MapName}
use Rattle.map_file.specs.declared.file.MapName.TheVariants.{Scalar, Base, Index, Temporary}
use Rattle.map_file.specs.declared.file.MapObject.{MapObject}
use Rattle.map_file.specs.declared.file.MapPoint.{MapPoint}
use Rattle.map_file.specs.declared.file.MapVar.{MapVar}

abbrev pub object_of : MapObject → maps.MapObject
object_of o = record { address = o.address; count = o.count; bytes = o.bytes }

abbrev pub array_of : MapArray → maps.MapArray
array_of a = record { below = below a.offset; count = a.count; bytes = a.bytes }

abbrev pub name_of : MapName → maps.Named
name_of (Scalar name) = NamesScalar name
name_of (Base name) = NamesArray name
name_of (Index name) = NamesIndex name
name_of Temporary = maps.Temporary

abbrev pub variable_of : MapVar → maps.MapVariable
variable_of v = record { width = v.width; named = name_of v.name }

abbrev pub point_of : MapPoint → maps.MapPoint
point_of p =
    record {
      number = p.number;
      address = p.address;
      op = p.op;
      areas = p.areas;
      pieces = p.pieces.items;
      before = standings_of p.before.items;
      after = standings_of p.after.items;
      spilled = p.spilled.items;
    }

abbrev pub block_of : MapBlock → List maps.MapPoint
block_of b = map point_of b.points.items

abbrev pub function_of : MapFunction → maps.MapFunction
function_of f =
    record {
      name = f.name;
      frame = f.frame;
      arrays = map array_of f.arrays.items;
      variables = map variable_of f.vars.items;
      blocks = map block_of f.blocks.items;
    }

abbrev pub map_of : MapFile → maps.Map
map_of m = record { objects = map object_of m.objects.items; functions = map function_of m.functions.items }

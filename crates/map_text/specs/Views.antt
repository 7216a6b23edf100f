-- What each name in memory is.
use Rattle.map_text.specs.Maps as maps
use Rattle.map_text.specs.Maps.{NamesScalar, NamesArray, NamesIndex}
use Rattle.map_text.specs.declared.names.Named.{Named}
use Rattle.map_text.specs.declared.names.Named.TheVariants as named

abbrev pub named_of : Named → maps.Named
named_of (named.Scalar name) = NamesScalar name
named_of (named.Array name) = NamesArray name
named_of (named.Index name) = NamesIndex name
named_of named.Temporary = maps.Temporary

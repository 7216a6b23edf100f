-- What a line changes that is part of a function, and what one changes that is about a point.
use Rattle.std.specs.Prelude.{List, [], ◌∷◌, ◌++◌}
use Rattle.map_text.specs.Maps.{MapFunction, MapPoint}
use Rattle.map_text.specs.Reading.{in_last, new_point}
use Rattle.map_text.specs.Words.{AfterLine, ArrayLine, BeforeLine, BlockLine, BoardLine, EndLine, FunctionLine, Line}
use Rattle.map_text.specs.Words.{ObjectLine, PointLine, SpilledLine, TitleLine, VariableLine}

-- the last block is changed
abbrev pub with_blocks : (List MapPoint → List MapPoint) → MapFunction → MapFunction
with_blocks change f = record f { blocks = in_last change f.blocks }

abbrev pub part_put : Line → MapPoint → MapPoint
part_put TitleLine p = p
part_put (ObjectLine number address count bytes) p = p
part_put (FunctionLine number name frame) p = p
part_put (ArrayLine number below count bytes) p = p
part_put (VariableLine number width name) p = p
part_put (BlockLine number) p = p
part_put (PointLine number address op) p = p
part_put (BoardLine areas pieces) p = record p { areas = areas; pieces = pieces }
part_put (BeforeLine standings) p = record p { before = standings }
part_put (AfterLine standings) p = record p { after = standings }
part_put (SpilledLine variables) p = record p { spilled = variables }
part_put EndLine p = p

abbrev pub function_put : Line → MapFunction → MapFunction
function_put TitleLine f = f
function_put (ObjectLine number address count bytes) f = f
function_put (FunctionLine number name frame) f = f
function_put (ArrayLine number below count bytes) f =
    record f { arrays = f.arrays ++ record { below = below; count = count; bytes = bytes } ∷ [] }
function_put (VariableLine number width name) f =
    record f { variables = f.variables ++ record { width = width; named = name } ∷ [] }
function_put (BlockLine number) f = record f { blocks = f.blocks ++ [] ∷ [] }
function_put (PointLine number address op) f = with_blocks (λ points. points ++ new_point number address op ∷ []) f
function_put (BoardLine areas pieces) f = with_blocks (in_last (part_put (BoardLine areas pieces))) f
function_put (BeforeLine standings) f = with_blocks (in_last (part_put (BeforeLine standings))) f
function_put (AfterLine standings) f = with_blocks (in_last (part_put (AfterLine standings))) f
function_put (SpilledLine variables) f = with_blocks (in_last (part_put (SpilledLine variables))) f
function_put EndLine f = f

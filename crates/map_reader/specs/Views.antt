-- Which words and which line of a map those in memory are.
use Rattle.std.specs.Prelude.{ℕ, List, map}
use Rattle.std.specs.Borrow.{Bor}
use Rattle.map_text.specs.Entries.{standings_of}
use Rattle.map_text.specs.Words as words
use Rattle.map_text.specs.Words.{TitleLine, ObjectLine, FunctionLine, ArrayLine, VariableLine, BlockLine, PointLine}
use Rattle.map_text.specs.Words.{BoardLine, BeforeLine, AfterLine, SpilledLine, EndLine}
use Rattle.map_file.specs.Views.{array_of, object_of, variable_of}
use Rattle.map_reader.specs.declared.line.Line.{Line}
use Rattle.map_reader.specs.declared.line.Line.TheVariants.{Title, Object, Function, Array, Variable, Block, Point}
use Rattle.map_reader.specs.declared.line.Line.TheVariants.{Board, Before, After, Spilled, End}

abbrev pub texts : List (Bor (List ℕ)) → List (List ℕ)
texts words = map (λ w. w.now) words

abbrev pub line_of : Line → words.Line
line_of Title = TitleLine
line_of (Object number o) = ObjectLine number (object_of o).address (object_of o).count (object_of o).bytes
line_of (Function number name frame) = FunctionLine number name frame
line_of (Array number a) = ArrayLine number (array_of a).below (array_of a).count (array_of a).bytes
line_of (Variable number v) = VariableLine number (variable_of v).width (variable_of v).named
line_of (Block number) = BlockLine number
line_of (Point number address op) = PointLine number address op
line_of (Board areas pieces) = BoardLine areas pieces.items
line_of (Before entries) = BeforeLine (standings_of entries.items)
line_of (After entries) = AfterLine (standings_of entries.items)
line_of (Spilled variables) = SpilledLine variables.items
line_of End = EndLine

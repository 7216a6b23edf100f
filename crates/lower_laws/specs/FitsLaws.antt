-- That the variables, arrays and blocks of the ops of a typed program's graphs are there.
use Rattle.std.specs.Prelude.{◌≡◌, ◌<◌, length, FitsSigned}
use Rattle.std.specs.Int.{w32}
use Rattle.c_tree.specs.Program.{Function, Program}
use Rattle.flow_graph.specs.declared.op.Op.{Op}
use Rattle.flow_graph.specs.Graphs.{FitsOp, Flow}
use Rattle.flow_graph.specs.Shapes.{About, NothingElse, TheNumber, TheWord, TheObject, TheFunction, TheStatement}
use Rattle.flow_graph.specs.Shapes.{TheTurn, shape}
use Rattle.lower_lines.specs.Variables.{variable_widths}

-- the number of a `const` and that of an argument word are of 32 bits
abbrev pub IsSmall : About → Type 0
IsSmall NothingElse = Unit {0}
IsSmall (TheNumber n) = FitsSigned w32 n
IsSmall (TheWord k) = k < 0x1_0000_0000
IsSmall (TheObject k) = Unit {0}
IsSmall (TheFunction f) = Unit {0}
IsSmall (TheStatement s) = Unit {0}
IsSmall TheTurn = Unit {0}

-- the numbers of a `const` and of a `param` are of 32 bits
abbrev pub SmallNumber : Op → Type 0
SmallNumber op = IsSmall (shape op).about

-- what an op asks for is there, and its number fits
abbrev pub IsGood : Flow → Op → Type 0
IsGood flow i = FitsOp flow i × SmallNumber i

-- a graph with the variables and as many frame arrays as that of a function has
pub record Room : Type 0 where
  pub program : Program
  pub function : Function
  pub flow : Flow
  pub widths : flow.widths ≡ variable_widths function
  pub arrays : length flow.arrays ≡ length function.arrays

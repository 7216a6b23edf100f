-- The lines of functions, and the graphs of programs.
use Rattle.std.specs.Prelude.{ℕ, suc, ◌+◌, List, [], ◌∷◌, ◌++◌, map, take}
use Rattle.c_tree.specs.declared.types.IntegerType.TheVariants.{Char, Short, Int, UnsignedInt}
use Rattle.c_tree.specs.declared.types.ValueType.{ValueType}
use Rattle.c_tree.specs.declared.types.ValueType.TheVariants.{Void, Integer, Pointer}
use Rattle.c_tree.specs.Objects.{data_objects}
use Rattle.c_tree.specs.Program.{Local, Function, Program}
use Rattle.flow_graph.specs.declared.op.Op.TheVariants as op
use Rattle.flow_graph.specs.Graphs.{Flow}
use Rattle.flow_graph.specs.States.{GraphProgram}
use Rattle.lower_lines.specs.Lines.{Line, Start, Emit, graph_of_lines}
use Rattle.lower_lines.specs.Lowering.{array_of}
use Rattle.lower_lines.specs.Statements.{Exits, Leaves, Run, block_run, runs_of}
use Rattle.lower_lines.specs.Variables.{Context, Spot, local_spot, own, variable_widths}

-- ---- the start of a call (C99 6.5.2.2p7)

-- a parameter takes its argument words, in its type
abbrev pub parameter_of : Context → ValueType → Spot → ℕ → List Line
parameter_of c Void spot word = []
parameter_of c (Integer Char) spot word = Emit (op.Param (own c 0).number word)
    ∷ Emit (op.Low spot.number (own c 0).number) ∷ []
parameter_of c (Integer Short) spot word = Emit (op.Param (own c 0).number word)
    ∷ Emit (op.Low16 spot.number (own c 0).number) ∷ []
parameter_of c (Integer Int) spot word = Emit (op.Param spot.number word) ∷ []
parameter_of c (Integer UnsignedInt) spot word = Emit (op.Param spot.number word) ∷ []
parameter_of c (Pointer t) spot word = Emit (op.Param spot.array word) ∷ Emit (op.Param spot.number (suc word)) ∷ []

abbrev pub words_in : ValueType → ℕ
words_in Void = 0
words_in (Integer t) = 1
words_in (Pointer t) = 2

-- the parameters from a local on, whose words are those from one on
abbrev pub parameters_lines : Context → List Local → ℕ → ℕ → List Line
parameters_lines c [] local word = []
parameters_lines c (l ∷ ls) local word = parameter_of c l.of (local_spot c local) word
    ++ parameters_lines c ls (suc local) (word + words_in l.of)

-- ---- functions and programs

-- nothing is left by `break` or `continue` at the top of a function
abbrev pub no_exits : Exits
no_exits = record { breaks = 0; continues = 0 }

abbrev pub body_run : Context → Run
body_run c = block_run c (runs_of c c.function.body)

-- A call starts with its turn. Block 0 is the first.
abbrev pub lines_of_function : Context → List Line
lines_of_function c = Start 0 ∷ Emit op.Turn ∷ (parameters_lines c (take c.function.parameters c.function.locals) 0 0
    ++ (body_run c).lines no_exits 1 Leaves)

abbrev pub blocks_of_function : Context → ℕ
blocks_of_function c = suc ((body_run c).blocks Leaves)

abbrev pub graph_of_function : Program → Function → Flow
graph_of_function program f =
    let c : Context = record { program = program; function = f } in
    graph_of_lines (variable_widths f) (map array_of f.arrays) (blocks_of_function c) (lines_of_function c)

-- the graphs of a program
abbrev pub lowered : Program → GraphProgram
lowered program = record {
  functions = map (graph_of_function program) program.functions;
  objects = data_objects program;
  main = program.main;
}

-- All that lowering promises of the graphs of a program.
use Rattle.c_tree.specs.Program.{Program}
use Rattle.flow_graph.specs.Running.{IsNeverStuck}
use Rattle.flow_graph.specs.States.{GraphProgram}
use Rattle.flow_graph.specs.WellFormed.{IsGraphProgram}
use Rattle.lower_lines.specs.Lowering.{AreSmall, HasObjects, HaveMarks, HaveShapes, KeepsOutcome, MarksOnce}
use Rattle.lower_laws.specs.Declared.{IsDeclaredFirst}
use Rattle.lower_laws.specs.SettledLaws.{HaveLiveness, NothingLiveFirst}

-- The graphs are what the program is lowered to.
pub record AreLowered (program : Program) (graphs : GraphProgram) : Type 0 where
  -- they do what the program does
  pub keeps : KeepsOutcome program graphs
  -- every state that comes has its next one or an end
  pub never_stuck : IsNeverStuck graphs
  -- they are a program of graphs
  pub well_formed : IsGraphProgram graphs
  -- the first variables are the locals, frame arrays are the functions', and frames are within their bound
  pub shapes : HaveShapes program graphs
  pub objects : HasObjects program graphs
  -- each statement has one mark, in the graph of its function
  pub once : MarksOnce graphs
  pub marks : HaveMarks program graphs
  -- they grow no faster than the program
  pub small : AreSmall program graphs
  -- no temporary is live at a mark, and fixed operands die at their ops and are no other operand of them
  pub liveness : HaveLiveness program graphs
  -- no variable is live at a function's first point, where each local is declared before it is named
  pub first_points : IsDeclaredFirst program → NothingLiveFirst program graphs

-- The graphs of a program can be compiled, and their code over maps is selected.
use Rattle.c_tree.specs.Program.{Program}
use Rattle.flow_graph.specs.States.{GraphProgram}
use Rattle.flow_graph.specs.WellFormed.{IsGraphProgram}
use Rattle.lower_laws.specs.Declared.{IsDeclaredFirst}
use Rattle.lower_laws.specs.Lowered.{AreLowered}
use Rattle.lower_lines.specs.Words.{IsInMemory}
use Rattle.ia32_rows.specs.Placements.{Code}
use Rattle.ia32_laws.specs.StandingLaws.{IsSelected}
use Rattle.pcc_program.specs.Code.{HaveFrames, IsCodeOverMaps}

-- the graphs of a program in memory that declares each local before it names it have frames within the limits
abbrev pub GraphsHaveFrames : Type 0
GraphsHaveFrames =
    (program : Program) (graphs : GraphProgram) → IsInMemory program → IsDeclaredFirst program
    → AreLowered program graphs → HaveFrames graphs

-- code over maps of them is that of the graphs, over placements that support them
abbrev pub MappedIsSelected : Type 0
MappedIsSelected =
    (code : Code) → IsGraphProgram code.program → HaveFrames code.program → IsCodeOverMaps code → IsSelected code

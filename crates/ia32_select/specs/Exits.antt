-- Where control goes from points.
use Rattle.flow_graph.specs.declared.op.Op.{Op}
use Rattle.flow_graph.specs.Shapes.{Leads, Onward, IntoCall, ToBlock, ToEither, OutOfCall, OutOfProgram, shape}
use Rattle.ia32_select.specs.declared.exits.Exit.{Exit}
use Rattle.ia32_select.specs.declared.exits.Exit.TheVariants.{Next, Block, Either, Nowhere}

-- from a call control comes to the next point
abbrev pub exit_by : Leads → Exit
exit_by Onward = Next
exit_by (IntoCall result words) = Next
exit_by (ToBlock x) = Block x
exit_by (ToEither x y) = Either x y
exit_by OutOfCall = Nowhere
exit_by OutOfProgram = Nowhere

-- an end leads to the blocks that it names, any other op to the next point
abbrev pub exit_of : Op → Exit
exit_of op = exit_by (shape op).leads

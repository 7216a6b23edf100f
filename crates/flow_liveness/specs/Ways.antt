-- Where ops lead.
use Rattle.std.specs.Prelude.{ℕ, ◌⊎◌}
use Rattle.flow_graph.specs.declared.op.Op.{Op}
use Rattle.flow_graph.specs.Graphs.{Flow}
use Rattle.flow_graph.specs.Liveness.{BeginsWith, IsBehind}
use Rattle.flow_graph.specs.Shapes as shapes
use Rattle.flow_graph.specs.Shapes.{shape}
use Rattle.flow_liveness.specs.declared.ways.Way.{Way}
use Rattle.flow_liveness.specs.declared.ways.Way.TheVariants.{Next, Block, Either, Nowhere}

-- from a call control comes to the next point
abbrev pub way_by : shapes.Leads → Way
way_by shapes.Onward = Next
way_by (shapes.IntoCall result words) = Next
way_by (shapes.ToBlock x) = Block x
way_by (shapes.ToEither x y) = Either x y
way_by shapes.OutOfCall = Nowhere
way_by shapes.OutOfProgram = Nowhere

-- an end leads to the blocks that it names, any other op to the next point
abbrev pub way_of : Op → Way
way_of op = way_by (shape op).leads

-- the points that such a way leads to, from a point
abbrev pub Leads : Flow → ℕ → ℕ → Way → Type 0
Leads flow point next Next = IsBehind flow point next
Leads flow point next (Block x) = BeginsWith flow x next
Leads flow point next (Either x y) = BeginsWith flow x next ⊎ BeginsWith flow y next
Leads flow point next Nowhere = ⊥

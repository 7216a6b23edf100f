-- Whether an op begins a call, ends one, or neither.
use Rattle.std.specs.Prelude.{Option, Some, None}
use Rattle.flow_graph.specs.declared.op.Op.{Op}
use Rattle.flow_graph.specs.Shapes.{Leads, Onward, IntoCall, ToBlock, ToEither, OutOfCall, OutOfProgram, shape}

pub data Passage : Type 0 where
  Stays : Passage
  Begins : Passage
  Ends : Passage

abbrev pub passage_by : Leads → Passage
passage_by Onward = Stays
passage_by (IntoCall result words) = Begins
passage_by (ToBlock x) = Stays
passage_by (ToEither x y) = Stays
passage_by OutOfCall = Ends
passage_by OutOfProgram = Stays

abbrev pub passage : Op → Passage
passage op = passage_by (shape op).leads

-- where there is no op, no call begins or ends
abbrev pub passage_of : Option Op → Passage
passage_of None = Stays
passage_of (Some op) = passage op

use Rattle.flow_graph.proofs.OneRun.{one_outcome}
use Rattle.flow_graph.proofs.laws.one_outcome.Goals as goal

pub returns : goal.returns
returns c = one_outcome

use Rattle.flow_graph.proofs.OneRun.{one_state}
use Rattle.flow_graph.proofs.laws.one_state.Goals as goal

pub returns : goal.returns
returns c = one_state

use Rattle.flow_graph.proofs.Keeping.{first_is_state}
use Rattle.flow_graph.proofs.state_laws.first_is_state.Goals as goal

pub returns : goal.returns
returns c = first_is_state

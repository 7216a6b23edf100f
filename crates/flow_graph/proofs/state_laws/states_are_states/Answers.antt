use Rattle.flow_graph.proofs.Keeping.{states_are_states}
use Rattle.flow_graph.proofs.state_laws.states_are_states.Goals as goal

pub returns : goal.returns
returns c = states_are_states

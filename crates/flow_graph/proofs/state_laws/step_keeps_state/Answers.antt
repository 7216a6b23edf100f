use Rattle.flow_graph.proofs.Keeping.{step_keeps_state}
use Rattle.flow_graph.proofs.state_laws.step_keeps_state.Goals as goal

pub returns : goal.returns
returns c = step_keeps_state

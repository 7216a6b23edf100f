use Rattle.flow_graph.proofs.Held.{held_arrays}
use Rattle.flow_graph.proofs.state_laws.held_arrays.Goals as goal

pub returns : goal.returns
returns c = held_arrays

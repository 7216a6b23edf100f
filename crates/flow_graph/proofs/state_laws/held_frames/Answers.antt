use Rattle.flow_graph.proofs.Held.{held_frames}
use Rattle.flow_graph.proofs.state_laws.held_frames.Goals as goal

pub returns : goal.returns
returns c = held_frames

use Rattle.flow_graph.proofs.LivePaths.{live_step}
use Rattle.flow_graph.proofs.laws.live_step.Goals as goal

pub returns : goal.returns
returns c = live_step

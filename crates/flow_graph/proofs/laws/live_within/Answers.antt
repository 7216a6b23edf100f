use Rattle.flow_graph.proofs.LivePaths.{live_within}
use Rattle.flow_graph.proofs.laws.live_within.Goals as goal

pub returns : goal.returns
returns c = live_within

use Rattle.flow_graph.proofs.OneRun.{never_stuck}
use Rattle.flow_graph.proofs.laws.never_stuck.Goals as goal

pub returns : goal.returns
returns c = never_stuck

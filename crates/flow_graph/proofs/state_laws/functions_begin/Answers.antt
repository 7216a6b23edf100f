use Rattle.flow_graph.proofs.Keeping.{functions_begin}
use Rattle.flow_graph.proofs.state_laws.functions_begin.Goals as goal

pub returns : goal.returns
returns c = functions_begin

use Rattle.std.proofs.Common.{rules}
use Rattle.flow_liveness.proofs.search_back.Search.pass.Goals as goal

pub returns-in_ok-push-2 : goal.returns-in_ok-push-2
returns-in_ok-push-2 c = search rules

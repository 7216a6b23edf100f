use Rattle.flow_graph.proofs.Blocks.{next_in_block, one_block}
use Rattle.flow_graph.proofs.laws.one_block.Goals as goal

pub returns-clause-block : goal.returns-clause-block
returns-clause-block c = one_block

pub returns-clause-next : goal.returns-clause-next
returns-clause-next c = next_in_block

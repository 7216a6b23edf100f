use Rattle.ia32_laws.proofs.Depth.{depth-counts, depth-fails, depth-uncounts}
use Rattle.ia32_laws.proofs.activations.depth_counts_calls.Goals as goal

pub returns-clause-counts : goal.returns-clause-counts
returns-clause-counts c = depth-counts

pub returns-clause-fails : goal.returns-clause-fails
returns-clause-fails c = depth-fails

pub returns-clause-uncounts : goal.returns-clause-uncounts
returns-clause-uncounts c = depth-uncounts

use Rattle.ia32_laws.proofs.Comparing.{branch-follows, order-branch-follows, order-set-follows, same-follows}
use Rattle.ia32_laws.proofs.Comparing.{set-follows}
use Rattle.ia32_laws.proofs.comparisons.comparisons_are_followed.Goals as goal

pub returns-clause-set : goal.returns-clause-set
returns-clause-set c = set-follows

pub returns-clause-same : goal.returns-clause-same
returns-clause-same c = same-follows

pub returns-clause-branch : goal.returns-clause-branch
returns-clause-branch c = branch-follows

pub returns-clause-order_set : goal.returns-clause-order_set
returns-clause-order_set c = order-set-follows

pub returns-clause-order_branch : goal.returns-clause-order_branch
returns-clause-order_branch c = order-branch-follows

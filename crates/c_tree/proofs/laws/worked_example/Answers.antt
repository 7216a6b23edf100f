-- The sums are computed, with the wrapping.
use Rattle.std.proofs.Common.{refl}
use Rattle.std.specs.Int.{int_wrap}
use Rattle.c_tree.proofs.laws.worked_example.Goals as goal

pub returns-clause-wraps : goal.returns-clause-wraps
unfolding int_wrap
returns-clause-wraps c = refl

pub returns-clause-writes : goal.returns-clause-writes
unfolding int_wrap
returns-clause-writes c = refl

pub returns-clause-converts : goal.returns-clause-converts
unfolding int_wrap
returns-clause-converts c = refl

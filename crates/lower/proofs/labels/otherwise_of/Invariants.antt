use Rattle.std.proofs.Common.{◌-◌, ◌≡◌, drop, length}
use Rattle.c_tree.specs.Evaluation.{first_label, is_default}
use Rattle.lower.proofs.labels.otherwise_of.Given as goal

abbrev pub invariant-labels : goal.invariant-labels
invariant-labels l = first_label is_default (drop l.place l.labels) ≡ first_label is_default l.labels

abbrev pub decreases-labels : goal.decreases-labels
decreases-labels l = length l.labels - l.place

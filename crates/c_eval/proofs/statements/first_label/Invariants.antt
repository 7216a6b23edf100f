use Rattle.std.proofs.Common.{◌≡◌, length}
use Rattle.c_tree.specs.Evaluation.{first_label}
use Rattle.c_eval_state.specs.Views.{has_label}
use Rattle.c_eval.proofs.statements.first_label.Given as goal

abbrev pub decreases-labels : goal.decreases-labels
decreases-labels l = length l.rest

abbrev pub invariant-labels : goal.invariant-labels
invariant-labels l = first_label (has_label l.value) l.rest ≡ first_label (has_label l.value) l.labels.items

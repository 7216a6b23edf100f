-- The labels so far, and those that are left, are all labels.
use Rattle.std.proofs.Common.{List, ◌++◌, map, drop}
use Rattle.c_syntax.specs.Statements.{label_of}
use Rattle.c_tree.specs.declared.statement.Label.{Label}
use Rattle.c_typing.specs.Checked.{Checked, Note}
use Rattle.c_typing.specs.Statements.{GivenLabel, given_label}
use Rattle.c_check_statements.specs.Labels.{AreSoFar}
use Rattle.c_check_statements.proofs.labels.statement_labels.Given as goal

abbrev pub invariant-labels : goal.invariant-labels
invariant-labels l = (whole : Checked (List Label)) (left : List GivenLabel) (start : List Note)
    → AreSoFar whole (map (given_label l.scopes l.before) (map label_of l.list) ++ left) l.initial.so_far start
    l.initial.notes
    → AreSoFar whole (map (given_label l.scopes l.before) (map label_of (drop l.label-index l.list)) ++ left) l.so_far
    start l.notes

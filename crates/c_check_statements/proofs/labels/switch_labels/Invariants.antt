-- The labels so far, and those that are left, are all labels.
use Rattle.std.proofs.Common.{[], map, drop}
use Rattle.c_syntax.specs.Statements.{stmt_of, stmts_of}
use Rattle.c_typing.specs.Statements.{given_labels, typed_labels}
use Rattle.c_check_statements.specs.Labels.{AreSoFar}
use Rattle.c_check_statements.proofs.labels.switch_labels.Given as goal

abbrev pub invariant-statements : goal.invariant-statements
invariant-statements l =
    AreSoFar (typed_labels [] (given_labels l.scopes 0 (stmts_of (map stmt_of l.items))))
    (given_labels l.scopes l.index (stmts_of (map stmt_of (drop l.index l.items)))) l.so_far l.initial.notes l.notes

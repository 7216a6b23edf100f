-- The items so far are statements.
use Rattle.std.proofs.Common.{◌≡◌, map}
use Rattle.c_tree.specs.Erased.{item_of, statement_of}
use Rattle.c_tree.specs.Program as tree
use Rattle.c_check_statements.proofs.parts.declarations.Given as goal

abbrev pub invariant-loop-item : goal.invariant-loop-item
invariant-loop-item l = map statement_of l.statements.items ≡ map tree.Declare (map item_of l.yielded)

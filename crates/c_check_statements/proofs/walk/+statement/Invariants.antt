-- What was judged of the statements so far, and the rest, are all statements; and so it is with the scope.
use Rattle.std.proofs.Common.{◌≡◌, map, drop}
use Rattle.c_syntax.specs.Statements.{stmt_of, stmts_of}
use Rattle.c_typing.specs.Statements.{after_statements, typed_statements}
use Rattle.c_check_statements.specs.Views.{around_of}
use Rattle.c_check_statements.proofs.Following.{Gathered}
use Rattle.c_check_statements.proofs.walk.+statement.Given as goal

abbrev pub invariant-statements-each : goal.invariant-statements-each
invariant-statements-each l =
    record {
      gathered :
          Gathered (typed_statements (around_of l.around) (stmts_of (map stmt_of l.items)) l.fn.scopes)
          (typed_statements (around_of l.around) (stmts_of (map stmt_of (drop l.item-index l.items))) l.scopes)
          l.so_far l.fn.notes l.notes;
      scope :
          after_statements (stmts_of (map stmt_of (drop l.item-index l.items))) l.scopes
          ≡ after_statements (stmts_of (map stmt_of l.items)) l.fn.scopes;
    }

-- What was judged of the declarations so far, and the rest, are all declarations; and so it is with the scope.
use Rattle.std.proofs.Common.{◌≡◌, List, map, drop}
use Rattle.c_syntax.specs.Statements.{external_of}
use Rattle.c_tree.specs.Program.{Function}
use Rattle.c_typing.specs.Checked.{Checked, Note}
use Rattle.c_typing.specs.Files.{after_unit, typed_unit}
use Rattle.c_check_expressions.specs.Said.{IsSaid}
use Rattle.c_check_declarations.proofs.Lists.{Gathered, rejoined}
use Rattle.c_check.specs.FileAnswers.{AreFunctions}
use Rattle.c_check.proofs.Externals.{AreFunctionsOf}
use Rattle.c_check.proofs.units.externals.Given as goal

abbrev pub invariant-loop-one : goal.invariant-loop-one
invariant-loop-one l =
    record {
      gathered :
          (front : Checked (List Function)) (before : List Note)
          → IsSaid AreFunctions front l.initial.functions before l.initial.notes
          → Gathered AreFunctionsOf
          (rejoined front (typed_unit (map external_of l.list) l.initial.scopes))
          (typed_unit (map external_of (drop l.one-index l.list)) l.scopes)
          l.functions before l.notes;
      scope :
          after_unit (map external_of (drop l.one-index l.list)) l.scopes
          ≡ after_unit (map external_of l.list) l.initial.scopes;
    }

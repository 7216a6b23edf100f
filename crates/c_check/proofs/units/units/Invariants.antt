-- What was judged of the files so far, and the rest, are all files.
use Rattle.std.proofs.Common.{map, drop}
use Rattle.c_syntax.specs.Statements.{unit_of}
use Rattle.c_typing.specs.Files.{typed_units}
use Rattle.c_check.proofs.Passed.{Passed}
use Rattle.c_check.specs.FileAnswers.{AreFunctions}
use Rattle.c_check.proofs.units.units.Given as goal

abbrev pub invariant-loop-one : goal.invariant-loop-one
invariant-loop-one l =
    record {
      passed :
          Passed AreFunctions
          (typed_units (map unit_of l.units) l.initial.scopes)
          (typed_units (map unit_of (drop l.one-index l.units)) l.scopes)
          l.functions l.initial.notes l.notes;
    }

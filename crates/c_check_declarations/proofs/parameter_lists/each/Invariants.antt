-- What was judged of the parameters so far, and the rest, are all parameters; and so it is with the scope.
use Rattle.std.proofs.Common.{◌≡◌, map, drop}
use Rattle.c_syntax.specs.Declarations.{parameter_of}
use Rattle.c_typing.specs.Declarators.{typed_each, with_parameters}
use Rattle.c_check_declarations.proofs.Lists.{AreTheSame, Gathered}
use Rattle.c_check_declarations.proofs.parameter_lists.each.Given as goal

abbrev pub invariant-loop-p : goal.invariant-loop-p
invariant-loop-p l =
    record {
      gathered :
          Gathered AreTheSame
          (typed_each l.initial.scopes l.definition (map parameter_of l.list))
          (typed_each l.scopes l.definition (map parameter_of (drop l.p-index l.list)))
          l.types l.initial.notes l.notes;
      scope :
          with_parameters l.scopes (map parameter_of (drop l.p-index l.list))
          ≡ with_parameters l.initial.scopes (map parameter_of l.list);
    }

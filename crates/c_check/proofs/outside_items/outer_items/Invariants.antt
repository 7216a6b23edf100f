-- What was judged of the items so far, and the rest, are all items; and so it is with the scope.
use Rattle.std.proofs.Common.{◌≡◌, map, drop}
use Rattle.c_syntax.specs.Declarations.{item_of}
use Rattle.c_typing.specs.Files.{after_outer_items, typed_outer_items}
use Rattle.c_check_declarations.specs.Views.{specified_of}
use Rattle.c_check.specs.OutsideAnswers.{AreNone}
use Rattle.c_check.proofs.Passed.{Passed}
use Rattle.c_check.proofs.outside_items.outer_items.Given as goal

abbrev pub invariant-loop-one : goal.invariant-loop-one
invariant-loop-one l =
    record {
      passed :
          Passed AreNone
          (typed_outer_items (specified_of l.said) (map item_of l.list) l.initial.scopes)
          (typed_outer_items (specified_of l.said) (map item_of (drop l.one-index l.list)) l.scopes)
          l.so_far l.initial.notes l.notes;
      scope :
          after_outer_items (specified_of l.said) (map item_of (drop l.one-index l.list)) l.scopes
          ≡ after_outer_items (specified_of l.said) (map item_of l.list) l.initial.scopes;
    }

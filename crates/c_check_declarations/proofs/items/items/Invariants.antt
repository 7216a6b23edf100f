-- What was judged of the items so far, and the rest, are all items; and so it is with the scope.
use Rattle.std.proofs.Common.{◌≡◌, map, drop}
use Rattle.c_syntax.specs.Declarations.{item_of}
use Rattle.c_typing.specs.Statements.{typed_items, after_items}
use Rattle.c_check_declarations.specs.Views.{specified_of}
use Rattle.c_check_declarations.proofs.Lists.{Gathered}
use Rattle.c_check_declarations.proofs.PushedItems.{AreItemsOf}
use Rattle.c_check_declarations.proofs.items.items.Given as goal

abbrev pub invariant-loop-one : goal.invariant-loop-one
invariant-loop-one l =
    record {
      gathered :
          Gathered AreItemsOf
          (typed_items (specified_of l.said) (map item_of l.list) l.initial.scopes)
          (typed_items (specified_of l.said) (map item_of (drop l.one-index l.list)) l.scopes)
          l.items l.initial.notes l.notes;
      scope :
          after_items (specified_of l.said) (map item_of (drop l.one-index l.list)) l.scopes
          ≡ after_items (specified_of l.said) (map item_of l.list) l.initial.scopes;
    }

use Rattle.std.proofs.Common.{refl, ap, ◌∙◌, map, drop, ◌+◌}
use Rattle.c_syntax.specs.Declarations.{item_of}
use Rattle.c_tree.specs.Erased as erased
use Rattle.c_typing.specs.Statements.{typed_item, typed_items}
use Rattle.c_check_declarations.specs.Views.{specified_of}
use Rattle.c_check_declarations.proofs.Lists.{gathered_none, gathered_some}
use Rattle.c_check_declarations.specs.ItemAnswers.{AreItem}
use Rattle.c_check_declarations.proofs.Itemised.{next_scope, next_typed}
use Rattle.c_check_declarations.proofs.PushedItems.{AreItemsOf, push_item}
use Rattle.c_check_declarations.proofs.items.items.Goals as goal

pub loop-one-init : goal.loop-one-init
loop-one-init c = record {
  gathered = gathered_none AreItemsOf
      (typed_items (specified_of c.args.said) (map item_of c.args.list.now) c.args.scopes.now)
      c.new.result c.args.notes.now (ap (map erased.item_of) c.new.ensures.items);
  scope = refl;
}

pub loop-one-preserved : goal.loop-one-preserved
loop-one-preserved c =
    let is = c.args.list.now in
    let n = c.loop-one.one-index in
    let i = c.one-item.result in
    let said = specified_of c.args.said in
    let s = c.loop-one.scopes in
    let t = c.item.new.scopes in
    record {
      gathered = gathered_some AreItemsOf AreItem push_item
          (typed_items said (map item_of is) c.args.scopes.now)
          (typed_items said (map item_of (drop n is)) s)
          (typed_items said (map item_of (drop (n + 1) is)) t)
          (typed_item said (item_of i) s) c.loop-one.items c.in_ok-items.items c.in_ok-part.part
          c.args.notes.now c.loop-one.notes c.item.new.notes
          (next_typed s t said is n i c.loop-one-test.true c.one-item.is c.in_ok-part.ensures.scope)
          c.in_ok-items.ensures c.in_ok-part.ensures.said c.loop-one.invariant.gathered;
      scope = next_scope s t said is n i c.loop-one-test.true c.one-item.is c.in_ok-part.ensures.scope
          ∙ c.loop-one.invariant.scope;
    }

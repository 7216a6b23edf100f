use Rattle.std.proofs.Common.{ap, ◌∙◌, sym, map}
use Rattle.std.proofs.lemmas.Iterator.Adapters.{YieldsList-from_vec}
use Rattle.std.proofs.lemmas.Iterator.Consumers.{YieldsList-end}
use Rattle.std.proofs.lemmas.List.{map-id}
use Rattle.c_tree.specs.Erased.{item_of}
use Rattle.c_tree.specs.Program as tree
use Rattle.c_check_statements.proofs.parts.declarations.Goals as goal

pub returns : goal.returns
returns c =
    let e = YieldsList-from_vec {s = c.into_iter-item-iterator.result} c.args.items.items
    c.into_iter-item-iterator.ensures.into_iter_gives.0
    (c.into_iter-item-iterator.ensures.into_iter_gives.1 ∙ c.args.items.ok.0) in
    let t = YieldsList-end e c.loop-item.yielded c.loop-item.item-iterator c.loop-item.yielded_by
    c.next.result c.next.new.self c.in-None.is c.next.ensures.steps in
    c.loop-item.invariant ∙ ap (λ xs. map tree.Declare (map item_of xs)) (sym (map-id c.loop-item.yielded) ∙ t.0)

use Rattle.std.proofs.Common.{◌≡◌, [], length, sym, subst, rules, arith, replicate}
use Rattle.index_lists.specs.Links.{AreIndexed, ends_of}
use Rattle.index_lists.proofs.Indexed.{filled, indexed-empty, index-of, seen-as}
use Rattle.index_lists.proofs.lists.IndexLists.new.Goals as goal

pub invariant_of-result : goal.invariant_of-result
invariant_of-result c =
    let empty : c.new-ends.result.items ≡ [] = c.new-ends.ensures.items in
    let links = c.resize.new.self.items in
    let count : length links ≡ c.args.nodes = search rules in
    let are : c.resize-2.new.self.items ≡ replicate c.args.lists (ends_of []) =
    filled c.new-ends.result.items _ c.args.lists _ (ends_of []) empty c.new-ends.ensures.len
    c.in_ok-resize-2.ensures.items in
    let made = subst (λ es. AreIndexed links es (replicate c.args.lists [])) (sym are)
    (indexed-empty links c.args.lists) in
    index-of links _ _ made (omega (arith, count, c.ranges.nodes.fits))

pub returns : goal.returns
returns c =
    let empty : c.new-ends.result.items ≡ [] = c.new-ends.ensures.items in
    let links = c.resize.new.self.items in
    let count : length links ≡ c.args.nodes = search rules in
    let are : c.resize-2.new.self.items ≡ replicate c.args.lists (ends_of []) =
    filled c.new-ends.result.items _ c.args.lists _ (ends_of []) empty c.new-ends.ensures.len
    c.in_ok-resize-2.ensures.items in
    let made = subst (λ es. AreIndexed links es (replicate c.args.lists [])) (sym are)
    (indexed-empty links c.args.lists) in
    seen-as links _ c.args.nodes _ made count

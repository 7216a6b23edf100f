use Rattle.std.proofs.Common.{◌≡◌, ◌∙◌, length, rules}
use Rattle.index_lists.proofs.Indexed.{indexed-push, index-of, seen, seen-as}
use Rattle.index_lists.proofs.lists.IndexLists.add_list.Goals as goal

pub invariant_of-self-2 : goal.invariant_of-self-2
invariant_of-self-2 c =
    let links = c.self.inside.links.items in
    let ends = c.self.inside.ends.items in
    let s = seen links ends c.args.self.now c.self.invariant c.self.view_is in
    let pushed = indexed-push links ends c.args.self.now.lists s.0 in
    rw c.in_ok-push.ensures.items (index-of links _ _ pushed c.self.invariant.few_nodes)

pub returns : goal.returns
returns c =
    let links = c.self.inside.links.items in
    let ends = c.self.inside.ends.items in
    let s = seen links ends c.args.self.now c.self.invariant c.self.view_is in
    let pushed = indexed-push links ends c.args.self.now.lists s.0 in
    let count : c.len-list.result ≡ length ends = search rules in
    (count ∙ s.0.as_many, rw c.in_ok-push.ensures.items (seen-as links _ c.args.self.now.nodes _ pushed s.1))

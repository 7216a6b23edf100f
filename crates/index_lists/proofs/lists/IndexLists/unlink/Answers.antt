use Rattle.std.proofs.Common.{◌≡◌, ◌<◌, ◌∙◌, length, ap, rules, arith}
use Rattle.std.proofs.lemmas.List.{with_items_is}
use Rattle.index_lists.specs.Links.{without_node}
use Rattle.index_lists.proofs.Indexed.{index-of, listed-within, seen, seen-as}
use Rattle.index_lists.proofs.Calls.{ready, some-left, taken-out}
use Rattle.index_lists.proofs.lists.IndexLists.unlink.Goals as goal

pub index-link-requires : goal.index-link-requires
index-link-requires g c =
    let links = c.self.inside.links.items in
    let ends = c.self.inside.ends.items in
    let now = c.args.self.now in
    let s = seen links ends now c.self.invariant c.self.view_is in
    let w : c.args.node < length links = listed-within links ends now c.args.node s.0 c.requires in
    search rules

pub index_mut-requires : goal.index_mut-requires
index_mut-requires g c =
    let links = c.self.inside.links.items in
    let ends = c.self.inside.ends.items in
    let now = c.args.self.now in
    let s = seen links ends now c.self.invariant c.self.view_is in
    let k = c.index-link.result.now in
    let ready = ready links ends now c.args.node k s.0 c.requires c.index-link.ensures in
    let w : k.list < length ends = ready.list in
    search rules

pub take_out-requires-clause-previous : goal.take_out-requires-clause-previous
take_out-requires-clause-previous g c =
    let links = c.self.inside.links.items in
    let ends = c.self.inside.ends.items in
    let now = c.args.self.now in
    let s = seen links ends now c.self.invariant c.self.view_is in
    let k = c.index-link.result.now in
    let ready = ready links ends now c.args.node k s.0 c.requires c.index-link.ensures in
    let whole : c.deref_mut.result.now ≡ links = c.deref_mut.ensures.value in
    rw whole ready.previous

pub take_out-requires-clause-next : goal.take_out-requires-clause-next
take_out-requires-clause-next g c =
    let links = c.self.inside.links.items in
    let ends = c.self.inside.ends.items in
    let now = c.args.self.now in
    let s = seen links ends now c.self.invariant c.self.view_is in
    let k = c.index-link.result.now in
    let ready = ready links ends now c.args.node k s.0 c.requires c.index-link.ensures in
    let whole : c.deref_mut.result.now ≡ links = c.deref_mut.ensures.value in
    rw whole ready.next

pub take_out-requires-clause-some : goal.take_out-requires-clause-some
take_out-requires-clause-some g c =
    let links = c.self.inside.links.items in
    let ends = c.self.inside.ends.items in
    let now = c.args.self.now in
    let s = seen links ends now c.self.invariant c.self.view_is in
    some-left links ends now c.args.node c.index-link.result.now c.index_mut.result.now s.0 c.requires
    c.index-link.ensures c.index_mut.ensures.value

pub invariant_of-self : goal.invariant_of-self
invariant_of-self g c =
    let l = c.requires.0 in
    let before = c.requires.1 in
    let after = c.requires.2 in
    let stands = c.requires.3 in
    let links = c.self.inside.links.items in
    let ends = c.self.inside.ends.items in
    let now = c.args.self.now in
    let s = seen links ends now c.self.invariant c.self.view_is in
    let whole : c.deref_mut.result.now ≡ links = c.deref_mut.ensures.value in
    let k = c.index-link.result.now in
    let left = taken-out links ends now l before c.args.node after k c.index_mut.result.now c.take_out.new.links
    c.take_out.new.ends s.0 stands c.index-link.ensures c.index_mut.ensures.value
    (c.take_out.ensures.links ∙ ap (λ zs. without_node zs k) whole) c.take_out.ensures.ends in
    let fill : length c.take_out.new.links ≡ c.self.inside.links.len = search rules in
    let items = with_items_is c.self.inside.links c.take_out.new.links fill in
    rw items (index-of c.take_out.new.links _ _ left.0 (omega (arith, left.1, c.self.invariant.few_nodes)))

pub returns-clause-lists : goal.returns-clause-lists
returns-clause-lists g c l before after stands =
    let links = c.self.inside.links.items in
    let ends = c.self.inside.ends.items in
    let now = c.args.self.now in
    let s = seen links ends now c.self.invariant c.self.view_is in
    let whole : c.deref_mut.result.now ≡ links = c.deref_mut.ensures.value in
    let k = c.index-link.result.now in
    let left = taken-out links ends now l before c.args.node after k c.index_mut.result.now c.take_out.new.links
    c.take_out.new.ends s.0 stands c.index-link.ensures c.index_mut.ensures.value
    (c.take_out.ensures.links ∙ ap (λ zs. without_node zs k) whole) c.take_out.ensures.ends in
    let fill : length c.take_out.new.links ≡ c.self.inside.links.len = search rules in
    let items = with_items_is c.self.inside.links c.take_out.new.links fill in
    rw items (seen-as c.take_out.new.links _ now.nodes _ left.0 (left.1 ∙ s.1))

use Rattle.std.proofs.Common.{Some, ◌≡◌, ◌<◌, ◌∙◌, length, refl, ap, rules, arith}
use Rattle.std.proofs.lemmas.List.{with_items_is}
use Rattle.index_lists.specs.declared.link.Link.{Link}
use Rattle.index_lists.specs.Links.{with_node}
use Rattle.index_lists.proofs.Indexed.{index-of, listed-within, seen, seen-as}
use Rattle.index_lists.proofs.Calls.{ready, room-behind, put-behind}
use Rattle.index_lists.proofs.lists.IndexLists.push_after.Goals as goal

pub index-requires : goal.index-requires
index-requires g c =
    let links = c.self.inside.links.items in
    let ends = c.self.inside.ends.items in
    let now = c.args.self.now in
    let s = seen links ends now c.self.invariant c.self.view_is in
    let w : c.args.at < length links = listed-within links ends now c.args.at s.0 c.requires.at in
    search rules

pub index_mut-requires : goal.index_mut-requires
index_mut-requires g c =
    let links = c.self.inside.links.items in
    let ends = c.self.inside.ends.items in
    let now = c.args.self.now in
    let s = seen links ends now c.self.invariant c.self.view_is in
    let k = c.index.result.now in
    let ready = ready links ends now c.args.at k s.0 c.requires.at c.index.ensures in
    let w : k.list < length ends = ready.list in
    search rules

pub insert-requires-clause-previous : goal.insert-requires-clause-previous
insert-requires-clause-previous g c =
    let links = c.self.inside.links.items in
    let ends = c.self.inside.ends.items in
    let now = c.args.self.now in
    let s = seen links ends now c.self.invariant c.self.view_is in
    let whole : c.deref_mut.result.now ≡ links = c.deref_mut.ensures.value in
    rw whole (listed-within links ends now c.args.at s.0 c.requires.at)

pub insert-requires-clause-next : goal.insert-requires-clause-next
insert-requires-clause-next g c =
    let links = c.self.inside.links.items in
    let ends = c.self.inside.ends.items in
    let now = c.args.self.now in
    let s = seen links ends now c.self.invariant c.self.view_is in
    let k = c.index.result.now in
    let ready = ready links ends now c.args.at k s.0 c.requires.at c.index.ensures in
    let whole : c.deref_mut.result.now ≡ links = c.deref_mut.ensures.value in
    rw whole ready.next

pub insert-requires-clause-room : goal.insert-requires-clause-room
insert-requires-clause-room g c =
    let links = c.self.inside.links.items in
    let ends = c.self.inside.ends.items in
    let now = c.args.self.now in
    let s = seen links ends now c.self.invariant c.self.view_is in
    let node : c.args.node < length links = omega (arith, s.1, c.requires.node) in
    let room = room-behind links ends now c.args.at c.args.node c.index.result.now c.index_mut.result.now s.0
    c.requires.at c.index.ensures c.index_mut.ensures.value node c.requires.in_none in
    omega (arith, room, c.self.invariant.few_nodes)

pub invariant_of-self : goal.invariant_of-self
invariant_of-self g c =
    let l = c.requires.at.0 in
    let before = c.requires.at.1 in
    let after = c.requires.at.2 in
    let stands = c.requires.at.3 in
    let links = c.self.inside.links.items in
    let ends = c.self.inside.ends.items in
    let now = c.args.self.now in
    let s = seen links ends now c.self.invariant c.self.view_is in
    let node : c.args.node < length links = omega (arith, s.1, c.requires.node) in
    let whole : c.deref_mut.result.now ≡ links = c.deref_mut.ensures.value in
    let k = c.index.result.now in
    let new : Link = record { list = k.list; previous = Some c.args.at; next = k.next } in
    let left = put-behind links ends now l before c.args.at c.args.node after k new c.index_mut.result.now
    c.insert.new.links c.insert.new.ends s.0 stands c.index.ensures c.index_mut.ensures.value node
    c.requires.in_none refl (c.insert.ensures.links ∙ ap (λ zs. with_node zs c.args.node new) whole)
    c.insert.ensures.ends in
    let fill : length c.insert.new.links ≡ c.self.inside.links.len = search rules in
    let items = with_items_is c.self.inside.links c.insert.new.links fill in
    rw items (index-of c.insert.new.links _ _ left.0 (omega (arith, left.1, c.self.invariant.few_nodes)))

pub returns-clause-lists : goal.returns-clause-lists
returns-clause-lists g c l before after stands =
    let links = c.self.inside.links.items in
    let ends = c.self.inside.ends.items in
    let now = c.args.self.now in
    let s = seen links ends now c.self.invariant c.self.view_is in
    let node : c.args.node < length links = omega (arith, s.1, c.requires.node) in
    let whole : c.deref_mut.result.now ≡ links = c.deref_mut.ensures.value in
    let k = c.index.result.now in
    let new : Link = record { list = k.list; previous = Some c.args.at; next = k.next } in
    let left = put-behind links ends now l before c.args.at c.args.node after k new c.index_mut.result.now
    c.insert.new.links c.insert.new.ends s.0 stands c.index.ensures c.index_mut.ensures.value node
    c.requires.in_none refl (c.insert.ensures.links ∙ ap (λ zs. with_node zs c.args.node new) whole)
    c.insert.ensures.ends in
    let fill : length c.insert.new.links ≡ c.self.inside.links.len = search rules in
    let items = with_items_is c.self.inside.links c.insert.new.links fill in
    rw items (seen-as c.insert.new.links _ now.nodes _ left.0 (left.1 ∙ s.1))

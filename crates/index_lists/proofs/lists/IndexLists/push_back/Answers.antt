use Rattle.std.proofs.Common.{None, ◌≡◌, ◌<◌, ◌∙◌, length, refl, ap, rules, arith}
use Rattle.std.proofs.lemmas.List.{with_items_is}
use Rattle.index_lists.specs.declared.link.Link.{Link}
use Rattle.index_lists.specs.Links.{with_node}
use Rattle.index_lists.proofs.Indexed.{index-of, seen, seen-as}
use Rattle.index_lists.proofs.Calls.{ready-last, put-last}
use Rattle.index_lists.proofs.lists.IndexLists.push_back.Goals as goal

pub insert-requires-clause-previous : goal.insert-requires-clause-previous
insert-requires-clause-previous g c =
    let links = c.self.inside.links.items in
    let ends = c.self.inside.ends.items in
    let now = c.args.self.now in
    let s = seen links ends now c.self.invariant c.self.view_is in
    let node : c.args.node < length links = omega (arith, s.1, c.requires.node) in
    let e = c.index_mut-ends.result.now in
    let ready = ready-last links ends now c.args.list c.args.node e s.0 c.requires.list c.index_mut-ends.ensures.value
    node c.requires.in_none in
    let whole : c.deref_mut.result.now ≡ links = c.deref_mut.ensures.value in
    rw whole ready.0

pub insert-requires-clause-room : goal.insert-requires-clause-room
insert-requires-clause-room g c =
    let links = c.self.inside.links.items in
    let ends = c.self.inside.ends.items in
    let now = c.args.self.now in
    let s = seen links ends now c.self.invariant c.self.view_is in
    let node : c.args.node < length links = omega (arith, s.1, c.requires.node) in
    let e = c.index_mut-ends.result.now in
    let ready = ready-last links ends now c.args.list c.args.node e s.0 c.requires.list c.index_mut-ends.ensures.value
    node c.requires.in_none in
    omega (arith, ready.1, c.self.invariant.few_nodes)

pub invariant_of-self : goal.invariant_of-self
invariant_of-self g c =
    let links = c.self.inside.links.items in
    let ends = c.self.inside.ends.items in
    let now = c.args.self.now in
    let s = seen links ends now c.self.invariant c.self.view_is in
    let node : c.args.node < length links = omega (arith, s.1, c.requires.node) in
    let whole : c.deref_mut.result.now ≡ links = c.deref_mut.ensures.value in
    let e = c.index_mut-ends.result.now in
    let k : Link = record { list = c.args.list; previous = e.last; next = None } in
    let left = put-last links ends now c.args.list c.args.node e k c.insert.new.links c.insert.new.ends s.0
    c.requires.list c.index_mut-ends.ensures.value node c.requires.in_none refl
    (c.insert.ensures.links ∙ ap (λ zs. with_node zs c.args.node k) whole) c.insert.ensures.ends in
    let fill : length c.insert.new.links ≡ c.self.inside.links.len = search rules in
    let items = with_items_is c.self.inside.links c.insert.new.links fill in
    rw items (index-of c.insert.new.links _ _ left.0 (omega (arith, left.1, c.self.invariant.few_nodes)))

pub returns-clause-lists : goal.returns-clause-lists
returns-clause-lists g c =
    let links = c.self.inside.links.items in
    let ends = c.self.inside.ends.items in
    let now = c.args.self.now in
    let s = seen links ends now c.self.invariant c.self.view_is in
    let node : c.args.node < length links = omega (arith, s.1, c.requires.node) in
    let whole : c.deref_mut.result.now ≡ links = c.deref_mut.ensures.value in
    let e = c.index_mut-ends.result.now in
    let k : Link = record { list = c.args.list; previous = e.last; next = None } in
    let left = put-last links ends now c.args.list c.args.node e k c.insert.new.links c.insert.new.ends s.0
    c.requires.list c.index_mut-ends.ensures.value node c.requires.in_none refl
    (c.insert.ensures.links ∙ ap (λ zs. with_node zs c.args.node k) whole) c.insert.ensures.ends in
    let fill : length c.insert.new.links ≡ c.self.inside.links.len = search rules in
    let items = with_items_is c.self.inside.links c.insert.new.links fill in
    rw items (seen-as c.insert.new.links _ now.nodes _ left.0 (left.1 ∙ s.1))

use Rattle.std.proofs.Common.{◌≡◌, ◌≤◌, length, rules, arith}
use Rattle.std.specs.Vec.{vec_len}
use Rattle.index_lists.proofs.Indexed.{grown, index-of, seen, seen-as}
use Rattle.index_lists.proofs.lists.IndexLists.grow.Goals as goal

pub invariant_of-self-2 : goal.invariant_of-self-2
invariant_of-self-2 c =
    let links = c.self.inside.links.items in
    let ends = c.self.inside.ends.items in
    let s = seen links ends c.args.self.now c.self.invariant c.self.view_is in
    let few : length links ≤ c.args.nodes = omega (arith, s.1, c.requires) in
    let are : vec_len c.self.inside.links ≡ length links = search rules in
    let g = grown links _ ends c.args.self.now.lists c.args.nodes _ _ s.0 few are c.in_ok-resize.ensures.items in
    index-of _ ends c.args.self.now.lists g.0 (omega (arith, g.1, c.ranges.nodes.fits))

pub returns : goal.returns
returns c =
    let links = c.self.inside.links.items in
    let ends = c.self.inside.ends.items in
    let s = seen links ends c.args.self.now c.self.invariant c.self.view_is in
    let few : length links ≤ c.args.nodes = omega (arith, s.1, c.requires) in
    let are : vec_len c.self.inside.links ≡ length links = search rules in
    let g = grown links _ ends c.args.self.now.lists c.args.nodes _ _ s.0 few are c.in_ok-resize.ensures.items in
    seen-as _ ends c.args.nodes c.args.self.now.lists g.0 g.1

use Rattle.std.proofs.Common.{◌≡◌, ◌<◌, length, refl, rules, Some}
use Rattle.std.proofs.lemmas.Option.{slice_get_read}
use Rattle.std.specs.List.{slice_get}
use Rattle.index_lists.proofs.Indexed.{next-read, listed-within, seen}
use Rattle.index_lists.proofs.lists.IndexLists.next.Goals as goal

pub index-requires : goal.index-requires
index-requires g c =
    let links = c.self.inside.links.items in
    let ends = c.self.inside.ends.items in
    let s = seen links ends c.args.self.now c.self.invariant c.self.view_is in
    let h : c.args.node < length links = listed-within links ends c.args.self.now c.args.node s.0 c.requires in
    search rules

pub returns-clause-next : goal.returns-clause-next
returns-clause-next g c list before after e =
    let links = c.self.inside.links.items in
    let ends = c.self.inside.ends.items in
    let s = seen links ends c.args.self.now c.self.invariant c.self.view_is in
    let h : c.args.node < length links = listed-within links ends c.args.self.now c.args.node s.0 c.requires in
    let got : slice_get links c.args.node ≡ Some c.index.result.now =
    slice_get_read links (length links) c.args.node c.index.result.now refl h c.index.ensures in
    next-read links ends c.args.self.now.lists list before c.args.node after c.index.result.now s.0 e got

use Rattle.std.proofs.Common.{◌≡◌, ◌<◌, length, refl, arith, Some}
use Rattle.std.proofs.lemmas.Option.{slice_get_read}
use Rattle.std.specs.List.{slice_get}
use Rattle.index_lists.proofs.Indexed.{first-read, seen}
use Rattle.index_lists.proofs.lists.IndexLists.first.Goals as goal

pub returns-clause-first : goal.returns-clause-first
returns-clause-first g c =
    let links = c.self.inside.links.items in
    let ends = c.self.inside.ends.items in
    let s = seen links ends c.args.self.now c.self.invariant c.self.view_is in
    let within : c.args.list < length ends = omega (arith, s.0.as_many, c.requires) in
    let got : slice_get ends c.args.list ≡ Some c.index.result.now =
    slice_get_read ends (length ends) c.args.list c.index.result.now refl within c.index.ensures in
    (first-read links ends c.args.self.now.lists c.args.list c.index.result.now s.0 c.requires got).0

use Rattle.std.proofs.Common.{◌≡◌, ◌∙◌, length, rules}
use Rattle.index_lists.proofs.Indexed.{seen}
use Rattle.index_lists.proofs.lists.IndexLists.lists.Goals as goal

pub returns : goal.returns
returns c =
    let s = seen c.self.inside.links.items c.self.inside.ends.items c.args.self.now c.self.invariant c.self.view_is in
    let count : c.len.result ≡ length c.self.inside.ends.items = search rules in
    count ∙ s.0.as_many

use Rattle.std.proofs.Common.{subst}
use Rattle.index_lists.specs.Lists.{IsLists}
use Rattle.index_lists.proofs.Indexed.{indexed-lists}
use Rattle.index_lists.proofs.lists.IndexLists.is_lists.Goals as goal

pub returns : goal.returns
returns c =
    subst IsLists c.self.view_is (indexed-lists c.self.inside.links.items c.self.inside.ends.items _
    c.self.invariant.indexed)

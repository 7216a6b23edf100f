use Rattle.std.proofs.Common.{ℕ, List, ◌≡◌, ◌+◌, ◌-◌, ◌++◌, length, slice_get}
use Rattle.index_lists.specs.Lists.{nodes_of}
use Rattle.index_lists.proofs.lists.IndexLists.nodes_in.Given as goal

abbrev pub invariant-nodes : goal.invariant-nodes
invariant-nodes g l =
    (rest : List ℕ) × (l.nodes.items ++ rest ≡ nodes_of l.self l.list) × (l.at ≡ slice_get rest 0)
    × (l.steps ≡ l.fn.steps + length l.nodes.items + 1)

abbrev pub decreases-nodes : goal.decreases-nodes
decreases-nodes g l = length (nodes_of l.self l.list) - length l.nodes.items

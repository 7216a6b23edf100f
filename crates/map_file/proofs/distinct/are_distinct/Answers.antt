use Rattle.std.proofs.Common.{ℕ, List, subst}
use Rattle.std.specs.Bool.{Decides}
use Rattle.std.proofs.lemmas.List.Sorted.{IsNonDecreasingBy-from_sort}
use Rattle.flow_graph.specs.Lives.{IsAscending}
use Rattle.map_file.proofs.Ascending.{sorted_once}
use Rattle.map_file.proofs.distinct.are_distinct.Goals as goal

pub returns : goal.returns
returns c =
    let sorted = c.sort_unstable.new.self.items in
    sorted_once c.args.numbers.now.items sorted c.ascend.result c.sort_unstable.ensures.permutation
    (IsNonDecreasingBy-from_sort (λ (n : ℕ). n) sorted c.sort_unstable.ensures.sorted)
    (subst (λ (ns : List ℕ). Decides c.ascend.result (IsAscending ns)) c.as_slice.ensures.value c.ascend.ensures)

use Rattle.std.proofs.Common.{rules, ltb}
use Rattle.std.proofs.lemmas.List.Sorted.{IsPartitionPoint-from_clause, IsPartitionedBy-ltb}
use Rattle.puzzle_board.specs.Places.{Entry}
use Rattle.puzzle_board.proofs.Sides.{position-of, rising-by}
use Rattle.puzzle_board.proofs.side.position.Goals as goal

pub returns : goal.returns
returns c =
    let entries = c.args.entries.now in
    let v = c.args.var in
    position-of entries v c.partition_point.result c.partition_point.ensures.bound
    (IsPartitionPoint-from_clause (λ (e : Entry). ltb e.0 v) entries c.partition_point.result
    c.partition_point.ensures.partitioned
    (IsPartitionedBy-ltb (λ (e : Entry). e.0) entries v (rising-by entries c.requires)) (λ a r q k. search rules))

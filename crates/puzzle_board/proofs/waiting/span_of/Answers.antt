use Rattle.std.proofs.Common.{rules, ltb, leb}
use Rattle.std.proofs.lemmas.List.Sorted.{IsPartitionPoint-from_clause, IsPartitionedBy-leb, IsPartitionedBy-ltb}
use Rattle.puzzle_board.specs.declared.piece.Piece.{Piece}
use Rattle.puzzle_board.proofs.Spans.{span-between}
use Rattle.puzzle_board.proofs.waiting.span_of.Goals as goal

pub returns : goal.returns
returns c =
    let pieces = c.args.pieces.now in
    let v = c.args.var in
    let up = c.requires c.if-not-ascending.false in
    span-between pieces v c.partition_point-from.result c.partition_point-to.result c.partition_point-from.ensures.bound
    c.partition_point-to.ensures.bound
    (IsPartitionPoint-from_clause (λ (p : Piece). ltb p.var v) pieces c.partition_point-from.result
    c.partition_point-from.ensures.partitioned (IsPartitionedBy-ltb (λ (p : Piece). p.var) pieces v up)
    (λ a r q k. search rules))
    (IsPartitionPoint-from_clause (λ (p : Piece). leb p.var v) pieces c.partition_point-to.result
    c.partition_point-to.ensures.partitioned (IsPartitionedBy-leb (λ (p : Piece). p.var) pieces v up)
    (λ a r q k. search rules))

use Rattle.std.proofs.Common.{ℕ, ◌≡◌, [], length, replicate, ap, arith, ◌∙◌}
use Rattle.std.proofs.lemmas.List.{length-replicate}
use Rattle.flow_graph.specs.Liveness.{IsSuccessor}
use Rattle.flow_liveness.proofs.Stepping.{steps-start, steps-then}
use Rattle.flow_liveness.proofs.Walks.{AlongBlocks, blocks-end}
use Rattle.flow_liveness.proofs.predecessors.predecessors_of.Goals as goal

pub loop-block-init : goal.loop-block-init
loop-block-init c =
    let none : c.in_ok-predecessors.predecessors ≡ replicate (length c.args.graph.now.ops) [] =
    c.in_ok-predecessors.ensures ∙ ap (λ (n : ℕ). replicate n []) c.points.ensures in
    rw none (steps-start (AlongBlocks c.args.graph.now (IsSuccessor c.args.graph.now))
    (replicate (length c.args.graph.now.ops) []))

pub loop-block-preserved : goal.loop-block-preserved
loop-block-preserved c =
    steps-then (AlongBlocks c.args.graph.now (IsSuccessor c.args.graph.now)) c.loop-block.block _ _ _
    c.loop-block.invariant c.in_ok-add_block.ensures

pub returns : goal.returns
returns c = record {
  points = c.loop-block.invariant.as_many ∙ length-replicate (length c.args.graph.now.ops) [];
  leads = blocks-end c.args.graph.now (IsSuccessor c.args.graph.now) c.loop-block.block (length c.args.graph.now.ops)
      c.loop-block.predecessors (omega arith) (λ x p s. s.0) c.loop-block.invariant;
}

use Rattle.std.proofs.Common.{ℕ, ◌≡◌, [], length, replicate, ap, arith, ◌∙◌}
use Rattle.std.proofs.lemmas.List.{length-replicate}
use Rattle.flow_graph.specs.Liveness.{IsUsedAt}
use Rattle.flow_liveness.proofs.Stepping.{steps-start, steps-then}
use Rattle.flow_liveness.proofs.Walks.{AlongBlocks, blocks-end}
use Rattle.flow_liveness.proofs.uses.uses_of.Goals as goal

pub loop-block-init : goal.loop-block-init
loop-block-init c =
    let none : c.in_ok-uses.uses ≡ replicate (length c.args.graph.now.widths) [] =
    c.in_ok-uses.ensures ∙ ap (λ (n : ℕ). replicate n []) c.vars.ensures in
    rw none (steps-start (AlongBlocks c.args.graph.now (λ x v. IsUsedAt c.args.graph.now v x))
    (replicate (length c.args.graph.now.widths) []))

pub loop-block-preserved : goal.loop-block-preserved
loop-block-preserved c =
    steps-then (AlongBlocks c.args.graph.now (λ x v. IsUsedAt c.args.graph.now v x)) c.loop-block.block _ _ _
    c.loop-block.invariant c.in_ok-add_block.ensures

pub returns : goal.returns
returns c = record {
  variables = c.loop-block.invariant.as_many ∙ length-replicate (length c.args.graph.now.widths) [];
  used = blocks-end c.args.graph.now (λ x v. IsUsedAt c.args.graph.now v x) c.loop-block.block
      (length c.args.graph.now.widths) c.loop-block.uses (omega arith) (λ x v s. s.0) c.loop-block.invariant;
}

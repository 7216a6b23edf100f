use Rattle.std.proofs.Common.{subst, get_or, ◌∙◌}
use Rattle.std.specs.Prelude.{List, ℕ}
use Rattle.flow_graph.specs.Graphs.{IsIn}
use Rattle.pcc_tests.proofs.Placed.{in-at}
use Rattle.pcc_tests.proofs.sources.code.ops_in.Goals as goal

pub push_op-requires : goal.push_op-requires
push_op-requires c =
    let points : List ℕ = c.as_slice-point-items.result.now in
    let i : ℕ = c.loop-point.point-index in (
      c.args.block,
      subst (IsIn (get_or points i 0)) (c.as_slice-point-items.ensures.value ∙ c.in_ok-points.ensures)
          (in-at points i c.loop-point-test.true),
    )

use Rattle.std.proofs.Common.{subst, sym, ◌∙◌}
use Rattle.std.proofs.lemmas.Result.{on_ok_weaker}
use Rattle.flow_liveness.specs.declared.ways.Way.TheVariants.{Next, Block, Either}
use Rattle.flow_liveness.proofs.Edges.{Going, told-block, told-either, told-next}
use Rattle.flow_liveness.proofs.Placed.{first-within, next-within}
use Rattle.flow_liveness.proofs.SameWay.{WayFits, goes-within}
use Rattle.flow_liveness.proofs.predecessors.add_edges.Goals as goal

pub add_edge-requires : goal.add_edge-requires
add_edge-requires c =
    rw c.requires.points (next-within c.args.graph.now c.is_flow.ensures.0 c.is_flow.ensures.1 c.args.from c.args.next
    c.requires.next)

pub first-requires : goal.first-requires
first-requires c =
    subst (WayFits c.args.graph.now) c.in-Block.is (goes-within c.args.graph.now c.is_flow.ensures.0 c.args.from
    c.op.result.now c.way_of.result c.is_flow.ensures.1 c.requires.placed c.op.ensures c.way_of.ensures)

pub add_edge-requires-in-Block : goal.add_edge-requires-in-Block
add_edge-requires-in-Block c =
    rw c.requires.points (first-within c.args.graph.now c.is_flow.ensures.0 c.is_flow.ensures.1 c.in-Block.block
    c.first.result c.first.ensures)

pub first-requires-in-Either : goal.first-requires-in-Either
first-requires-in-Either c =
    (subst (WayFits c.args.graph.now) c.in-Either.is (goes-within c.args.graph.now c.is_flow.ensures.0 c.args.from
    c.op.result.now c.way_of.result c.is_flow.ensures.1 c.requires.placed c.op.ensures c.way_of.ensures)).0

pub add_edge-requires-in-Either : goal.add_edge-requires-in-Either
add_edge-requires-in-Either c =
    rw c.requires.points (first-within c.args.graph.now c.is_flow.ensures.0 c.is_flow.ensures.1 c.in-Either.first
    c.first-in-Either.result c.first-in-Either.ensures)

pub first-requires-in-Either-2 : goal.first-requires-in-Either-2
first-requires-in-Either-2 c =
    (subst (WayFits c.args.graph.now) c.in-Either.is (goes-within c.args.graph.now c.is_flow.ensures.0 c.args.from
    c.op.result.now c.way_of.result c.is_flow.ensures.1 c.requires.placed c.op.ensures c.way_of.ensures)).1

pub add_edge-requires-in-Either-2 : goal.add_edge-requires-in-Either-2
add_edge-requires-in-Either-2 c =
    rw (c.in_ok-add_edge-in-Either.ensures.as_many ∙ c.requires.points) (first-within c.args.graph.now
    c.is_flow.ensures.0 c.is_flow.ensures.1 c.in-Either.second c.first-in-Either-2.result
    c.first-in-Either-2.ensures)

pub returns-in-Next : goal.returns-in-Next
returns-in-Next c =
    let going : Going c.args.graph.now c.args.from Next = record {
      op = c.op.result.now;
      placed = c.requires.placed;
      has = c.op.ensures;
      same = sym c.in-Next.is ∙ c.way_of.ensures;
    } in
    on_ok_weaker c.add_edge.result (told-next c.args.graph.now c.args.from c.args.next _ _ going c.requires.next)
    c.add_edge.ensures

pub returns-in-Block : goal.returns-in-Block
returns-in-Block c =
    let going : Going c.args.graph.now c.args.from (Block c.in-Block.block) = record {
      op = c.op.result.now;
      placed = c.requires.placed;
      has = c.op.ensures;
      same = sym c.in-Block.is ∙ c.way_of.ensures;
    } in
    on_ok_weaker c.add_edge-in-Block.result (told-block c.args.graph.now c.args.from c.in-Block.block c.first.result _ _
    going c.first.ensures) c.add_edge-in-Block.ensures

pub returns-in_ok-add_edge-in-Either : goal.returns-in_ok-add_edge-in-Either
returns-in_ok-add_edge-in-Either c =
    let going : Going c.args.graph.now c.args.from (Either c.in-Either.first c.in-Either.second) = record {
      op = c.op.result.now;
      placed = c.requires.placed;
      has = c.op.ensures;
      same = sym c.in-Either.is ∙ c.way_of.ensures;
    } in
    on_ok_weaker c.add_edge-in-Either-2.result (told-either c.args.graph.now c.args.from c.in-Either.first
    c.in-Either.second c.first-in-Either.result c.first-in-Either-2.result _ _ _ going c.first-in-Either.ensures
    c.first-in-Either-2.ensures c.in_ok-add_edge-in-Either.ensures) c.add_edge-in-Either-2.ensures

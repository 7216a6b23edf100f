-- One point after another, until none is left.
use Rattle.std.proofs.Common.{◌≡◌, ◌+◌, ℕ, List, drop, refl, sym, subst, ◌∙◌, get_or}
use Rattle.flow_graph.specs.Graphs.{IsIn, points_of}
use Rattle.ia32_select.proofs.Emitted.{in-at}
use Rattle.ia32_select.proofs.Tables.{FillsSome, block-first, block-last, block-more}
use Rattle.ia32_select.proofs.table_of_moves.fill_block.Goals as goal

pub fill_point-requires-clause-placed : goal.fill_point-requires-clause-placed
fill_point-requires-clause-placed c =
    let points : List ℕ = c.as_slice-point-items.result.now in
    let i : ℕ = c.loop-point.point-index in (
      c.args.block,
      subst (IsIn (get_or points i 0)) (c.as_slice-point-items.ensures.value ∙ c.in_ok-points.ensures)
          (in-at points i c.loop-point-test.true),
    )

pub fill_point-requires-clause-points : goal.fill_point-requires-clause-points
fill_point-requires-clause-points c = c.loop-point.invariant.points ∙ c.requires.points

pub loop-point-init : goal.loop-point-init
loop-point-init c =
    block-first c.args.graph.now c.args.map.now c.args.block c.args.table.now
    (points_of c.args.graph.now c.args.block) refl

pub loop-point-preserved : goal.loop-point-preserved
loop-point-preserved c =
    let flow = c.args.graph.now in
    let places = c.args.map.now in
    let points : List ℕ = c.as_slice-point-items.result.now in
    let are : points ≡ points_of flow c.args.block = c.as_slice-point-items.ensures.value ∙ c.in_ok-points.ensures in
    let i : ℕ = c.loop-point.point-index in
    subst (λ (l : List ℕ). FillsSome flow places c.args.block (drop (i + 1) l) c.args.table.now c.fill_point.new.table) are
    (block-more flow places c.args.block points i _ c.args.table.now c.loop-point.table c.fill_point.new.table
    c.loop-point-test.true
    (subst (λ (l : List ℕ). FillsSome flow places c.args.block (drop i l) c.args.table.now c.loop-point.table) (sym are)
    c.loop-point.invariant) c.in_ok-fill_point.ensures)

pub returns : goal.returns
returns c =
    let flow = c.args.graph.now in
    let places = c.args.map.now in
    let points : List ℕ = c.as_slice-point-items.result.now in
    let are : points ≡ points_of flow c.args.block = c.as_slice-point-items.ensures.value ∙ c.in_ok-points.ensures in
    let i : ℕ = c.loop-point.point-index in
    block-last flow places c.args.block points i c.args.table.now c.loop-point.table c.loop-point-test.false
    (subst (λ (l : List ℕ). FillsSome flow places c.args.block (drop i l) c.args.table.now c.loop-point.table) (sym are)
    c.loop-point.invariant)

use Rattle.std.proofs.Common.{ℕ, List, [], ◌≡◌, ◌<◌, ◌+◌, ◌++◌, length, get_or, take, drop, sym, subst, ap}
use Rattle.std.proofs.Common.{arith, rules, ◌∙◌}
use Rattle.std.proofs.lemmas.List.{length-append}
use Rattle.flow_graph.specs.Graphs.{IsIn, points_of}
use Rattle.flow_liveness.specs.Names.{joined}
use Rattle.allocator.specs.SplitForms.{ArePlaces}
use Rattle.allocator.proofs.Placing.{joined-few, joined-more, points-within, take-front}
use Rattle.allocator.proofs.point_numbers.places_of.Goals as goal

pub place_points-requires-clause-there : goal.place_points-requires-clause-there
place_points-requires-clause-there c p i =
    let points = c.deref.ensures.value ∙ c.in_ok-points.ensures in
    let within = points-within c.args.graph.now c.is_flow.ensures.0 c.is_flow.ensures.1 c.loop-block.block p
    (subst (IsIn p) points i) in
    let places = ap length c.deref_mut.ensures.value in
    omega (arith, within, places, c.loop-block.invariant.many)

pub place_points-requires-clause-few : goal.place_points-requires-clause-few
place_points-requires-clause-few c =
    let few = joined-few c.args.graph.now.blocks c.loop-block.block
    (omega (arith, c.loop-block-test.true, c.blocks-block-end.ensures)) in
    let points = ap length (c.deref.ensures.value ∙ c.in_ok-points.ensures) in
    omega (arith, few, points, c.loop-block.invariant.first, c.requires)

pub overflow_cast-first : goal.overflow_cast-first
overflow_cast-first c =
    let few = joined-few c.args.graph.now.blocks c.loop-block.block
    (omega (arith, c.loop-block-test.true, c.blocks-block-end.ensures)) in
    let points : length c.in_ok-points.points.items ≡ length (points_of c.args.graph.now c.loop-block.block) =
    ap length c.in_ok-points.ensures in
    let small : c.len.result < 0x1_0000_0000 = omega (
      arith,
      few,
      points,
      c.len.ensures,
      c.in_ok-points.points.ok.0,
      c.requires,
    ) in
    search (rules, small)

pub overflow_add-first : goal.overflow_add-first
overflow_add-first c =
    let few = joined-few c.args.graph.now.blocks c.loop-block.block
    (omega (arith, c.loop-block-test.true, c.blocks-block-end.ensures)) in
    let points : length c.in_ok-points.points.items ≡ length (points_of c.args.graph.now c.loop-block.block) =
    ap length c.in_ok-points.ensures in
    let small : c.loop-block.first + c.len.result < 0x1_0000_0000 = omega (
      arith,
      few,
      points,
      c.len.ensures,
      c.in_ok-points.points.ok.0,
      c.loop-block.invariant.first,
      c.requires,
    ) in
    search (rules, small)

pub loop-block-preserved : goal.loop-block-preserved
loop-block-preserved c =
    let blocks = c.args.graph.now.blocks in
    let b = c.loop-block.block in
    let more : joined (take (b + 1) blocks) ≡ joined (take b blocks) ++ get_or blocks b [] =
    joined-more blocks b (omega (arith, c.loop-block-test.true, c.blocks-block-end.ensures)) in
    let points : length c.in_ok-points.points.items ≡ length (get_or blocks b []) = ap length c.in_ok-points.ensures in
    let old : length c.deref_mut.result.now ≡ length c.loop-block.places.items = ap length c.deref_mut.ensures.value in
    let back : take c.loop-block.places.len
    (c.place_points.new.places ++ drop (length c.place_points.new.places) c.loop-block.places.items)
    ≡ c.place_points.new.places =
    take-front c.loop-block.places.len c.place_points.new.places
    (drop (length c.place_points.new.places) c.loop-block.places.items)
    (omega (arith, c.place_points.ensures.many, old, c.loop-block.places.ok.0)) in
    let before : ArePlaces (joined (take b blocks)) c.deref_mut.result.now =
    subst (ArePlaces (joined (take b blocks))) (sym c.deref_mut.ensures.value) c.loop-block.invariant.placed in
    let placed : ArePlaces (joined (take b blocks) ++ c.deref.result.now) c.place_points.new.places =
    c.place_points.ensures.placed (joined (take b blocks)) (sym c.loop-block.invariant.first) before in
    let now : ArePlaces (joined (take (b + 1) blocks)) c.place_points.new.places =
    subst (λ (ps : List ℕ). ArePlaces ps c.place_points.new.places) (sym more)
    (subst (λ (ps : List ℕ). ArePlaces (joined (take b blocks) ++ ps) c.place_points.new.places)
    (c.deref.ensures.value ∙ c.in_ok-points.ensures) placed) in
    let count : length (joined (take (b + 1) blocks)) ≡ length (joined (take b blocks)) + length (get_or blocks b []) =
    ap length more ∙ length-append (joined (take b blocks)) (get_or blocks b []) in
    record {
      placed = subst (ArePlaces (joined (take (b + 1) blocks))) (sym back) now;
      first = omega (arith, count, points, c.len.ensures, c.in_ok-points.points.ok.0, c.loop-block.invariant.first);
      many = ap length back ∙ (c.place_points.ensures.many ∙ (old ∙ c.loop-block.invariant.many));
    }

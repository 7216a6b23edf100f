use Rattle.std.proofs.Common.{◌≡◌, ◌<◌, ◌∙◌, ℕ, Some, ap, subst, sym}
use Rattle.std.specs.Prelude.{slice_get}
use Rattle.flow_graph.specs.Graphs.{Flow, IsFlow}
use Rattle.flow_graph.specs.Lives.{IsLives, Lives}
use Rattle.allocator.proofs.Ending.{afters-there, befores-there, on-ok-three, pieces-there, point-done, spilled-there}
use Rattle.allocator.proofs.allocation.allocate_point.Goals as goal

pub spill_all-requires-clause-within : goal.spill_all-requires-clause-within
spill_all-requires-clause-within c =
    let form = c.args.form.now in
    let n = c.args.point in
    let op = c.op-op.result.now in
    let has : slice_get form.graph.ops n ≡ Some op =
    ap (λ (f : Flow). slice_get f.ops n) (sym c.graph-2.ensures) ∙ c.op-op.ensures in
    let flows : IsFlow form.graph c.is_flow.ensures.0 =
    subst (λ (f : Flow). IsFlow f c.is_flow.ensures.0) c.graph.ensures c.is_flow.ensures.1 in
    spilled-there form c.is_flow.ensures.0 n op c.args.map.now c.in_ok-pieces.pieces.items c.deref.result.now
    c.in_ok-solution.solution.spilled.items c.deref-2.result.now flows c.is_form.ensures c.requires.placed has
    c.in_ok-pieces.ensures.value c.deref.ensures.value c.deref-2.ensures.value c.requires.done
    c.in_ok-solution.ensures.of_pieces

pub places_of-requires-clause-vars : goal.places_of-requires-clause-vars
places_of-requires-clause-vars c =
    let form = c.args.form.now in
    let n = c.args.point in
    let op = c.op-op.result.now in
    let has : slice_get form.graph.ops n ≡ Some op =
    ap (λ (f : Flow). slice_get f.ops n) (sym c.graph-2.ensures) ∙ c.op-op.ensures in
    let flows : IsFlow form.graph c.is_flow.ensures.0 =
    subst (λ (f : Flow). IsFlow f c.is_flow.ensures.0) c.graph.ensures c.is_flow.ensures.1 in
    pieces-there form c.is_flow.ensures.0 n op c.args.map.now c.spill_all.new.map c.in_ok-pieces.pieces.items
    c.deref-3.result.now c.deref-2.result.now flows c.is_form.ensures c.requires.placed has
    c.in_ok-pieces.ensures.value c.deref-3.ensures.value c.requires.done c.in_ok-spill_all.ensures.given

pub put_pieces-requires-clause-befores : goal.put_pieces-requires-clause-befores
put_pieces-requires-clause-befores c =
    let form = c.args.form.now in
    let n = c.args.point in
    let op = c.op-op.result.now in
    let has : slice_get form.graph.ops n ≡ Some op =
    ap (λ (f : Flow). slice_get f.ops n) (sym c.graph-2.ensures) ∙ c.op-op.ensures in
    befores-there form n op c.args.map.now c.spill_all.new.map c.deref-2.result.now has c.requires.done
    c.in_ok-spill_all.ensures.spilled

pub put_pieces-requires-clause-afters : goal.put_pieces-requires-clause-afters
put_pieces-requires-clause-afters c =
    let form = c.args.form.now in
    let n = c.args.point in
    let op = c.op-op.result.now in
    let has : slice_get form.graph.ops n ≡ Some op =
    ap (λ (f : Flow). slice_get f.ops n) (sym c.graph-2.ensures) ∙ c.op-op.ensures in
    afters-there form n op c.args.map.now c.spill_all.new.map c.deref-2.result.now has c.requires.done
    c.in_ok-spill_all.ensures.spilled

pub put_fixed-requires-clause-befores : goal.put_fixed-requires-clause-befores
put_fixed-requires-clause-befores c =
    let form = c.args.form.now in
    let n = c.args.point in
    let op = c.op-op.result.now in
    let has : slice_get form.graph.ops n ≡ Some op =
    ap (λ (f : Flow). slice_get f.ops n) (sym c.graph-2.ensures) ∙ c.op-op.ensures in
    let room = befores-there form n op c.args.map.now c.spill_all.new.map c.deref-2.result.now has c.requires.done
    c.in_ok-spill_all.ensures.spilled in
    subst (λ (x : ℕ). n < x) (sym c.in_ok-put_pieces.ensures.changes.befores) room

pub put_fixed-requires-clause-afters : goal.put_fixed-requires-clause-afters
put_fixed-requires-clause-afters c =
    let form = c.args.form.now in
    let n = c.args.point in
    let op = c.op-op.result.now in
    let has : slice_get form.graph.ops n ≡ Some op =
    ap (λ (f : Flow). slice_get f.ops n) (sym c.graph-2.ensures) ∙ c.op-op.ensures in
    let room = afters-there form n op c.args.map.now c.spill_all.new.map c.deref-2.result.now has c.requires.done
    c.in_ok-spill_all.ensures.spilled in
    subst (λ (x : ℕ). n < x) (sym c.in_ok-put_pieces.ensures.changes.afters) room

pub returns-clause-done : goal.returns-clause-done
returns-clause-done c =
    let form = c.args.form.now in
    let n = c.args.point in
    let op = c.op-op.result.now in
    let has : slice_get form.graph.ops n ≡ Some op =
    ap (λ (f : Flow). slice_get f.ops n) (sym c.graph-2.ensures) ∙ c.op-op.ensures in
    let flows : IsFlow form.graph c.is_flow.ensures.0 =
    subst (λ (f : Flow). IsFlow f c.is_flow.ensures.0) c.graph.ensures c.is_flow.ensures.1 in
    let lives : IsLives form.lives = subst (λ (l : Lives). IsLives l) c.live.ensures c.is_lives.ensures in
    on-ok-three c.put_fixed.result _ _ _ _
    (λ second befores afters.
    point-done form c.is_flow.ensures.0 n op c.args.map.now c.spill_all.new.map c.put_pieces.new.map
    c.put_fixed.new.map c.in_ok-pieces.pieces.items c.deref.result.now c.deref-3.result.now c.deref-5.result.now
    c.in_ok-solution.solution.spilled.items c.deref-2.result.now c.in_ok-solution.solution.spots.items
    c.deref-4.result.now c.in_ok-places.places.items c.deref-6.result.now c.fixed_use.result c.fixed_result.result
    flows c.is_form.ensures lives c.requires.placed has c.in_ok-pieces.ensures.value c.deref.ensures.value
    c.deref-2.ensures.value c.deref-3.ensures.value c.deref-4.ensures.value c.deref-5.ensures.value
    c.deref-6.ensures.value c.fixed_use.ensures c.fixed_result.ensures c.requires.done
    c.in_ok-solution.ensures.spilled c.in_ok-solution.ensures.spots c.in_ok-spill_all.ensures.spilled
    c.in_ok-spill_all.ensures.given c.in_ok-places.ensures c.in_ok-put_pieces.ensures.changes
    c.in_ok-put_pieces.ensures.before c.in_ok-put_pieces.ensures.after second befores afters)
    c.put_fixed.ensures.changes c.put_fixed.ensures.before c.put_fixed.ensures.after

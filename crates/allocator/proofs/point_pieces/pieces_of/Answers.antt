use Rattle.std.proofs.Common.{◌≡◌, ◌<◌, ◌∙◌, List, ℕ, Option, Some, length, ap, sym, subst}
use Rattle.std.specs.List.{AllByRecursion}
use Rattle.std.specs.Prelude.{slice_get}
use Rattle.flow_graph.specs.Graphs.{Flow, IsFlow}
use Rattle.flow_graph.specs.Liveness.{defined}
use Rattle.flow_graph.specs.Lives.{IsAscending, at_point}
use Rattle.allocator.specs.PointBoards.{with_result}
use Rattle.allocator.proofs.Ordered.{few-is, if-ok, order-is, value-is, vars-within}
use Rattle.allocator.proofs.point_pieces.pieces_of.Goals as goal

pub pieces_for-requires-clause-vars : goal.pieces_for-requires-clause-vars
pieces_for-requires-clause-vars c =
    let flow = c.args.form.now.graph in
    let lives = c.args.form.now.lives in
    let op = c.op-op.result.now in
    let has : slice_get flow.ops c.args.point ≡ Some op = cc in
    let there : c.before-2.result.now ≡ at_point lives.before c.args.point = cc in
    let is : c.deref.result.now ≡ with_result (defined op) (at_point lives.before c.args.point) =
    c.deref.ensures.value
    ∙ (c.in_ok-vars.ensures
    ∙ (ap (λ (d : Option ℕ). with_result d c.before-2.result.now) c.defined.ensures
    ∙ ap (λ (ws : List ℕ). with_result (defined op) ws) there)) in
    let flows : IsFlow flow c.is_flow.ensures.0 =
    subst (λ (f : Flow). IsFlow f c.is_flow.ensures.0) c.graph.ensures c.is_flow.ensures.1 in
    subst (λ (vs : List ℕ). AllByRecursion (λ v. v < length flow.widths) vs) (sym is)
    (vars-within flow c.is_flow.ensures.0 lives c.args.point op flows c.is_form.ensures.live c.requires has)

pub returns-clause-value : goal.returns-clause-value
returns-clause-value c =
    let flow = c.args.form.now.graph in
    let lives = c.args.form.now.lives in
    let op = c.op-op.result.now in
    let has : slice_get flow.ops c.args.point ≡ Some op = cc in
    let there : c.before-2.result.now ≡ at_point lives.before c.args.point = cc in
    let is : c.deref.result.now ≡ with_result (defined op) (at_point lives.before c.args.point) =
    c.deref.ensures.value
    ∙ (c.in_ok-vars.ensures
    ∙ (ap (λ (d : Option ℕ). with_result d c.before-2.result.now) c.defined.ensures
    ∙ ap (λ (ws : List ℕ). with_result (defined op) ws) there)) in
    if-ok c.pieces_for.result _ _
    (λ pieces e. value-is flow lives c.args.point op c.deref.result.now has is pieces.items e) c.pieces_for.ensures

pub returns-clause-order : goal.returns-clause-order
returns-clause-order c =
    let flow = c.args.form.now.graph in
    let lives = c.args.form.now.lives in
    let op = c.op-op.result.now in
    let has : slice_get flow.ops c.args.point ≡ Some op = cc in
    let there : c.before-2.result.now ≡ at_point lives.before c.args.point = cc in
    let is : c.deref.result.now ≡ with_result (defined op) (at_point lives.before c.args.point) =
    c.deref.ensures.value
    ∙ (c.in_ok-vars.ensures
    ∙ (ap (λ (d : Option ℕ). with_result d c.before-2.result.now) c.defined.ensures
    ∙ ap (λ (ws : List ℕ). with_result (defined op) ws) there)) in
    let up : IsAscending (at_point lives.before c.args.point) = subst IsAscending there c.before-2.ensures.ascending in
    if-ok c.pieces_for.result _ _
    (λ pieces e. order-is flow lives c.args.point op c.deref.result.now has is pieces.items e up) c.pieces_for.ensures

pub returns-clause-few : goal.returns-clause-few
returns-clause-few c =
    let flow = c.args.form.now.graph in
    let lives = c.args.form.now.lives in
    let op = c.op-op.result.now in
    let has : slice_get flow.ops c.args.point ≡ Some op = cc in
    let there : c.before-2.result.now ≡ at_point lives.before c.args.point = cc in
    let is : c.deref.result.now ≡ with_result (defined op) (at_point lives.before c.args.point) =
    c.deref.ensures.value
    ∙ (c.in_ok-vars.ensures
    ∙ (ap (λ (d : Option ℕ). with_result d c.before-2.result.now) c.defined.ensures
    ∙ ap (λ (ws : List ℕ). with_result (defined op) ws) there)) in
    let up : IsAscending (at_point lives.before c.args.point) = subst IsAscending there c.before-2.ensures.ascending in
    let flows : IsFlow flow c.is_flow.ensures.0 =
    subst (λ (f : Flow). IsFlow f c.is_flow.ensures.0) c.graph.ensures c.is_flow.ensures.1 in
    if-ok c.pieces_for.result _ _
    (λ pieces e. few-is flow lives c.args.point op c.deref.result.now has is pieces.items e c.is_flow.ensures.0 flows
    c.is_form.ensures.live up c.requires)
    c.pieces_for.ensures

use Rattle.std.proofs.Common.{ℕ, ◌≡◌, ◌<◌, ◌+◌, ◌∷◌, ◌++◌, [], length, rules, sym, ap, subst, arith, ◌∙◌}
use Rattle.index_lists.specs.Lists.{Lists, nodes_of, with_list, with_nodes}
use Rattle.flow_graph.specs.Graphs.{Flow, FitsOp, IsEnded, points_of}
use Rattle.flow_graph.specs.Ordered.{ordered}
use Rattle.std.proofs.lemmas.List.{length_push}
use Rattle.flow_graph.proofs.Keeps.{flow-append}
use Rattle.flow_graph.proofs.Parted.{unmade}
use Rattle.flow_graph.proofs.graph.Graph.append.Goals as goal

pub push_back-requires-clause-in_none : goal.push_back-requires-clause-in_none
push_back-requires-clause-in_none c =
    let order : Lists = c.self.inside.order in
    let v : Flow = ordered c.self.inside.widths.items c.self.inside.arrays.items order c.self.inside.ops.items in
    let i = c.self.invariant in
    let count : c.len-point.result ≡ length v.ops = search rules in
    let grown : c.grow.new.self ≡ with_nodes order (c.len-point.result + 1) = c.in_ok-grow.ensures in
    unmade v i.0 c.grow.new.self c.len-point.result i.1 (ap (λ (s : Lists). s.lists) grown) count

pub invariant_of-self-2 : goal.invariant_of-self-2
invariant_of-self-2 c =
    let order : Lists = c.self.inside.order in
    let v : Flow = ordered c.self.inside.widths.items c.self.inside.arrays.items order c.self.inside.ops.items in
    let i = c.self.invariant in
    let count : c.len-point.result ≡ length v.ops = search rules in
    let grown : c.grow.new.self ≡ with_nodes order (c.len-point.result + 1) = c.in_ok-grow.ensures in
    let b = c.args.block in
    let within : b < length v.blocks =
    subst (λ (f : Flow). b < length f.blocks) (sym c.self.view_is) c.requires.in_range in
    let room = subst (λ (f : Flow). length f.ops < 0xffffffff) (sym c.self.view_is) c.requires.room in
    let open_block = subst (λ (f : Flow). IsEnded f b → ⊥) (sym c.self.view_is) c.requires.not_ended in
    let fits = subst (λ (f : Flow). FitsOp f c.args.op) (sym c.self.view_is) c.requires.fits in
    let ops_are : c.push_reserved.new.self.items ≡ c.self.inside.ops.items ++ c.args.op ∷ [] = cc in
    let nodes = c.len-point.result + 1 in
    let whole : c.push_back.new.order
    ≡ with_list (with_nodes order nodes) b (points_of v b ++ length v.ops ∷ []) =
    c.push_back.ensures
    ∙ (ap (λ (s : Lists). with_list s b (nodes_of s b ++ c.len-point.result ∷ [])) grown
    ∙ ap (λ (n : ℕ). with_list (with_nodes order nodes) b (points_of v b ++ n ∷ [])) count) in
    rw (whole, ops_are) (
      i.0 ++ b ∷ [],
      flow-append v i.0 b c.args.op i.1 within room open_block fits c.numbers_fit.ensures,
      omega (arith, count, length_push v.ops c.args.op),
    )

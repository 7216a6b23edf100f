use Rattle.std.proofs.Common.{ℕ, ◌≡◌, ◌<◌, ◌+◌, ◌∷◌, ◌++◌, [], length, rules, refl, sym, ap, subst, arith, ◌∙◌}
use Rattle.index_lists.specs.Lists.{Lists, StandsIn, with_list, with_nodes}
use Rattle.flow_graph.specs.Graphs.{Flow, FitsOp, IsPlaced, IsPlainAt, block_of, points_of, insert_after}
use Rattle.flow_graph.specs.Ordered.{ordered}
use Rattle.std.proofs.lemmas.List.{length_push}
use Rattle.flow_graph.proofs.Keeps.{flow-insert}
use Rattle.flow_graph.proofs.Parted.{Found, found, found-insert, unmade}
use Rattle.flow_graph.proofs.graph.Graph.insert_after.Goals as goal

pub push_after-requires-clause-at : goal.push_after-requires-clause-at
push_after-requires-clause-at c =
    let order : Lists = c.self.inside.order in
    let v : Flow = ordered c.self.inside.widths.items c.self.inside.arrays.items order c.self.inside.ops.items in
    let i = c.self.invariant in
    let placed : IsPlaced v c.args.point = subst (λ (f : Flow). IsPlaced f c.args.point) (sym c.self.view_is)
    c.requires.placed in
    let h : Found v order c.args.point = found v order c.args.point refl placed in
    let b = block_of v c.args.point in
    let count : c.len-new.result ≡ length v.ops = search rules in
    let grown : c.grow.new.self ≡ with_nodes order (c.len-new.result + 1) = c.in_ok-grow.ensures in
    let stands : StandsIn c.grow.new.self b h.before c.args.point h.after =
    subst (λ (s : Lists). StandsIn s b h.before c.args.point h.after) (sym grown) h.stands in
    (b, h.before, h.after, stands)

pub push_after-requires-clause-in_none : goal.push_after-requires-clause-in_none
push_after-requires-clause-in_none c =
    let order : Lists = c.self.inside.order in
    let v : Flow = ordered c.self.inside.widths.items c.self.inside.arrays.items order c.self.inside.ops.items in
    let i = c.self.invariant in
    let placed : IsPlaced v c.args.point = subst (λ (f : Flow). IsPlaced f c.args.point) (sym c.self.view_is)
    c.requires.placed in
    let h : Found v order c.args.point = found v order c.args.point refl placed in
    let b = block_of v c.args.point in
    let count : c.len-new.result ≡ length v.ops = search rules in
    let grown : c.grow.new.self ≡ with_nodes order (c.len-new.result + 1) = c.in_ok-grow.ensures in
    let stands : StandsIn c.grow.new.self b h.before c.args.point h.after =
    subst (λ (s : Lists). StandsIn s b h.before c.args.point h.after) (sym grown) h.stands in
    unmade v i.0 c.grow.new.self c.len-new.result i.1 (ap (λ (s : Lists). s.lists) grown) count

pub invariant_of-self-2 : goal.invariant_of-self-2
invariant_of-self-2 c =
    let order : Lists = c.self.inside.order in
    let v : Flow = ordered c.self.inside.widths.items c.self.inside.arrays.items order c.self.inside.ops.items in
    let i = c.self.invariant in
    let placed : IsPlaced v c.args.point = subst (λ (f : Flow). IsPlaced f c.args.point) (sym c.self.view_is)
    c.requires.placed in
    let h : Found v order c.args.point = found v order c.args.point refl placed in
    let b = block_of v c.args.point in
    let count : c.len-new.result ≡ length v.ops = search rules in
    let grown : c.grow.new.self ≡ with_nodes order (c.len-new.result + 1) = c.in_ok-grow.ensures in
    let stands : StandsIn c.grow.new.self b h.before c.args.point h.after =
    subst (λ (s : Lists). StandsIn s b h.before c.args.point h.after) (sym grown) h.stands in
    let ops_are : c.push_reserved.new.self.items ≡ c.self.inside.ops.items ++ c.args.op ∷ [] = cc in
    let nodes = c.len-new.result + 1 in
    let whole : c.push_after.new.order
    ≡ with_list (with_nodes order nodes) b (insert_after c.args.point (length v.ops) (points_of v b)) =
    c.push_after.ensures b h.before h.after stands
    ∙ (ap (λ (s : Lists). with_list s b (h.before ++ c.args.point ∷ c.len-new.result ∷ h.after)) grown
    ∙ (ap (λ (n : ℕ). with_list (with_nodes order nodes) b (h.before ++ c.args.point ∷ n ∷ h.after)) count
    ∙ ap (with_list (with_nodes order nodes) b) (sym (found-insert v order c.args.point (length v.ops) h)))) in
    let room = subst (λ (f : Flow). length f.ops < 0xffffffff) (sym c.self.view_is) c.requires.room in
    let plain = subst (λ (f : Flow). IsPlainAt f.ops c.args.point) (sym c.self.view_is) c.requires.plain in
    let fits = subst (λ (f : Flow). FitsOp f c.args.op) (sym c.self.view_is) c.requires.fits in
    rw (whole, ops_are) (
      i.0 ++ b ∷ [],
      flow-insert v i.0 b c.args.point c.args.op i.1 h.block room plain c.requires.no_end fits c.numbers_fit.ensures,
      omega (arith, count, length_push v.ops c.args.op),
    )

pub returns : goal.returns
returns c =
    let order : Lists = c.self.inside.order in
    let v : Flow = ordered c.self.inside.widths.items c.self.inside.arrays.items order c.self.inside.ops.items in
    let i = c.self.invariant in
    let placed : IsPlaced v c.args.point = subst (λ (f : Flow). IsPlaced f c.args.point) (sym c.self.view_is)
    c.requires.placed in
    let h : Found v order c.args.point = found v order c.args.point refl placed in
    let b = block_of v c.args.point in
    let count : c.len-new.result ≡ length v.ops = search rules in
    let grown : c.grow.new.self ≡ with_nodes order (c.len-new.result + 1) = c.in_ok-grow.ensures in
    let stands : StandsIn c.grow.new.self b h.before c.args.point h.after =
    subst (λ (s : Lists). StandsIn s b h.before c.args.point h.after) (sym grown) h.stands in
    let ops_are : c.push_reserved.new.self.items ≡ c.self.inside.ops.items ++ c.args.op ∷ [] = cc in
    let nodes = c.len-new.result + 1 in
    let whole : c.push_after.new.order
    ≡ with_list (with_nodes order nodes) b (insert_after c.args.point (length v.ops) (points_of v b)) =
    c.push_after.ensures b h.before h.after stands
    ∙ (ap (λ (s : Lists). with_list s b (h.before ++ c.args.point ∷ c.len-new.result ∷ h.after)) grown
    ∙ (ap (λ (n : ℕ). with_list (with_nodes order nodes) b (h.before ++ c.args.point ∷ n ∷ h.after)) count
    ∙ ap (with_list (with_nodes order nodes) b) (sym (found-insert v order c.args.point (length v.ops) h)))) in
    rw (← c.self.view_is) (count, rw (whole, ops_are) refl)

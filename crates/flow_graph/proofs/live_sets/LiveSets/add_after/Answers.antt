use Rattle.std.specs.List.{AllByRecursion}
use Rattle.std.proofs.Common.{ℕ, ◌≡◌, ◌<◌, List, [], length, get_or, sym, subst, ◌∙◌}
use Rattle.std.proofs.Math.ListN.{length-set}
use Rattle.std.proofs.lemmas.List.{get_or_default}
use Rattle.flow_graph.specs.Lives.{IsAscending, Lives, at_point}
use Rattle.flow_graph.proofs.Ascending.{ascending-at, ascending-put, ascending-set}
use Rattle.flow_graph.proofs.live_sets.LiveSets.add_after.Goals as goal

pub invariant_of-self : goal.invariant_of-self
invariant_of-self c =
    let inside : c.args.point < length c.self.inside.after.items =
    subst (λ (l : Lives). c.args.point < length l.after) (sym c.self.view_is) c.requires.in_range in
    let old : c.index_mut-list.result.now ≡ get_or c.self.inside.after.items c.args.point [] =
    c.index_mut-list.ensures.value ∙ get_or_default c.self.inside.after.items c.args.point
    c.index_mut-list.result.now [] inside in
    let greatest : AllByRecursion (λ v. v < c.args.var) (get_or c.self.inside.after.items c.args.point []) =
    subst (λ (l : Lives). AllByRecursion (λ v. v < c.args.var) (at_point l.after c.args.point)) (sym c.self.view_is)
    c.requires.greatest in
    let new : IsAscending c.push.new.self =
    ascending-put c.push.result c.index_mut-list.result.now c.push.new.self c.args.var
    (subst IsAscending (sym old) (ascending-at c.self.inside.after.items c.args.point c.self.invariant.after))
    (subst (λ (xs : List ℕ). AllByRecursion (λ v. v < c.args.var) xs) (sym old) greatest) c.push.ensures in
    record {
      same_points = length-set c.self.inside.after.items c.args.point c.push.new.self ∙ c.self.invariant.same_points;
      after = ascending-set c.self.inside.after.items c.args.point c.push.new.self c.self.invariant.after new;
      before = c.self.invariant.before;
    }

use Rattle.std.proofs.Common.{ℕ, ◌≡◌, ◌≤◌, List, length, Some, sym, ap, arith, subst, get_or, ◌∙◌}
use Rattle.std.proofs.lemmas.Option.{same_Some, slice_get_within}
use Rattle.flow_liveness.specs.Distances.{distance_at, distance_in}
use Rattle.flow_liveness.proofs.Adding.{has-item}
use Rattle.flow_liveness.proofs.Distancing.{in-none, in-past, in-some}
use Rattle.flow_liveness.proofs.distances.Distances.at.Goals as goal

pub place_of-requires : goal.place_of-requires
place_of-requires c = rw c.at-entries.ensures (c.self.invariant c.args.point)

pub bounds-entries-place : goal.bounds-entries-place
bounds-entries-place c =
    let (n, e) = c.in-Ok.ensures in slice_get_within c.at-entries.result.now c.in-Ok.place (c.args.var, n) e

pub offset_bounds-entries-place : goal.offset_bounds-entries-place
offset_bounds-entries-place c =
    let (n, e) = c.in-Ok.ensures in
    let within = slice_get_within c.at-entries.result.now c.in-Ok.place (c.args.var, n) e in
    let size = c.at-entries.type_inv.1 in omega (arith, within, size)

pub returns-then-point-len : goal.returns-then-point-len
returns-then-point-len c =
    sym (in-past c.args.self.now c.args.point c.args.var (subst (λ (ls : List (List (ℕ × ℕ))). length ls ≤ c.args.point)
    c.self.view_is (let past : length c.self.inside.lists ≤ c.args.point = omega arith in past)))

pub returns-in-Ok : goal.returns-in-Ok
returns-in-Ok c =
    let entries = c.at-entries.result.now in
    let (n, e) = c.in-Ok.ensures in
    let within = slice_get_within entries c.in-Ok.place (c.args.var, n) e in
    let entry : ◌≡◌ {A = ℕ × ℕ} (get_or entries c.in-Ok.place (0, 0)) (c.args.var, n) =
    same_Some (get_or entries c.in-Ok.place (0, 0)) (c.args.var, n)
    (sym (has-item entries c.in-Ok.place (0, 0) within) ∙ e) in
    ap (λ (x : ℕ × ℕ). Some x.1) entry
    ∙ sym (in-some entries c.args.var n (rw c.at-entries.ensures (c.self.invariant c.args.point)) (c.in-Ok.place, e))
    ∙ ap (λ (es : List (ℕ × ℕ)). distance_in es c.args.var) c.at-entries.ensures
    ∙ ap (λ (ls : List (List (ℕ × ℕ))). distance_at ls c.args.point c.args.var) c.self.view_is

pub returns-in-Err : goal.returns-in-Err
returns-in-Err c =
    sym (in-none c.at-entries.result.now c.args.var c.in-Err.ensures)
    ∙ ap (λ (es : List (ℕ × ℕ)). distance_in es c.args.var) c.at-entries.ensures
    ∙ ap (λ (ls : List (List (ℕ × ℕ))). distance_at ls c.args.point c.args.var) c.self.view_is

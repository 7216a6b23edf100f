use Rattle.std.proofs.Common.{ℕ, ◌≤◌, ◌-◌, ◌*◌, ◌↔◌, subst, arith}
use Rattle.puzzle_board.specs.Bounds.{IsBounded}
use Rattle.puzzle_solver.specs.Plans.{numbers}
use Rattle.least_spill.specs.Most.{beside}
use Rattle.least_spill.proofs.Choices.{min-below, most-with}
use Rattle.least_spill.proofs.most.most_with.Goals as goal

pub overflow_sub-upper : goal.overflow_sub-upper
overflow_sub-upper c =
    let b : IsBounded (numbers c.args.areas (beside c.args.x 0 c.args.z)) = c.is_bounded.ensures.0 cc in
    omega (arith, b.upper, c.upper_cells.ensures (beside c.args.x 0 c.args.z))

pub overflow_sub-lower : goal.overflow_sub-lower
overflow_sub-lower c =
    let b : IsBounded (numbers c.args.areas (beside c.args.x 0 c.args.z)) = c.is_bounded.ensures.0 cc in
    omega (arith, b.lower, c.lower_cells.ensures (beside c.args.x 0 c.args.z))

pub overflow_sub-upper-2 : goal.overflow_sub-upper-2
overflow_sub-upper-2 c =
    let y = c.min-y.result in
    let most = min-below y _ _ _ c.min-y.ensures (omega arith) in
    let room = min-below y _ _ _ c.min.ensures most.0 in
    let b = (c.room_for_y-room.ensures y).1 room.1 in
    omega (arith, b.upper, c.upper_cells.ensures (beside c.args.x y c.args.z))

pub overflow_sub-lower-2 : goal.overflow_sub-lower-2
overflow_sub-lower-2 c =
    let y = c.min-y.result in
    let most = min-below y _ _ _ c.min-y.ensures (omega arith) in
    let room = min-below y _ _ _ c.min.ensures most.0 in
    let b = (c.room_for_y-room.ensures y).1 room.1 in
    omega (arith, b.lower, c.lower_cells.ensures (beside c.args.x y c.args.z))

pub returns : goal.returns
returns c =
    let b : IsBounded (numbers c.args.areas (beside c.args.x 0 c.args.z)) = c.is_bounded.ensures.0 cc in
    let upper = c.upper_cells.result - 2 * c.from-3.result in
    let lower = c.lower_cells.result - 2 * c.from-4.result in
    let rooms : (n : ℕ)
    → IsBounded (numbers c.args.areas (beside c.args.x n c.args.z)) ↔ n ≤ c.room_for_y-room.result =
    subst
    (λ (x : ℕ). (n : ℕ) → IsBounded (numbers c.args.areas (beside x n c.args.z)) ↔ n ≤ c.room_for_y-room.result)
    c.from.ensures
    (subst
    (λ (z : ℕ).
    (n : ℕ) → IsBounded (numbers c.args.areas (beside c.from.result n z)) ↔ n ≤ c.room_for_y-room.result)
    c.from-2.ensures
    c.room_for_y-room.ensures) in
    most-with c.args.areas c.args.pieces c.args.x c.args.z c.room_for_y-room.result upper lower c.min.result c.max.result
    c.min-y.result c.min-2.result c.min-3.result c.requires.x c.requires.z rooms
    (omega (arith, b.upper, c.upper_cells.ensures c.args.pieces, c.from-3.ensures))
    (omega (arith, b.lower, c.lower_cells.ensures c.args.pieces, c.from-4.ensures))
    (cc (c.min.ensures, c.from-7.ensures))
    (cc (
      c.max.ensures,
      c.saturating_sub-spare_upper.ensures,
      c.saturating_sub-spare_lower.ensures,
      c.from-5.ensures,
      c.from-6.ensures,
    ))
    c.min-y.ensures
    (cc (c.min-2.ensures, c.from-8.ensures))
    (cc (c.min-3.ensures, c.from-9.ensures))

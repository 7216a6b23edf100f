use Rattle.std.proofs.Common.{ℕ, ◌≡◌, ◌-◌, subst, arith}
use Rattle.puzzle_board.specs.Bounds.{IsBounded}
use Rattle.puzzle_solver.specs.Plans.{numbers}
use Rattle.least_spill.proofs.Choices.{wide-most}
use Rattle.least_spill.proofs.most.all_but_wide_y.Goals as goal

pub returns-then-is_bounded : goal.returns-then-is_bounded
returns-then-is_bounded c =
    wide-most c.args.areas c.args.pieces c.loop-fewer.fewer (omega arith) (c.is_bounded.ensures.0 cc)
    c.loop-fewer.invariant

pub returns : goal.returns
returns c = λ bounded.
    let none : 0 ≡ c.args.pieces.y2 - c.args.pieces.y2 = omega arith in
    c.loop-fewer.invariant c.args.pieces.y2 (omega arith)
    (subst (λ (n : ℕ). IsBounded (numbers c.args.areas (record c.args.pieces { y2 = n }))) none bounded)

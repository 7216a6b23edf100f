use Rattle.std.proofs.Common.{ℕ, ◌≡◌, ◌+◌, subst, arith}
use Rattle.least_spill.specs.Most.{IsMostBefore}
use Rattle.least_spill.proofs.most.most_without_wide_y.Goals as goal

pub returns : goal.returns
returns c =
    let all : c.loop-x.x ≡ c.args.pieces.x2 + 1 = omega arith in
    subst
    (λ (x : ℕ). IsMostBefore c.args.areas c.args.pieces x 0 c.loop-x.best)
    all
    c.loop-x.invariant

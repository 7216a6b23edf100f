use Rattle.std.proofs.Common.{arith}
use Rattle.least_spill.proofs.Choices.{before-more}
use Rattle.least_spill.proofs.most.more_with.Goals as goal

pub returns-in-None : goal.returns-in-None
returns-in-None c =
    before-more c.args.areas c.args.pieces c.args.x c.args.z c.args.best c.args.best c.requires.best c.requires.best.stay
    (omega arith) (λ other fits wide. absurd (c.in-None.ensures other fits wide))

pub returns-then-total : goal.returns-then-total
returns-then-total c =
    before-more c.args.areas c.args.pieces c.args.x c.args.z c.args.best c.in-Some.kept c.requires.best
    c.in-Some.ensures.stay (omega (arith, c.total.ensures, c.total-in-Some.ensures, c.if-total.true))
    c.in-Some.ensures.most

pub returns-else-total : goal.returns-else-total
returns-else-total c =
    before-more c.args.areas c.args.pieces c.args.x c.args.z c.args.best c.args.best c.requires.best c.requires.best.stay
    (omega arith)
    (λ other fits wide.
    omega (
      arith,
      c.in-Some.ensures.most other fits wide,
      c.total.ensures,
      c.total-in-Some.ensures,
      c.if-total.false,
    ))

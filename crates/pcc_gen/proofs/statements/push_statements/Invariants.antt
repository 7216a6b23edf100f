use Rattle.std.proofs.Common.{◌≡◌, ◌++◌}
use Rattle.pcc_gen.specs.Generated.{statements, after_statements}
use Rattle.pcc_gen.proofs.statements.push_statements.Given as goal

-- so many lines are drawn
abbrev pub invariant-loop-line : goal.invariant-loop-line
invariant-loop-line l = (l.out.items ≡ l.initial.out.items ++ statements l._line l.initial.draws.x)
    × (l.draws.x ≡ after_statements l._line l.initial.draws.x)

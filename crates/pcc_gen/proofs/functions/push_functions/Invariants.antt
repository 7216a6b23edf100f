use Rattle.std.proofs.Common.{◌≡◌, ◌++◌}
use Rattle.pcc_gen.specs.Generated.{functions, after_functions}
use Rattle.pcc_gen.proofs.functions.push_functions.Given as goal

-- so many functions are drawn
abbrev pub invariant-loop-number : goal.invariant-loop-number
invariant-loop-number l = (l.out.items ≡ l.initial.out.items ++ functions l.number 0 l.initial.draws.x)
    × (l.draws.x ≡ after_functions l.number l.initial.draws.x)

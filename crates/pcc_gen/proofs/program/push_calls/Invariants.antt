use Rattle.std.proofs.Common.{◌≡◌, ◌++◌}
use Rattle.pcc_gen.specs.Generated.{calls}
use Rattle.pcc_gen.proofs.program.push_calls.Given as goal

-- so many calls are put
abbrev pub invariant-loop-number : goal.invariant-loop-number
invariant-loop-number l = l.out.items ≡ l.initial.out.items ++ calls l.number 0

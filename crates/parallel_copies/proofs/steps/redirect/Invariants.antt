use Rattle.std.proofs.Common.{◌≡◌, ◌++◌, map, take, drop}
use Rattle.parallel_copies.specs.Steps.{redirected}
use Rattle.parallel_copies.proofs.steps.redirect.Given as goal

-- the moves so far come from the other place
abbrev pub invariant-loop-m : goal.invariant-loop-m
invariant-loop-m l =
    l.waiting ≡ map (redirected l.old l.new) (take l.m-index l.fn.waiting) ++ drop l.m-index l.fn.waiting

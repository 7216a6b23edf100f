-- What was put and the numbers that are left are all.
use Rattle.std.proofs.Common.{◌≡◌, ◌++◌, decimal, drop, map}
use Rattle.puzzle_solver.specs.Texts.{spaced}
use Rattle.pcc_driver.proofs.least.push_numbers.Given as goal

abbrev pub invariant-loop-number : goal.invariant-loop-number
invariant-loop-number l =
    l.out.items ++ spaced (map decimal (drop l.number-index l.fn.numbers))
    ≡ l.initial.out.items ++ spaced (map decimal l.fn.numbers)

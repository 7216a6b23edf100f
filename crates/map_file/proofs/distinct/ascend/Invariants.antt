use Rattle.std.proofs.Common.{drop}
use Rattle.map_file.proofs.Ascending.{Ascends}
use Rattle.map_file.proofs.distinct.ascend.Given as goal

-- the numbers ascend exactly where those that are left follow
abbrev pub invariant-loop-number : goal.invariant-loop-number
invariant-loop-number l = Ascends l.numbers l.least (drop l.number-index l.numbers)

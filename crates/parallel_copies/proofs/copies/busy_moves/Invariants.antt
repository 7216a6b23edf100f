use Rattle.std.proofs.Common.{◌≡◌, take}
use Rattle.std.specs.Prelude.{filter}
use Rattle.parallel_copies.specs.Steps.{is_busy}
use Rattle.parallel_copies.proofs.copies.busy_moves.Given as goal

-- those of the moves so far
abbrev pub invariant-loop-m : goal.invariant-loop-m
invariant-loop-m l = l.waiting.items ≡ filter is_busy (take l.m-index l.moves)

use Rattle.std.proofs.Common.{◌≡◌, ◌+◌, vec_capacity, vec_len}
use Rattle.least_spill.specs.Removing.{IsTaken}
use Rattle.least_spill.proofs.removing.remove_some.Given as goal

abbrev pub invariant-loop-taken : goal.invariant-loop-taken
invariant-loop-taken g l =
    record {
      taken : IsTaken l.kind l.width l._taken l.initial.board l.board l.initial.removed.items l.removed.items;
      len : vec_len l.removed ≡ vec_len l.initial.removed + l._taken;
      capacity : vec_capacity l.removed ≡ vec_capacity l.initial.removed;
    }

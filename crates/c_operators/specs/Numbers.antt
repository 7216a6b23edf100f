-- Answers of the operators on numbers, as the source meaning has them.
use Rattle.std.specs.Prelude.{ℤ, Result, Ok, Err}
use Rattle.pcc_base.specs.declared.run.Trap.{Trap}
use Rattle.c_tree.specs.Operators.{Computed, Computes, Traps}
use Rattle.c_tree.specs.Store.{HoldsNumber}

-- a number, or the trap
abbrev pub computed_of : Result ℤ Trap → Computed
computed_of (Ok n) = Computes (HoldsNumber n)
computed_of (Err trap) = Traps trap

-- What is wanted of a value, in memory.
use Rattle.lower_lines.specs.Parts.{Wanted, Dropped, Own, ToLocal, Tests}
use Rattle.lower_builder.specs.declared.wanted.Wanted as asked
use Rattle.lower_builder.specs.declared.wanted.Wanted.TheVariants as wants

abbrev pub wanted_of : asked.Wanted → Wanted
wanted_of wants.Dropped = Dropped
wanted_of wants.Own = Own
wanted_of (wants.ToLocal local) = ToLocal local
wanted_of (wants.Tests holds fails) = Tests holds fails

-- what is wanted, without the blocks to which control goes: how many blocks lines take doesn't depend on these
abbrev pub plain : Wanted → Wanted
plain Dropped = Dropped
plain Own = Own
plain (ToLocal local) = ToLocal local
plain (Tests holds fails) = Tests 0 0

-- The raw trees are those of the texts.
use Rattle.std.proofs.Common.{map}
use Rattle.c_syntax.specs.Statements.{unit_of}
use Rattle.c_front.proofs.typed.typed_program.Goals as goal

pub returns-in-Ok-clause-accepted : goal.returns-in-Ok-clause-accepted
returns-in-Ok-clause-accepted c = (
  map unit_of c.in_ok-units.units.items,
  c.in_ok-units.ensures.units,
  rw c.as_slice.ensures.value at c.in-Ok.ensures.accepted,
)

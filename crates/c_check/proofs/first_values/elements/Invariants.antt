-- The elements so far.
use Rattle.std.proofs.Common.{◌≡◌}
use Rattle.c_typing.specs.Numbering.{filled}
use Rattle.c_check.proofs.first_values.elements.Given as goal

abbrev pub invariant-elements : goal.invariant-elements
invariant-elements l = l.elements.items ≡ filled l.place l.values

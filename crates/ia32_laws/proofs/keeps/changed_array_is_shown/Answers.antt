use Rattle.ia32_laws.proofs.Changed.{array-shows}
use Rattle.ia32_laws.proofs.Owned.{own-array-shows}
use Rattle.ia32_laws.proofs.Stored.{element-shows}
use Rattle.ia32_laws.proofs.keeps.changed_array_is_shown.Goals as goal

pub returns-clause-array : goal.returns-clause-array
returns-clause-array c = array-shows

pub returns-clause-own_array : goal.returns-clause-own_array
returns-clause-own_array c = own-array-shows

pub returns-clause-element : goal.returns-clause-element
returns-clause-element c = element-shows

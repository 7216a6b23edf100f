use Rattle.ia32_placements.proofs.Example.{eax-supports, ebx-is-moved}
use Rattle.ia32_placements.proofs.laws.worked_example.Goals as goal

pub returns-clause-whole : goal.returns-clause-whole
returns-clause-whole c = eax-supports

pub returns-clause-moved : goal.returns-clause-moved
returns-clause-moved c = ebx-is-moved

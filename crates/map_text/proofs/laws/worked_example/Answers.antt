use Rattle.std.proofs.Common.{refl}
use Rattle.map_text.proofs.laws.worked_example.Goals as goal

pub returns-clause-caller : goal.returns-clause-caller
returns-clause-caller c = refl

pub returns-clause-own : goal.returns-clause-own
returns-clause-own c = refl

pub returns-clause-object : goal.returns-clause-object
returns-clause-object c = refl

pub returns-clause-none : goal.returns-clause-none
returns-clause-none c = refl

pub returns-clause-unknown : goal.returns-clause-unknown
returns-clause-unknown c = refl

pub returns-clause-parts : goal.returns-clause-parts
returns-clause-parts c = refl

pub returns-clause-other : goal.returns-clause-other
returns-clause-other c = refl

use Rattle.ia32_laws.proofs.Traps.{check-passes, check-traps}
use Rattle.ia32_laws.proofs.routines_laws.checks_trap.Goals as goal

pub returns-clause-traps : goal.returns-clause-traps
returns-clause-traps c = check-traps

pub returns-clause-passes : goal.returns-clause-passes
returns-clause-passes c = check-passes

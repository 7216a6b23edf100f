use Rattle.ia32_laws.proofs.KeepsApart.{protected-is-apart, pushed-is-apart}
use Rattle.ia32_laws.proofs.Zones.{shown-in-frame}
use Rattle.ia32_laws.proofs.keeps.protected_is_apart.Goals as goal

pub returns-clause-in_frame : goal.returns-clause-in_frame
returns-clause-in_frame c = shown-in-frame

pub returns-clause-apart : goal.returns-clause-apart
returns-clause-apart c = protected-is-apart

pub returns-clause-pushed : goal.returns-clause-pushed
returns-clause-pushed c = pushed-is-apart

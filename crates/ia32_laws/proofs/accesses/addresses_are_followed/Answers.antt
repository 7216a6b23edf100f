use Rattle.ia32_laws.proofs.AccessesAddresses.{frame-follows, static-follows}
use Rattle.ia32_laws.proofs.accesses.addresses_are_followed.Goals as goal

pub returns-clause-frame : goal.returns-clause-frame
returns-clause-frame c = frame-follows

pub returns-clause-static_object : goal.returns-clause-static_object
returns-clause-static_object c = static-follows

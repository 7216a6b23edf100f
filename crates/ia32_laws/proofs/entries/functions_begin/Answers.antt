use Rattle.ia32_laws.proofs.Entry.{entry-comes}
use Rattle.ia32_laws.proofs.Ready.{entries-are-ready}
use Rattle.ia32_laws.proofs.entries.functions_begin.Goals as goal

pub returns : goal.returns
returns c = record { ready = entries-are-ready; entry = entry-comes }

use Rattle.ia32_insn.proofs.Access.{load-stored, load-elsewhere}
use Rattle.ia32_insn.proofs.step_laws.load_after_store.Goals as goal

pub returns-clause-same : goal.returns-clause-same
returns-clause-same c = load-stored

pub returns-clause-elsewhere : goal.returns-clause-elsewhere
returns-clause-elsewhere c = load-elsewhere

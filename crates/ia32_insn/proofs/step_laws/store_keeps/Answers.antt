use Rattle.ia32_insn.proofs.Access.{store-keeps_areas, store-keeps_rest}
use Rattle.ia32_insn.proofs.step_laws.store_keeps.Goals as goal

pub returns-clause-areas : goal.returns-clause-areas
returns-clause-areas c = store-keeps_areas

pub returns-clause-others : goal.returns-clause-others
returns-clause-others c = store-keeps_rest

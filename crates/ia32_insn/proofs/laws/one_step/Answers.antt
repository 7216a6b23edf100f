use Rattle.ia32_insn.proofs.Runs.{step_once}
use Rattle.ia32_insn.proofs.laws.one_step.Goals as goal

pub returns : goal.returns
returns c = step_once

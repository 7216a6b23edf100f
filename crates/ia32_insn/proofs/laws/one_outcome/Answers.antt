use Rattle.ia32_insn.proofs.Runs.{run_once}
use Rattle.ia32_insn.proofs.laws.one_outcome.Goals as goal

pub returns : goal.returns
returns c = run_once

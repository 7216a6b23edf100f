use Rattle.ia32_insn.proofs.Spelling.{begins_once}
use Rattle.ia32_insn.proofs.laws.one_spelling.Goals as goal

pub returns : goal.returns
returns c = begins_once

use Rattle.std.proofs.Common.{rules}
use Rattle.ia32_decode.proofs.moves.mov.Goals as goal

pub returns-in-Reg : goal.returns-in-Reg
returns-in-Reg c = search rules

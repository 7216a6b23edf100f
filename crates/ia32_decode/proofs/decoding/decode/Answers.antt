use Rattle.ia32_insn.proofs.Spelling.{read_begins, read_none, read_short}
use Rattle.ia32_decode.proofs.decoding.decode.Goals as goal

pub returns-clause-found : goal.returns-clause-found
returns-clause-found c = rw c.read.ensures (read_begins c.args.bytes.now)

pub returns-clause-none : goal.returns-clause-none
returns-clause-none c = rw c.read.ensures (read_none c.args.bytes.now)

pub returns-clause-short : goal.returns-clause-short
returns-clause-short c = rw c.read.ensures (read_short c.args.bytes.now)

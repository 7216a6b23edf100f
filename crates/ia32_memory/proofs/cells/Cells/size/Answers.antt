use Rattle.ia32_memory.proofs.KeepingCells.{length-laid}
use Rattle.std.proofs.Common.{sym}
use Rattle.ia32_memory.proofs.cells.Cells.size.Goals as goal

pub returns-clause-seen : goal.returns-clause-seen
returns-clause-seen c =
    let cells = c.args.self.now in
    sym (length-laid cells.size cells.front.items cells.back.items c.requires.0)

use Rattle.ia32_memory.specs.Cells.{cells_seen}
use Rattle.ia32_memory.proofs.KeepingCells.{two-bytes}
use Rattle.ia32_memory.proofs.cells.Cells.half_apart.Goals as goal

pub returns : goal.returns
returns c =
    rw (two-bytes c.args.offset c.byte.result c.byte-2.result (cells_seen c.args.self.now) c.byte.ensures
    c.byte-2.ensures) c.read_u16.ensures

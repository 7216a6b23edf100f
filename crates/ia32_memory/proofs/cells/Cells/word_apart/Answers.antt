use Rattle.ia32_memory.specs.Cells.{cells_seen}
use Rattle.ia32_memory.proofs.KeepingCells.{four-bytes}
use Rattle.ia32_memory.proofs.cells.Cells.word_apart.Goals as goal

pub returns : goal.returns
returns c =
    rw (four-bytes c.args.offset c.byte.result c.byte-2.result c.byte-3.result c.byte-4.result
    (cells_seen c.args.self.now) c.byte.ensures c.byte-2.ensures c.byte-3.ensures c.byte-4.ensures) c.read_u32.ensures

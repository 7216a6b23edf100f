use Rattle.std.proofs.Common.{◌+◌, ◌-◌, length, arith}
use Rattle.ia32_memory.proofs.KeepingCells.{among-last, laid-over_front, laid-over_back}
use Rattle.ia32_memory.proofs.cells.Cells.write.Goals as goal

pub returns-then-offset-bytes-clause-value : goal.returns-then-offset-bytes-clause-value
returns-then-offset-bytes-clause-value c =
    let cells = c.args.self.now in
    laid-over_front cells.size c.args.offset cells.front.items cells.back.items c.args.bytes.now
    c.write_over.new.all.items (omega (arith, c.if-offset-bytes.true, c.count.ensures)) c.write_over.ensures.value
    c.write_over.ensures.count

pub returns-else-offset-bytes-clause-value : goal.returns-else-offset-bytes-clause-value
returns-else-offset-bytes-clause-value c =
    let cells = c.args.self.now in
    let over = c.write_over-else-offset-bytes in
    let past = among-last (c.args.offset + length c.args.bytes.now) (length cells.front.items)
    (cells.size - length cells.back.items) c.args.offset c.requires.kept
    (omega (arith, c.if-offset-bytes.false, c.count.ensures)) in
    laid-over_back cells.size c.args.offset (c.args.offset - c.border.result) cells.front.items cells.back.items
    c.args.bytes.now over.new.all.items c.requires.within.0 (omega (arith, c.border.ensures)) past over.ensures.value
    over.ensures.count

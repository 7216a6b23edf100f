use Rattle.std.proofs.Common.{◌≡◌, ◌+◌, ◌-◌, false, length, sym, ◌∙◌, arith}
use Rattle.ia32_memory.specs.Cells.{is_kept}
use Rattle.ia32_memory.proofs.KeepingCells.{among-none, laid-between}
use Rattle.ia32_memory.proofs.cells.Cells.byte.Goals as goal

pub returns-else-is_kept : goal.returns-else-is_kept
returns-else-is_kept c =
    let cells = c.args.self.now in
    let none : is_kept c.args.offset 1 cells ≡ false = sym c.is_kept.ensures ∙ c.if-is_kept.false in
    let apart = among-none (c.args.offset + 1) (length cells.front.items) (cells.size - length cells.back.items)
    c.args.offset none in
    laid-between cells.size c.args.offset cells.front.items cells.back.items c.requires.within.0
    (omega (arith, apart.0)) apart.1

-- The byte at 0x1007 is in both.
use Rattle.std.proofs.Common.{arith}
use Rattle.elf_image.specs.Worked.{blank}
use Rattle.elf_image.proofs.laws.worked_segments.Goals as goal

pub returns-clause-one_inside : goal.returns-clause-one_inside
returns-clause-one_inside c loadable =
    loadable.apart 0 1 (blank 0 0) (omega arith) (omega arith) 0x1007 (omega arith, omega arith)
    (omega arith, omega arith)

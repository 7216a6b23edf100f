use Rattle.std.proofs.Common.{arith}
use Rattle.ia32_insn.specs.Registers.{byte_place}
use Rattle.ia32_insn.proofs.Cells.{AreRegisters-words, set-merged}
use Rattle.ia32_insn.proofs.register_file.RegFile.set8.Goals as goal

pub returns-clause-value : goal.returns-clause-value
returns-clause-value c =
    rw c.from.ensures (set-merged c.place_of-word.result.0 c.place_of-word.result.1 (byte_place c.args.r) c.args.value
    c.self.inside.words c.args.self.now (omega arith) (c.self.invariant.1 c.place_of-word.result.0) (omega arith)
    c.place_of-word.ensures.shift c.place_of-word.ensures.place c.self.view_is)

pub returns-clause-shape : goal.returns-clause-shape
returns-clause-shape c = AreRegisters-words c.self.inside.words c.args.self.now c.self.invariant.0 c.self.view_is

use Rattle.std.proofs.Common.{arith}
use Rattle.ia32_insn.proofs.Cells.{AreRegisters-words, with_register-words}
use Rattle.ia32_insn.proofs.register_file.RegFile.set32.Goals as goal

pub returns-clause-value : goal.returns-clause-value
returns-clause-value c =
    with_register-words c.args.r c.number_of.result c.args.value c.self.inside.words c.args.self.now
    c.number_of.ensures.number (omega arith) c.self.view_is

pub returns-clause-shape : goal.returns-clause-shape
returns-clause-shape c = AreRegisters-words c.self.inside.words c.args.self.now c.self.invariant.0 c.self.view_is

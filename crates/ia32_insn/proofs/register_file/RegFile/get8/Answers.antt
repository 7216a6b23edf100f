use Rattle.std.proofs.Common.{arith}
use Rattle.ia32_insn.specs.Registers.{byte_place}
use Rattle.ia32_insn.proofs.Cells.{AreRegisters-words, get_or-shifted}
use Rattle.ia32_insn.proofs.register_file.RegFile.get8.Goals as goal

pub returns-clause-value : goal.returns-clause-value
returns-clause-value c =
    get_or-shifted c.place_of-word.result.0 c.place_of-word.result.1 (byte_place c.args.r) c.self.inside.words
    c.args.self.now (omega arith) c.place_of-word.ensures.shift c.place_of-word.ensures.place c.self.view_is

pub returns-clause-shape : goal.returns-clause-shape
returns-clause-shape c = AreRegisters-words c.self.inside.words c.args.self.now c.self.invariant.0 c.self.view_is

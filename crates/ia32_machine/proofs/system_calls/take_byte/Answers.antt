use Rattle.std.proofs.Common.{◌<◌, sym, ◌∙◌, ap, Ok, arith}
use Rattle.ia32_insn.specs.declared.register_names.Reg32.TheVariants.{Eax}
use Rattle.ia32_insn.specs.Meaning.{with_word}
use Rattle.ia32_machine.proofs.Storing.{byte_stored}
use Rattle.ia32_machine.proofs.system_calls.take_byte.Goals as goal

pub returns : goal.returns
returns c =
    let below : c.args.byte < 256 = omega arith in
    byte_stored (with_word Eax 1) c.args.processor.now c.store8.new.self c.args.address c.args.byte c.store8.result
    below c.requires c.store8.ensures ∙ ap Ok (sym c.set_word.ensures)

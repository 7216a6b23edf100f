-- One more word.
use Rattle.std.specs.Prelude.{false}
use Rattle.std.proofs.Common.{arith}
use Rattle.ia32_asm.specs.declared.section.Target.TheVariants as target
use Rattle.elf_link.specs.Symbols.{symbols_of}
use Rattle.elf_link.proofs.Placing.{word_room, word_more}
use Rattle.elf_link.proofs.text.put_section.Goals as goal

pub write_word-requires : goal.write_word-requires
write_word-requires c =
    omega (
      arith,
      word_room (symbols_of c.args.addresses.now) c.args.address c.loop-relocation.relocation-index c.len-start.result
          c.args.section.now.relocations.items
          c.deref-relocation-items.result.now (record { at = 0; relative = false; target = target.Function 0 })
          c.args.section.now.bytes.items c.args.text.now.items c.loop-relocation.text.items
          c.deref-relocation-items.ensures.value (omega arith) c.requires.fits.inside (omega arith)
          c.loop-relocation.invariant,
    )

pub loop-relocation-preserved : goal.loop-relocation-preserved
loop-relocation-preserved c =
    word_more (symbols_of c.args.addresses.now) c.args.address c.loop-relocation.relocation-index c.len-start.result
    c.word.result c.args.section.now.relocations.items
    c.deref-relocation-items.result.now _ c.args.section.now.bytes.items c.args.text.now.items
    c.loop-relocation.text.items c.write_word.new.bytes.items
    c.deref-relocation-items.ensures.value (omega arith) c.requires.fits.inside (omega arith) c.word.ensures
    c.write_word.ensures c.loop-relocation.invariant

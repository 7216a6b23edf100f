-- The words so far are in place.
use Rattle.std.proofs.Common.{◌≡◌, ◌++◌, take}
use Rattle.ia32_asm.specs.Sections.{resolved}
use Rattle.elf_link.specs.Symbols.{symbols_of}
use Rattle.elf_link.proofs.text.put_section.Given as goal

abbrev pub invariant-loop-relocation : goal.invariant-loop-relocation
invariant-loop-relocation l =
    l.text.items ≡ l.fn.text.items ++ resolved (symbols_of l.addresses) l.address
    (take l.relocation-index l.section.relocations.items) l.section.bytes.items

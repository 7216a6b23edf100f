-- The bytes so far, and those of the sections that are left.
use Rattle.std.proofs.Common.{◌≡◌, ◌+◌, ◌++◌, drop}
use Rattle.elf_link.specs.Parts.{sections_size}
use Rattle.elf_link.specs.Symbols.{symbols_of}
use Rattle.elf_link.specs.Laid.{code_from}
use Rattle.elf_link.proofs.text.put_sections.Given as goal

abbrev pub invariant-loop-section : goal.invariant-loop-section
invariant-loop-section l =
    record {
      made : l.text.items ++ code_from (symbols_of l.addresses) l.address (drop l.section-index l.sections.items)
          ≡ l.fn.text.items ++ code_from (symbols_of l.addresses) l.fn.start l.sections.items;
      left : l.address + sections_size (drop l.section-index l.sections.items)
          ≡ l.fn.start + sections_size l.sections.items;
    }

-- The addresses so far, and those of the sections that are left.
use Rattle.std.proofs.Common.{◌≡◌, ◌+◌, drop, length}
use Rattle.elf_link.specs.Parts.{order_of, sections_size}
use Rattle.elf_link.specs.Placed.{addresses_from}
use Rattle.elf_link.proofs.Numbered.{IsFilled}
use Rattle.elf_link.proofs.function_addresses.functions_from.Given as goal

abbrev pub invariant-loop-section : goal.invariant-loop-section
invariant-loop-section l =
    record {
      many : length l.addresses.items ≡ length l.sections.items;
      made : IsFilled (order_of l.sections.items) (addresses_from l.fn.start l.sections.items) l.addresses.items
          l.section-index;
      next : drop l.section-index (addresses_from l.fn.start l.sections.items)
          ≡ addresses_from l.address (drop l.section-index l.sections.items);
      left : l.address + sections_size (drop l.section-index l.sections.items)
          ≡ l.fn.start + sections_size l.sections.items;
    }

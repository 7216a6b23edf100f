-- The points so far, and those of the sections that are left.
use Rattle.std.proofs.Common.{◌≡◌, ◌+◌, drop, length, map}
use Rattle.elf_link.specs.Parts.{order_of, sections_size}
use Rattle.elf_link.specs.Laid.{points_from}
use Rattle.elf_link.proofs.Numbered.{IsFilled}
use Rattle.elf_link.proofs.points.points_of.Given as goal

abbrev pub invariant-loop-section : goal.invariant-loop-section
invariant-loop-section l =
    record {
      many : length l.points.items ≡ length l.sections.items;
      made : IsFilled (order_of l.sections.items) (points_from l.fn.start l.sections.items)
          (map (λ v. v.items) l.points.items) l.section-index;
      next : drop l.section-index (points_from l.fn.start l.sections.items)
          ≡ points_from l.address (drop l.section-index l.sections.items);
      left : l.address + sections_size (drop l.section-index l.sections.items)
          ≡ l.fn.start + sections_size l.sections.items;
    }

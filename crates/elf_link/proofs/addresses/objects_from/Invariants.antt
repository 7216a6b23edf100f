-- The addresses so far, and those of the objects that are left.
use Rattle.std.proofs.Common.{◌≡◌, ◌+◌, ◌++◌, drop, map}
use Rattle.ia32_insn.specs.Items.{object_addresses}
use Rattle.elf_link.specs.Parts.{object_of, objects_size}
use Rattle.elf_link.proofs.addresses.objects_from.Given as goal

abbrev pub invariant-loop-object : goal.invariant-loop-object
invariant-loop-object l =
    record {
      made : l.addresses.items ++ object_addresses l.address (map object_of (drop l.object-index l.objects.items))
          ≡ object_addresses l.fn.start (map object_of l.objects.items);
      left : l.address + objects_size (map object_of (drop l.object-index l.objects.items))
          ≡ l.fn.start + objects_size (map object_of l.objects.items);
    }

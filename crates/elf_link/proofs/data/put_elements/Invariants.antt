-- The bytes so far, and those of the elements that are left.
use Rattle.std.proofs.Common.{◌≡◌, ◌++◌, drop}
use Rattle.ia32_insn.specs.Items.{element_bytes}
use Rattle.elf_link.specs.Parts.{object_of}
use Rattle.elf_link.proofs.data.put_elements.Given as goal

abbrev pub invariant-loop-element : goal.invariant-loop-element
invariant-loop-element l =
    l.bytes.items ++ element_bytes (record {
      width = l.object.width;
      elements =
          drop l.element-index l.object.elements.items;
    }) ≡ l.fn.bytes.items ++ element_bytes (object_of l.object)

-- The bytes so far, and those of the objects that are left.
use Rattle.std.proofs.Common.{◌≡◌, ◌++◌, drop, map}
use Rattle.std.specs.Prelude.{flat_map}
use Rattle.ia32_insn.specs.Items.{data_bytes, object_bytes}
use Rattle.elf_link.specs.Parts.{object_of}
use Rattle.elf_link.proofs.data.data_of.Given as goal

abbrev pub invariant-loop-object : goal.invariant-loop-object
invariant-loop-object l = l.bytes.items ++ flat_map object_bytes (map object_of (drop l.object-index l.objects.items))
    ≡ data_bytes (map object_of l.objects.items)

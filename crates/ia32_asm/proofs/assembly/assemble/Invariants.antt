-- The bytes and relocations so far are those of the items so far.
use Rattle.std.proofs.Common.{take}
use Rattle.ia32_asm.proofs.ItemCode.{IsCode}
use Rattle.ia32_asm.proofs.assembly.assemble.Given as goal

abbrev pub invariant-loop-item : goal.invariant-loop-item
invariant-loop-item l = IsCode l.labels.items (take l.item-index l.items.items) l.bytes.items l.relocations.items

-- The items so far are laid.
use Rattle.std.proofs.Common.{take}
use Rattle.ia32_asm.specs.Pieces.{AreLaid}
use Rattle.ia32_asm.proofs.offsets.offsets_of.Given as goal

abbrev pub invariant-loop-item : goal.invariant-loop-item
invariant-loop-item l = AreLaid (take l.item-index l.items.items) l.offsets

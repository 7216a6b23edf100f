-- The items so far are fewer bytes than all, and one more is laid.
use Rattle.std.proofs.Common.{arith}
use Rattle.ia32_asm.proofs.Laying.{items_size-take, laid_step}
use Rattle.ia32_asm.proofs.offsets.offsets_of.Goals as goal

pub add-requires-clause-room : goal.add-requires-clause-room
add-requires-clause-room c = omega (arith, items_size-take c.loop-item.item-index c.args.items.now.items)

pub loop-item-preserved : goal.loop-item-preserved
loop-item-preserved c =
    laid_step c.args.items.now.items c.deref-item-items.result.now c.loop-item.item-index _ c.loop-item.offsets
    c.add.new.offsets
    c.deref-item-items.ensures.value (omega arith) c.requires c.in_ok-add.ensures c.loop-item.invariant

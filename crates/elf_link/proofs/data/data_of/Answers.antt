-- First the depth word, and then objects that are small.
use Rattle.std.specs.Prelude.{flat_map}
use Rattle.std.proofs.Common.{arith, ap, ◌++◌, map, List, ℕ}
use Rattle.ia32_insn.specs.Items.{object_bytes}
use Rattle.elf_link.specs.Parts.{object_of}
use Rattle.elf_link.proofs.Holding.{held_at}
use Rattle.elf_link.proofs.Placing.{depth_put}
use Rattle.elf_link.proofs.data.data_of.Goals as goal

pub loop-object-init : goal.loop-object-init
loop-object-init c =
    ap (λ (xs : List ℕ). xs ++ flat_map object_bytes (map object_of c.args.objects.now.items))
    (depth_put c.new-bytes.result.items c.resize.new.self.items _ c.new-bytes.ensures.items c.new-bytes.ensures.len
    c.in_ok-resize.ensures.items)

pub put_object-requires-clause-narrow : goal.put_object-requires-clause-narrow
put_object-requires-clause-narrow c =
    (held_at c.args.objects.now.items c.deref-object-items.result.now c.loop-object.object-index c.object-item.result
    c.requires c.deref-object-items.ensures.value (omega arith) c.object-item.is).narrow

pub put_object-requires-clause-wide : goal.put_object-requires-clause-wide
put_object-requires-clause-wide c =
    (held_at c.args.objects.now.items c.deref-object-items.result.now c.loop-object.object-index c.object-item.result
    c.requires c.deref-object-items.ensures.value (omega arith) c.object-item.is).wide

pub put_object-requires-clause-size : goal.put_object-requires-clause-size
put_object-requires-clause-size c =
    (held_at c.args.objects.now.items c.deref-object-items.result.now c.loop-object.object-index c.object-item.result
    c.requires c.deref-object-items.ensures.value (omega arith) c.object-item.is).size

-- One more element's bytes.
use Rattle.std.specs.Prelude.{FitsSigned, pos}
use Rattle.std.specs.Int.{w32}
use Rattle.std.proofs.Common.{arith, rules, get_or}
use Rattle.elf_link.proofs.Placing.{element_more}
use Rattle.elf_link.proofs.data.put_elements.Goals as goal

pub loop-element-preserved : goal.loop-element-preserved
loop-element-preserved c =
    let fits : FitsSigned w32 (get_or c.deref-element-items.result.now c.loop-element.element-index (pos 0)) =
    search rules in
    element_more c.args.object.now.width c.loop-element.element-index c.args.object.now.elements.items
    c.deref-element-items.result.now c.loop-element.bytes.items
    c.extend_from_slice.new.self.items c.to_le_bytes.result _ c.deref-element-items.ensures.value (omega arith)
    c.requires fits c.to_le_bytes.ensures
    c.in_ok-extend_from_slice.ensures.items c.loop-element.invariant

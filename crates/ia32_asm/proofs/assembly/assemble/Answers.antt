-- The next item's bytes and relocation follow, and at the end these are the section.
use Rattle.std.specs.Prelude.{FitsSigned}
use Rattle.std.specs.Int.{w32}
use Rattle.std.proofs.Common.{arith, rules, ap, take}
use Rattle.std.proofs.lemmas.List.{take_all}
use Rattle.ia32_asm.specs.Sections.{items_size}
use Rattle.ia32_asm.proofs.ItemCode.{code_step, length-code, bytes_passed}
use Rattle.ia32_asm.proofs.Sectioning.{section_done, entry_step, spelled_step, length_here, length_next}
use Rattle.ia32_asm.proofs.assembly.assemble.Goals as goal

pub overflow_cast-len : goal.overflow_cast-len
overflow_cast-len c =
    omega (
      arith,
      length_here c.args.items.now.items c.loop-item.item-index c.in_ok-labels.field-0.labels.items
          c.loop-item.bytes.items c.loop-item.relocations.items
          c.requires c.loop-item.invariant,
    )

pub distance_in-distance-requires-clause-room : goal.distance_in-distance-requires-clause-room
distance_in-distance-requires-clause-room c =
    omega (
      arith,
      length_here c.args.items.now.items c.loop-item.item-index c.in_ok-labels.field-0.labels.items
          c.loop-item.bytes.items c.loop-item.relocations.items
          c.requires c.loop-item.invariant,
    )

pub distance_in-distance-requires-clause-entry : goal.distance_in-distance-requires-clause-entry
distance_in-distance-requires-clause-entry c =
    entry_step c.args.items.now.items c.deref-item-items.result.now c.loop-item.item-index _
    c.in_ok-labels.field-0.labels.items
    c.deref-item-items.ensures.value (omega arith) c.requires c.in_ok-labels.ensures.labels

pub put_bytes-requires : goal.put_bytes-requires
put_bytes-requires c =
    spelled_step c.args.items.now.items c.deref-item-items.result.now c.loop-item.item-index _
    c.deref-item-items.ensures.value (omega arith) c.requires

pub overflow_cast-len-in-loop-item : goal.overflow_cast-len-in-loop-item
overflow_cast-len-in-loop-item c =
    let fits : FitsSigned w32 c.distance_in-distance.result = search rules in
    omega (
      arith,
      length_next c.args.items.now.items c.deref-item-items.result.now c.loop-item.item-index c.len.result _
          c.in_ok-labels.field-0.labels.items
          c.loop-item.bytes.items c.put_bytes.new.bytes.items c.loop-item.relocations.items
          c.deref-item-items.ensures.value (omega arith) c.requires
          (bytes_passed c.in_ok-labels.field-0.labels.items c.loop-item.bytes.items c.put_bytes.new.bytes.items
          c.len.result _ c.distance_in-distance.result fits c.distance_in-distance.ensures
          c.in_ok-put_bytes.ensures.bytes)
          c.loop-item.invariant,
    )

pub loop-item-preserved : goal.loop-item-preserved
loop-item-preserved c =
    let fits : FitsSigned w32 c.distance_in-distance.result = search rules in
    code_step c.in_ok-labels.field-0.labels.items c.args.items.now.items c.deref-item-items.result.now
    c.loop-item.item-index _
    c.loop-item.bytes.items c.put_bytes.new.bytes.items c.loop-item.relocations.items
    c.put_relocation.new.relocations.items c.len.result c.len-in-loop-item.result
    c.deref-item-items.ensures.value (omega arith) (omega arith) (omega arith)
    (bytes_passed c.in_ok-labels.field-0.labels.items c.loop-item.bytes.items c.put_bytes.new.bytes.items c.len.result _
    c.distance_in-distance.result fits c.distance_in-distance.ensures c.in_ok-put_bytes.ensures.bytes)
    c.in_ok-put_relocation.ensures c.in_ok-put_bytes.ensures.spelled c.loop-item.invariant

pub returns-clause-section : goal.returns-clause-section
returns-clause-section c =
    section_done c.args.function c.args.items.now.items c.loop-item.item-index _ c.in_ok-labels.field-0.labels.items
    (omega arith)
    c.in_ok-labels.ensures.labels c.in_ok-labels.ensures.points c.loop-item.invariant c.in_ok-symbols.ensures.items

pub returns-clause-size : goal.returns-clause-size
returns-clause-size c =
    let code =
    length-code c.in_ok-labels.field-0.labels.items (take c.loop-item.item-index c.args.items.now.items)
    c.loop-item.bytes.items c.loop-item.relocations.items c.loop-item.invariant in
    let all = ap items_size (take_all c.loop-item.item-index c.args.items.now.items (omega arith)) in
    omega (arith, code, all)

-- The address of one more section.
use Rattle.std.proofs.Common.{◌+◌, ℕ, arith, ap, ◌∙◌, sym, Some, drop, length}
use Rattle.std.proofs.lemmas.List.{length-map}
use Rattle.elf_link.specs.Parts.{function_of, order_of, sections_size}
use Rattle.elf_link.specs.Placed.{addresses_from}
use Rattle.elf_link.proofs.Holding.{read_at, left_at}
use Rattle.elf_link.proofs.Numbered.{filled-more, filled-all, next-of, number-at, length-put}
use Rattle.elf_link.proofs.function_addresses.functions_from.Goals as goal

pub function_of-requires : goal.function_of-requires
function_of-requires c =
    let there = read_at c.args.sections.now.items c.deref-section-items.result.now c.loop-section.section-index
    c.section-item.result c.deref-section-items.ensures.value (omega arith) c.section-item.is in
    c.requires.named c.loop-section.section-index c.section-item.result there

pub index_mut-requires : goal.index_mut-requires
index_mut-requires c =
    let there = read_at c.args.sections.now.items c.deref-section-items.result.now c.loop-section.section-index
    c.section-item.result c.deref-section-items.ensures.value (omega arith) c.section-item.is in
    let number = number-at c.args.sections.now.items c.loop-section.section-index c.section-item.result there in
    omega (
      arith,
      c.requires.order.below c.loop-section.section-index (function_of c.section-item.result) number,
      c.function_of.ensures,
      c.loop-section.invariant.many,
    )

pub loop-section-preserved : goal.loop-section-preserved
loop-section-preserved c =
    let sections = c.args.sections.now.items in
    let n : ℕ = c.loop-section.section-index in
    let there = read_at sections c.deref-section-items.result.now n c.section-item.result
    c.deref-section-items.ensures.value (omega arith) c.section-item.is in
    let left = left_at sections c.deref-section-items.result.now n c.section-item.result
    c.deref-section-items.ensures.value (omega arith) c.section-item.is in
    let number = number-at sections n c.section-item.result there in
    let next = next-of n (addresses_from c.args.start sections) c.loop-section.address
    (addresses_from (c.loop-section.address + length c.section-item.result.bytes.items) (drop (n + 1) sections))
    (c.loop-section.invariant.next ∙ ap (addresses_from c.loop-section.address) left) in
    record {
      many = length-put c.loop-section.addresses.items c.function_of.result c.loop-section.address
          ∙ c.loop-section.invariant.many;
      made = filled-more (order_of sections) (addresses_from c.args.start sections) c.loop-section.addresses.items
          (length sections) n c.function_of.result c.loop-section.address
          c.requires.order (number ∙ ap Some (sym c.function_of.ensures)) next.0
          (omega (
            arith,
            c.requires.order.below n (function_of c.section-item.result) number,
            c.function_of.ensures,
            c.loop-section.invariant.many,
          )) c.loop-section.invariant.made;
      next = next.1 ∙ ap (λ (k : ℕ). addresses_from (c.loop-section.address + k) (drop (n + 1) sections)) (omega arith);
      left = omega (arith, ap sections_size left);
    }

pub returns-clause-addresses : goal.returns-clause-addresses
returns-clause-addresses c =
    filled-all (order_of c.args.sections.now.items) (addresses_from c.args.start c.args.sections.now.items)
    c.loop-section.addresses.items c.loop-section.section-index
    (omega (arith, length-map c.args.sections.now.items function_of)) c.loop-section.invariant.made

-- The points of one more section.
use Rattle.std.specs.Prelude.{Vec}
use Rattle.std.specs.declared.alloc.Global.{Global}
use Rattle.std.proofs.Common.{◌≡◌, ◌+◌, ℕ, List, arith, ap, ◌∙◌, sym, subst, Some, drop, length, map}
use Rattle.std.specs.Prelude.{slice_set}
use Rattle.std.proofs.lemmas.List.{length-map, map-set}
use Rattle.elf_link.specs.Parts.{function_of, order_of, sections_size}
use Rattle.elf_link.specs.Laid.{points_from}
use Rattle.elf_link.proofs.Holding.{read_at, left_at}
use Rattle.elf_link.proofs.Numbered.{IsFilled, filled-more, filled-all, next-of, number-at, length-put}
use Rattle.elf_link.proofs.points.points_of.Goals as goal

pub moved-requires : goal.moved-requires
moved-requires c =
    let there = read_at c.args.sections.now.items c.deref-section-items.result.now c.loop-section.section-index
    c.section-item.result c.deref-section-items.ensures.value (omega arith) c.section-item.is in
    let left = left_at c.args.sections.now.items c.deref-section-items.result.now c.loop-section.section-index
    c.section-item.result c.deref-section-items.ensures.value (omega arith) c.section-item.is in
    λ p. omega (
      arith,
      c.requires.within c.loop-section.section-index c.section-item.result there p,
      ap sections_size left,
    )

pub function_of-requires : goal.function_of-requires
function_of-requires c =
    let there = read_at c.args.sections.now.items c.deref-section-items.result.now c.loop-section.section-index
    c.section-item.result c.deref-section-items.ensures.value (omega arith) c.section-item.is in
    c.requires.named c.loop-section.section-index c.section-item.result there

pub index_mut-requires : goal.index_mut-requires
index_mut-requires c =
    let there = read_at c.args.sections.now.items c.deref-section-items.result.now c.loop-section.section-index
    c.section-item.result c.deref-section-items.ensures.value (omega arith) c.section-item.is in
    let number = number-at c.args.sections.now.items c.loop-section.section-index c.section-item.result there in
    omega (
      arith,
      c.requires.order.below c.loop-section.section-index (function_of c.section-item.result) number,
      c.function_of.ensures,
      c.loop-section.invariant.many,
    )

pub loop-section-preserved : goal.loop-section-preserved
loop-section-preserved c =
    let sections = c.args.sections.now.items in
    let n : ℕ = c.loop-section.section-index in
    let there = read_at sections c.deref-section-items.result.now n c.section-item.result
    c.deref-section-items.ensures.value (omega arith) c.section-item.is in
    let left = left_at sections c.deref-section-items.result.now n c.section-item.result
    c.deref-section-items.ensures.value (omega arith) c.section-item.is in
    let number = number-at sections n c.section-item.result there in
    let lists : List (Vec ℕ Global) → List (List ℕ) = map (λ (v : Vec ℕ Global). v.items) in
    let mine : List ℕ = map (λ (p : ℕ). c.loop-section.address + p) c.section-item.result.points.items in
    let next = next-of n (points_from c.args.start sections) mine
    (points_from (c.loop-section.address + length c.section-item.result.bytes.items) (drop (n + 1) sections))
    (c.loop-section.invariant.next ∙ ap (points_from c.loop-section.address) left) in
    let long : length (lists c.loop-section.points.items) ≡ length sections =
    length-map c.loop-section.points.items (λ (v : Vec ℕ Global). v.items) ∙ c.loop-section.invariant.many in
    let filled = filled-more (order_of sections) (points_from c.args.start sections) (lists c.loop-section.points.items)
    (length sections) n c.function_of.result mine
    c.requires.order (number ∙ ap Some (sym c.function_of.ensures)) next.0
    (omega (arith, c.requires.order.below n (function_of c.section-item.result) number, c.function_of.ensures, long))
    c.loop-section.invariant.made in
    let same : slice_set (lists c.loop-section.points.items) c.function_of.result mine
    ≡ lists (slice_set c.loop-section.points.items c.function_of.result c.in_ok-addresses.addresses) =
    sym (map-set (λ (v : Vec ℕ Global). v.items) c.loop-section.points.items c.function_of.result
    c.in_ok-addresses.addresses ∙ ap (slice_set (lists c.loop-section.points.items) c.function_of.result)
    c.in_ok-addresses.ensures) in
    record {
      many = length-put c.loop-section.points.items c.function_of.result c.in_ok-addresses.addresses
          ∙ c.loop-section.invariant.many;
      made = subst (λ (xs : List (List ℕ)). IsFilled (order_of sections) (points_from c.args.start sections) xs (n + 1))
          same filled;
      next = next.1 ∙ ap (λ (k : ℕ). points_from (c.loop-section.address + k) (drop (n + 1) sections)) (omega arith);
      left = omega (arith, ap sections_size left);
    }

pub returns-clause-points : goal.returns-clause-points
returns-clause-points c =
    filled-all (order_of c.args.sections.now.items) (points_from c.args.start c.args.sections.now.items)
    (map (λ (v : Vec ℕ Global). v.items) c.loop-section.points.items) c.loop-section.section-index
    (omega (arith, length-map c.args.sections.now.items function_of)) c.loop-section.invariant.made

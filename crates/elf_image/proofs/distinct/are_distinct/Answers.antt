-- They are in order where the keys are.
use Rattle.std.proofs.Common.{List, rules, subst, sym}
use Rattle.std.specs.List.Sorted.{IsPermutation}
use Rattle.std.proofs.lemmas.List.Sorted.{IsNonDecreasingBy-from_sort_by_key}
use Rattle.elf_image.specs.declared.distinct.Extent.{Extent}
use Rattle.elf_image.proofs.MemoryExtents.{InOrder, sorted-apart}
use Rattle.elf_image.proofs.distinct.are_distinct.Goals as goal

pub are_distinct_in_order-requires : goal.are_distinct_in_order-requires
are_distinct_in_order-requires c =
    subst InOrder (sym c.deref.ensures.value)
    (IsNonDecreasingBy-from_sort_by_key (λ (extent : Extent). extent.address) _ c.sort_unstable_by_key.ensures.sorted
    (λ a r q k. search rules))

pub returns : goal.returns
returns c =
    sorted-apart c.args.extents.items c.deref.result.now c.are_distinct_in_order.result
    (subst (λ (xs : List Extent). IsPermutation c.args.extents.items xs) (sym c.deref.ensures.value)
    c.sort_unstable_by_key.ensures.permutation) c.are_distinct_in_order.ensures

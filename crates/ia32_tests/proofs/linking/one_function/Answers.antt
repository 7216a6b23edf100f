-- The example's items can be assembled, and its section linked.
use Rattle.std.proofs.Common.{refl, arith}
use Rattle.ia32_tests.proofs.Example.{example_can, example_link}
use Rattle.ia32_tests.proofs.linking.one_function.Goals as goal

pub assemble-requires : goal.assemble-requires
assemble-requires g c = example_can c.in_ok-items.items.items c.in_ok-items.ensures.items

pub link-requires : goal.link-requires
link-requires g c =
    example_link c.in_ok-items.items.items c.in_ok-section.section c.in_ok-sections.sections.items
    (record { width = 1; elements = c.in_ok-elements.elements }) c.in_ok-objects.objects.items
    c.in_ok-items.ensures.items c.in_ok-section.ensures.section (omega (arith, c.in_ok-section.ensures.size))
    c.in_ok-sections.ensures.items c.in_ok-objects.ensures.items refl
    c.in_ok-elements.ensures.items

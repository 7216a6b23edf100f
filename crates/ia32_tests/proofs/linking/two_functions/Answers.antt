-- The items of both functions can be assembled, and their sections linked.
use Rattle.std.proofs.Common.{refl, arith}
use Rattle.ia32_tests.proofs.Example.{example_can, other_can, two_link}
use Rattle.ia32_tests.proofs.linking.two_functions.Goals as goal

pub assemble-requires : goal.assemble-requires
assemble-requires g c = example_can c.in_ok-items.items.items c.in_ok-items.ensures.items

pub assemble-requires-2 : goal.assemble-requires-2
assemble-requires-2 g c = other_can c.in_ok-others.others.items c.in_ok-others.ensures.items

pub link-requires : goal.link-requires
link-requires g c =
    two_link c.in_ok-items.items.items c.in_ok-others.others.items c.in_ok-section.section c.in_ok-other.other
    c.in_ok-sections.sections.items c.new-objects.result.items
    c.in_ok-items.ensures.items c.in_ok-others.ensures.items c.in_ok-section.ensures.section
    c.in_ok-other.ensures.section (omega (arith, c.in_ok-section.ensures.size))
    (omega (arith, c.in_ok-other.ensures.size)) c.in_ok-sections.ensures.items c.new-objects.ensures.items

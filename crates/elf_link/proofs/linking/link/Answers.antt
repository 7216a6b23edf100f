-- The image is that of the functions.
use Rattle.std.proofs.Common.{refl, map, ◌∙◌}
use Rattle.elf_link.specs.Parts.{object_of}
use Rattle.elf_link.proofs.Finishing.{linked_is, each_fits, length-linked}
use Rattle.elf_link.proofs.LaidOut.{laid_out}
use Rattle.elf_link.proofs.linking.link.Goals as goal

pub text_of-requires-clause-each : goal.text_of-requires-clause-each
text_of-requires-clause-each c =
    each_fits c.args.sections.now.items (map object_of c.args.objects.now.items) c.args.main c.in_ok-addresses.addresses
    c.requires c.in_ok-addresses.ensures

pub points_of-requires-clause-within : goal.points_of-requires-clause-within
points_of-requires-clause-within c = λ k s e. (c.requires.each k s e).points

pub addresses_of-requires-clause-named : goal.addresses_of-requires-clause-named
addresses_of-requires-clause-named c = λ i s e. (c.requires.each i s e).named

pub points_of-requires-clause-named : goal.points_of-requires-clause-named
points_of-requires-clause-named c = λ i s e. (c.requires.each i s e).named

pub returns-clause-layout : goal.returns-clause-layout
returns-clause-layout c =
    laid_out c.args.sections.now.items (map object_of c.args.objects.now.items) c.args.main c.in_ok-addresses.addresses
    _ c.requires c.in_ok-addresses.ensures
    c.in_ok-text.ensures c.in_ok-data_bytes.ensures refl c.in_ok-points.ensures.many c.in_ok-points.ensures.points refl

pub returns-clause-program : goal.returns-clause-program
returns-clause-program c = λ functions are.
    linked_is c.args.sections.now.items (map object_of c.args.objects.now.items) c.args.main c.in_ok-addresses.addresses
    _ c.requires c.in_ok-addresses.ensures
    c.in_ok-text.ensures c.in_ok-data_bytes.ensures refl c.in_ok-points.ensures.many c.in_ok-points.ensures.points refl
    functions are

pub returns-clause-size : goal.returns-clause-size
returns-clause-size c =
    c.in_ok-text.text.ok.0 ∙ length-linked c.args.sections.now.items c.args.main c.in_ok-addresses.addresses _
    c.requires.each c.in_ok-text.ensures

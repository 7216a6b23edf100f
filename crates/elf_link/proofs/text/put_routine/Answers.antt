-- The section of the routine.
use Rattle.std.proofs.Common.{arith}
use Rattle.std.proofs.lemmas.Result.{on_ok_weaker}
use Rattle.elf_link.proofs.Placing.{fits_routine, routine_put}
use Rattle.elf_link.proofs.text.put_routine.Goals as goal

pub put_section-requires-clause-fits : goal.put_section-requires-clause-fits
put_section-requires-clause-fits c = fits_routine c.args.addresses.now 0 c.args.items.now.items c.in_ok-section.section
    c.in_ok-section.ensures.section c.requires.named

pub returns : goal.returns
returns c =
    on_ok_weaker c.put_section.result
    (λ e. routine_put c.args.addresses.now 0 c.args.address c.args.items.now.items c.in_ok-section.section
    c.args.text.now.items c.put_section.new.text.items
    c.in_ok-section.ensures.section c.requires.named (omega (arith, c.in_ok-section.ensures.size)) c.requires.room e)
    c.put_section.ensures

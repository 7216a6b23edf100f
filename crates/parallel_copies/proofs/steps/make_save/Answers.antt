use Rattle.std.proofs.Common.{◌≡◌, map, ap, ◌∙◌}
use Rattle.ia32_emit.specs.Locations.{distance}
use Rattle.parallel_copies.specs.Steps.{redirected}
use Rattle.parallel_copies.proofs.Doing.{save-done}
use Rattle.parallel_copies.proofs.steps.make_save.Goals as goal

pub returns : goal.returns
returns c =
    save-done (distance c.args.word) c.args.waiting.now.items c.redirect.new.waiting c.args.i c.move_at-m.result
    c.args.scratch c.args.out.now.items c.push.new.self.items c.copy_insn.result c.requires.waiting c.requires.next
    (rw c.as_slice.ensures.value at c.move_at-m.ensures)
    (c.redirect.ensures ∙ ap (map (redirected c.move_at-m.result.from c.args.scratch)) c.as_mut_slice.ensures.value)
    c.copy_insn.ensures c.push.ensures.items

use Rattle.std.proofs.Common.{◌≡◌, map, ap, ◌∙◌}
use Rattle.parallel_copies.specs.Steps.{redirected}
use Rattle.ia32_emit.specs.Locations.{distance}
use Rattle.parallel_copies.proofs.Doing.{swap-done}
use Rattle.parallel_copies.proofs.steps.make_swap.Goals as goal

pub returns : goal.returns
returns c =
    swap-done (distance c.args.word) c.args.waiting.now.items c.remove-m.new.self.items c.redirect.new.waiting c.args.i
    c.remove-m.result c.args.out.now.items c.push.new.self.items c.swap_insn.result c.requires.waiting c.requires.next
    c.remove-m.ensures.value c.remove-m.ensures.items
    (c.redirect.ensures
    ∙ ap (map (redirected c.remove-m.result.to c.remove-m.result.from)) c.as_mut_slice.ensures.value) c.swap_insn.ensures c.push.ensures.items

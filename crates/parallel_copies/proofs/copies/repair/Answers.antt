use Rattle.std.proofs.Common.{◌≡◌, rules, w32, sym, ◌∙◌}
use Rattle.std.proofs.lemmas.Int.{to_z-of_z}
use Rattle.ia32_emit.specs.Locations.{distance}
use Rattle.parallel_copies.proofs.Starting.{busy-few, making-first, making-more, making-last}
use Rattle.parallel_copies.proofs.copies.repair.Goals as goal

pub busy_moves-waiting-requires : goal.busy_moves-waiting-requires
busy_moves-waiting-requires c = (busy-few (distance c.args.word) c.args.moves.now c.requires).0

pub loop-step-init : goal.loop-step-init
loop-step-init c =
    rw (to_z-of_z w32 c.args.word (search rules))
    (making-first (distance c.args.word) c.args.moves.now c.busy_moves-waiting.result.items c.new-out.result.items
    c.requires c.busy_moves-waiting.ensures c.new-out.ensures)

pub loop-step-preserved : goal.loop-step-preserved
loop-step-preserved c =
    making-more _ c.args.moves.now c.loop-step.waiting.items c.advance.new.waiting.items c.loop-step.out.items
    c.advance.new.out.items c.loop-step.invariant c.advance.ensures

pub returns-clause-copies : goal.returns-clause-copies
returns-clause-copies c =
    making-last (distance c.args.word) c.args.moves.now c.loop-step.waiting.items c.loop-step.out.items
    (rw (to_z-of_z w32 c.args.word (search rules)) at c.loop-step.invariant)
    (sym c.as_slice.ensures.value ∙ c.in_default.ensures)

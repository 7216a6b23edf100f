use Rattle.std.proofs.Common.{◌≡◌, rules, w32, sym, ◌∙◌}
use Rattle.std.proofs.lemmas.Int.{to_z-of_z}
use Rattle.ia32_emit.specs.Locations.{distance}
use Rattle.parallel_copies.specs.Steps.{is_exchangeable, is_free, is_savable}
use Rattle.parallel_copies.proofs.Lists.{found-at}
use Rattle.parallel_copies.proofs.Doing.{nothing-free, nothing-savable}
use Rattle.parallel_copies.proofs.choice.next_step.Goals as goal

pub returns-in-Some : goal.returns-in-Some
returns-in-Some c =
    found-at (λ m. is_free m c.args.waiting.now) c.args.waiting.now c.in-Some.i
    (sym c.free_move.ensures ∙ c.in-Some.is)

pub returns-in-Some-exchangeable_move : goal.returns-in-Some-exchangeable_move
returns-in-Some-exchangeable_move c =
    found-at (λ m. is_exchangeable m c.args.waiting.now) c.args.waiting.now c.in-Some-exchangeable_move.i
    (sym c.exchangeable_move.ensures ∙ c.in-Some-exchangeable_move.is)

pub returns-in-Some-Some : goal.returns-in-Some-Some
returns-in-Some-Some c =
    let found = found-at is_savable c.args.waiting.now c.in-Some-Some.i (sym c.savable_move.ensures ∙ c.in-Some-Some.is-0) in
    let scratch = rw (to_z-of_z w32 c.args.word (search rules)) at c.in-Some-Some.ensures' in
    (found.0, found.1, found.2, scratch.0, scratch.1)

pub returns-in_default-2 : goal.returns-in_default-2
returns-in_default-2 c =
    nothing-free (distance c.args.word) c.args.waiting.now c.in_default-2.field-0-0 c.requires
    (sym c.free_move.ensures ∙ c.in_default.is) (sym c.exchangeable_move.ensures ∙ c.in_default-exchangeable_move.is)
    (sym c.savable_move.ensures ∙ c.in_default-2.is-0) (rw (to_z-of_z w32 c.args.word (search rules)) at c.in_default-2.ensures')

pub returns-in_default-2-2 : goal.returns-in_default-2-2
returns-in_default-2-2 c =
    nothing-savable (distance c.args.word) c.args.waiting.now c.requires
    (sym c.free_move.ensures ∙ c.in_default.is) (sym c.exchangeable_move.ensures ∙ c.in_default-exchangeable_move.is)
    (sym c.savable_move.ensures ∙ c.in_default-2.is-0)

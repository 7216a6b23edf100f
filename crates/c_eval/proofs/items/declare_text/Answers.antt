use Rattle.std.proofs.Common.{rules, ◌≡◌, ◌∙◌, ap}
use Rattle.c_eval_state.specs.Kept.{over}
use Rattle.c_tree.specs.Store.{Gives, visited}
use Rattle.c_eval_laws.specs.Steps.{Configuration, go_on}
use Rattle.c_eval_state.specs.Left.{left_of}
use Rattle.c_eval.proofs.Declaring.{text_declared}
use Rattle.c_eval.proofs.items.declare_text.Goals as goal

pub returns : goal.returns
returns c = λ l s n element.
    let old = left_of c.args.left.now in
    let seen = visited l n (over s c.args.store.now) in
    let u = over seen c.set_text.new.self in
    let left : go_on old.function old.tasks old.values old.places ≡ old = search rules in
    text_declared l n c.args.array c.args.object element old (over s c.args.store.now)
    (over seen c.declare_array.new.self) u (c.declare_array.ensures seen) (c.set_text.ensures seen)
    ∙ ap (λ (d : Configuration). Gives d u) left

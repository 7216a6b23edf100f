use Rattle.std.proofs.Common.{rules, ◌≡◌, ◌∙◌, ◌∷◌, ap, map}
use Rattle.c_eval_state.specs.Kept.{over}
use Rattle.c_tree.specs.Erased.{expression_of}
use Rattle.c_tree.specs.Store.{Gives, visited}
use Rattle.c_eval_laws.specs.Steps.{Configuration, go_on}
use Rattle.c_eval_laws.specs.Tasks.{Fills}
use Rattle.c_eval_state.specs.Left.{left_of}
use Rattle.c_eval.proofs.Declaring.{array_declared}
use Rattle.c_eval.proofs.items.declare_list.Goals as goal

pub returns : goal.returns
returns c = λ l s n.
    let old = left_of c.args.left.now in
    let es = map expression_of c.args.first.now in
    let t = over (visited l n (over s c.args.store.now)) c.declare_array.new.self in
    let left : go_on old.function (Fills c.args.array c.args.element 0 es ∷ old.tasks) old.values old.places
    ≡ left_of c.next.new.self = search rules in
    array_declared l n c.args.array c.args.element es old (over s c.args.store.now) t
    (c.declare_array.ensures (visited l n (over s c.args.store.now))) ∙ ap (λ (d : Configuration). Gives d t) left

use Rattle.std.proofs.Common.{rules, ◌≡◌, ◌∙◌, ap, option_map}
use Rattle.c_eval_state.specs.Kept.{over}
use Rattle.c_tree.specs.Erased.{boxed_of}
use Rattle.c_tree.specs.Store.{Gives, visited, with_local, zero_of}
use Rattle.c_tree.specs.Evaluation.{type_at}
use Rattle.c_eval_laws.specs.Steps.{Configuration, first_value, go_on}
use Rattle.c_eval_state.specs.Left.{left_of}
use Rattle.c_eval.proofs.DeclaringLocals.{local_declared}
use Rattle.c_eval.proofs.locals.declare_local.Goals as goal

pub returns : goal.returns
returns c = λ l s n.
    let old = left_of c.args.left.now in
    let given = option_map boxed_of c.args.value.now in
    let t = over (visited l n (over s c.args.store.now)) c.declare_local.new.self in
    let of = type_at old.function c.args.local in
    let left : go_on old.function (first_value c.args.local of given old.tasks) old.values old.places
    ≡ left_of c.start_value.new.left = search rules in
    let set : t ≡ with_local c.args.local (zero_of of) (visited l n (over s c.args.store.now)) =
    rw (← c.type_of_local-of.ensures) (c.declare_local.ensures (visited l n (over s c.args.store.now))) in
    local_declared l n c.args.local given old (over s c.args.store.now) t set
    ∙ ap (λ (d : Configuration). Gives d t) left

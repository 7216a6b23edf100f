use Rattle.std.proofs.Common.{rules, ◌≡◌, ◌∙◌, ap}
use Rattle.c_eval_state.specs.Kept.{over}
use Rattle.c_tree.specs.Erased.{function_of}
use Rattle.c_tree.specs.Store.{Gives}
use Rattle.c_eval_laws.specs.Steps.{Configuration, go_on}
use Rattle.c_eval_state.specs.Left.{left_of}
use Rattle.c_eval.specs.Passing.{values_returned}
use Rattle.c_eval.proofs.Passed.{return_passed}
use Rattle.c_eval.proofs.passing.pass_return.Goals as goal

pub returns : goal.returns
returns c = λ s.
    let old = left_of c.args.left.now in
    let caller = function_of c.args.caller.now in
    let state = over s c.args.store.now in
    let on = go_on caller old.tasks (values_returned old.way old.values) old.places in
    let left : on ≡ left_of c.return_to.new.self = search rules in
    return_passed old.way old.function caller old.tasks old.values old.places state
    ∙ rw (← c.leave.ensures s) (ap (λ (d : Configuration). Gives d (over s c.leave.new.self)) left)

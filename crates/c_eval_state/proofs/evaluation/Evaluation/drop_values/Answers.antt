use Rattle.std.proofs.Common.{rules, ◌≡◌, ◌∙◌, ◌-◌, List, ap, length, take}
use Rattle.c_eval_state.specs.Values.{held_of}
use Rattle.c_eval_state.specs.declared.value.Value.{Value}
use Rattle.c_tree.specs.Store.{Held}
use Rattle.c_eval_laws.specs.Steps.{Configuration}
use Rattle.c_eval_laws.specs.Tasks.{below_by}
use Rattle.c_eval_state.specs.Left.{left_of}
use Rattle.c_eval_state.specs.Views.{stack_of}
use Rattle.c_eval_state.proofs.Stacking.{values_below}
use Rattle.c_eval_state.proofs.evaluation.Evaluation.drop_values.Goals as goal

pub returns : goal.returns
unfolding left_of
returns c =
    let items : List Value = c.args.self.now.values.items in
    let cut : c.truncate.new.self.items ≡ take (length items - c.args.count) items = search rules in
    let path : stack_of held_of c.truncate.new.self.items ≡ below_by c.args.count (stack_of held_of items) =
    ap (λ (vs : List Value). stack_of held_of vs) cut
    ∙ values_below items c.args.count c.arguments_are_last.ensures c.requires in
    let old : Configuration = left_of c.args.self.now in
    ap (λ (vs : List Held). record old { values = vs }) path

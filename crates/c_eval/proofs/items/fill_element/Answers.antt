use Rattle.std.proofs.Common.{◌≡◌, ◌≤◌, ◌∙◌, ℕ, List, length, suc, ap, subst}
use Rattle.std.specs.Prelude.{ℤ}
use Rattle.pcc_base.specs.Outcome.{ArrayName}
use Rattle.c_eval_state.specs.Kept.{over}
use Rattle.c_tree.specs.Evaluation.{own_array}
use Rattle.c_tree.specs.Store.{State, array_named}
use Rattle.c_eval_state.specs.Left.{left_of}
use Rattle.c_eval_state.specs.Views.{elements_from}
use Rattle.c_eval.proofs.Filling.{filled_past}
use Rattle.c_eval.proofs.items.fill_element.Goals as goal

-- src/items.rt:185:9
pub returns-then-place-elements : goal.returns-then-place-elements
returns-then-place-elements c = λ p l s.
    let k : ℕ = c.args.array in
    let t : State = over s c.args.store.now in
    let same : c.elements.result.now ≡ array_named t (own_array t k) = c.elements.ensures s
    ∙ ap (λ (depth : ℕ). array_named t (ArrayName.InFrame k depth)) c.depth.ensures in
    filled_past p l k c.args.place c.args.element (elements_from (suc c.args.place) c.args.elements.now)
    (left_of c.args.left.now) t (subst (λ (xs : List ℤ). length xs ≤ c.args.place) same c.if-place-elements.true)

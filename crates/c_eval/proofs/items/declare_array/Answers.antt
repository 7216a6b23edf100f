use Rattle.std.proofs.lemmas.Result.{IfOk-weaker}
use Rattle.c_eval.proofs.items.declare_array.Goals as goal

pub returns-in-List : goal.returns-in-List
returns-in-List c = rw c.in-List.is (IfOk-weaker c.declare_list.result _ _
    (λ x h l s n. (rw c.as_slice.ensures.value at (h l s n))) c.declare_list.ensures)

pub returns-in-Text : goal.returns-in-Text
returns-in-Text c = rw c.in-Text.is (λ l s n. c.declare_text.ensures l s n c.args.element)

use Rattle.std.proofs.lemmas.Result.{IfOk-weaker}
use Rattle.c_eval.proofs.items.declare.Goals as goal

pub returns-in-Scalar : goal.returns-in-Scalar
returns-in-Scalar c = rw c.in-Scalar.is (IfOk-weaker c.declare_local.result _ _
    (λ x h l s. h l s c.in-Scalar.field-0) c.declare_local.ensures)

pub returns-in-Array : goal.returns-in-Array
returns-in-Array c = rw c.in-Array.is (IfOk-weaker c.declare_array.result _ _
    (λ x h l s. h l s c.in-Array.field-0) c.declare_array.ensures)

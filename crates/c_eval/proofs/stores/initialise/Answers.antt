use Rattle.std.proofs.Common.{rules}
use Rattle.c_eval.proofs.stores.initialise.Goals as goal

-- src/stores.rt:146:1
pub returns : goal.returns
returns c = λ p l s. rw (← c.take_value.ensures.value) (rw (← c.in_type-value.ensures)
    (rw (← c.set_local.ensures s) (search rules)))

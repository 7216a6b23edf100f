use Rattle.std.proofs.Common.{arith}
use Rattle.std.proofs.lemmas.Grind.{common_steps, elements}
use Rattle.c_eval_state.proofs.store.Store.local.Goals as goal

pub value_at-requires : goal.value_at-requires
value_at-requires c = grind (arith, common_steps)

pub returns : goal.returns
returns c = grind (arith, elements)

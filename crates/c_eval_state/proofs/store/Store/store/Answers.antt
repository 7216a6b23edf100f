use Rattle.std.proofs.Common.{sym, ap}
use Rattle.c_eval_state.specs.Values.{held_of}
use Rattle.c_tree.specs.Store.{Gives}
use Rattle.c_eval_state.proofs.store.Store.store.Goals as goal

pub returns-in-Local : goal.returns-in-Local
returns-in-Local c = λ s. rw c.in-Local.is (ap (Gives (held_of c.args.value)) (sym (c.set_local.ensures s)))

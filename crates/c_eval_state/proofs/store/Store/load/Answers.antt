use Rattle.std.proofs.Common.{sym, ap}
use Rattle.c_eval_state.specs.Kept.{over}
use Rattle.c_tree.specs.Store.{Gives}
use Rattle.c_eval_state.proofs.store.Store.load.Goals as goal

pub returns-in-Local : goal.returns-in-Local
returns-in-Local c = λ s. rw c.in-Local.is (ap (λ v. Gives v (over s c.args.self.now)) (sym (c.local.ensures s)))

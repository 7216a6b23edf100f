use Rattle.c_eval_state.proofs.store.Store.declare_local.Goals as goal

pub returns : goal.returns
returns c = λ s. rw (← c.zero_of.ensures) (c.set_local.ensures s)

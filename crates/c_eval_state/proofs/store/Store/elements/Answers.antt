use Rattle.c_eval_state.proofs.store.Store.elements.Goals as goal

pub returns-in-InFrame : goal.returns-in-InFrame
returns-in-InFrame c = λ s. rw c.in-InFrame.is (c.frame_elements.ensures s)

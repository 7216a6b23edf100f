use Rattle.c_eval.proofs.calls.enter_with.Goals as goal

pub returns : goal.returns
returns c = λ s. rw (← c.last_values-arguments.ensures) (c.in_ok-enter.ensures s)

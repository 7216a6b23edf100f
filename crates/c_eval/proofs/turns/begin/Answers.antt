use Rattle.std.proofs.Common.{sym, ◌∙◌}
use Rattle.c_tree.specs.Erased.{function_of}
use Rattle.c_eval_state.specs.Left.{left_of}
use Rattle.c_eval.proofs.Calling.{call_begun}
use Rattle.c_eval.proofs.turns.begin.Goals as goal

pub returns-in_ok-call-in-Call : goal.returns-in_ok-call-in-Call
returns-in_ok-call-in-Call c = rw c.in-Call.is (λ p task turn. call_begun p c.args.rest turn.0 c.in-Call.count
    (function_of c.in-Call.function.now) task (left_of c.args.left.now) (left_of c.call.new.left) c.args.store.now
    c.call.new.store turn.1 turn.2 (sym c.is_full.ensures ∙ c.if-is_full.false) c.if-rest-eq0.false
    c.in_ok-call-in-Call.ensures.left c.in_ok-call-in-Call.ensures.store)

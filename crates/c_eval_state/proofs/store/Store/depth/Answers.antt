use Rattle.std.proofs.Common.{◌≡◌, ◌∙◌, length, sym, rules}
use Rattle.c_eval_state.proofs.Active.{active-length}
use Rattle.c_eval_state.proofs.store.Store.depth.Goals as goal

pub returns : goal.returns
returns c =
    let calls = c.self.inside.calls.items in
    let count : c.len.result ≡ length calls = search rules in
    rw (← c.self.view_is) (count ∙ sym (active-length calls (length calls) _ _))

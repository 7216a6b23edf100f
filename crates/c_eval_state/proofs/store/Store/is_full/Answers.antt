use Rattle.std.proofs.Common.{◌≡◌, ◌∙◌, length, sym, ap, rules}
use Rattle.std.specs.Prelude.{nat_le}
use Rattle.c_eval_state.proofs.Active.{active-length}
use Rattle.c_eval_state.proofs.store.Store.is_full.Goals as goal

pub returns : goal.returns
returns c =
    let calls = c.self.inside.calls.items in
    let count : c.len.result ≡ length calls = search rules in
    rw (← c.self.view_is) (ap (nat_le 4096) (count ∙ sym (active-length calls (length calls) _ _)))

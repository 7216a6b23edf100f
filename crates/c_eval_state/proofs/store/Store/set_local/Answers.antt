use Rattle.std.proofs.Common.{◌≡◌, ◌∙◌, ◌+◌, ◌-◌, length, map, suc, ap, rules, arith}
use Rattle.c_eval_state.specs.Values.{held_of}
use Rattle.std.specs.Prelude.{slice_set}
use Rattle.std.specs.Vec.{with_items}
use Rattle.std.proofs.lemmas.List.{with_items_is}
use Rattle.c_eval_state.proofs.Seen.{active-changed, call-read, local-kept}
use Rattle.c_eval_state.proofs.store.Store.set_local.Goals as goal

pub returns-then-depth-gt0 : goal.returns-then-depth-gt0
returns-then-depth-gt0 c =
    let i = c.self.inside in
    let n = c.len-depth.result - 1 in
    let at = c.index-call.result.now.locals in
    let count : c.len-depth.result ≡ length i.calls.items = search rules in
    let long : length i.calls.items ≡ suc n = omega (arith, count, c.if-depth-gt0.true) in
    let call = call-read i.calls.items n c.index-call.result.now long c.index-call.ensures in
    let is : (with_items i.locals c.set_value_at.new.values).items ≡ c.set_value_at.new.values =
    search (rules, with_items_is) in
    let are : map held_of (with_items i.locals c.set_value_at.new.values).items
    ≡ slice_set (map held_of i.locals.items) (at + c.args.local) (held_of c.args.value) =
    ap (map held_of) is ∙ (rw c.deref_mut.ensures.value at c.set_value_at.ensures) in
    λ s. rw (← c.self.view_is) (active-changed s i.objects _ _
    (local-kept i.calls.items n at c.args.local (map held_of i.locals.items) _ i.arrays (held_of c.args.value) long
    (ap (λ x. x.locals) call) are))

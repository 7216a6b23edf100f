use Rattle.std.proofs.Common.{◌≡◌, ◌-◌, length, suc, rules, arith}
use Rattle.c_eval_state.proofs.Seen.{active-changed, call-read, left-kept, left-active}
use Rattle.c_eval_state.proofs.store.Store.leave.Goals as goal

pub invariant_of-self : goal.invariant_of-self
invariant_of-self c =
    let i = c.self.inside in
    let n = c.len-depth.result - 1 in
    let count : c.len-depth.result ≡ length i.calls.items = search rules in
    let long : length i.calls.items ≡ suc n = omega (arith, count, c.if-depth-gt0.true) in
    let call = call-read i.calls.items n c.index-call.result.now long c.index-call.ensures in
    left-kept i.calls.items c.truncate.new.self.items n c.index-call.result.now i.locals.items
    c.truncate-then-depth-gt0.new.self.items i.arrays c.truncate-then-depth-gt0-2.new.self long call c.self.invariant
    c.truncate.ensures.items c.truncate-then-depth-gt0.ensures.items c.truncate-then-depth-gt0-2.ensures

pub returns-then-depth-gt0 : goal.returns-then-depth-gt0
returns-then-depth-gt0 c =
    let i = c.self.inside in
    let n = c.len-depth.result - 1 in
    let count : c.len-depth.result ≡ length i.calls.items = search rules in
    let long : length i.calls.items ≡ suc n = omega (arith, count, c.if-depth-gt0.true) in
    let call = call-read i.calls.items n c.index-call.result.now long c.index-call.ensures in
    λ s. rw (← c.self.view_is) (active-changed s i.objects _ _
    (left-active i.calls.items c.truncate.new.self.items n c.index-call.result.now i.locals.items
    c.truncate-then-depth-gt0.new.self.items i.arrays c.truncate-then-depth-gt0-2.new.self long call
    c.truncate.ensures.items c.truncate-then-depth-gt0.ensures.items c.truncate-then-depth-gt0-2.ensures))

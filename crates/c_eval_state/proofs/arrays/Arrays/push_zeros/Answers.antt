use Rattle.std.proofs.Common.{◌≡◌, ◌+◌, ◌++◌, length, replicate, pos, rules}
use Rattle.std.proofs.lemmas.List.{length-replicate}
use Rattle.c_eval_state.proofs.Spanned.{push-seen, grown}
use Rattle.c_eval_state.proofs.arrays.Arrays.push_zeros.Goals as goal

pub invariant_of-self-in-Ok : goal.invariant_of-self-in-Ok
invariant_of-self-in-Ok c =
    let xs = c.self.inside.elements.items in
    let far : c.in_ok-end.end ≡ length xs + c.args.count = search rules in
    let is : c.resize.new.self.items ≡ xs ++ replicate c.args.count (pos 0) =
    grown xs c.resize.new.self.items c.in_ok-end.end c.args.count far (search rules) in
    (push-seen xs c.resize.new.self.items (replicate c.args.count (pos 0)) c.self.inside.spans.items
    c.push.new.self.items c.args.self.now c.self.view_is c.self.invariant is
    (rw (length-replicate c.args.count (pos 0)) (search (rules, c.in_ok-push.ensures.items)))).0

pub returns-in-Ok : goal.returns-in-Ok
returns-in-Ok c =
    let xs = c.self.inside.elements.items in
    let far : c.in_ok-end.end ≡ length xs + c.args.count = search rules in
    let is : c.resize.new.self.items ≡ xs ++ replicate c.args.count (pos 0) =
    grown xs c.resize.new.self.items c.in_ok-end.end c.args.count far (search rules) in
    (push-seen xs c.resize.new.self.items (replicate c.args.count (pos 0)) c.self.inside.spans.items
    c.push.new.self.items c.args.self.now c.self.view_is c.self.invariant is
    (rw (length-replicate c.args.count (pos 0)) (search (rules, c.in_ok-push.ensures.items)))).1

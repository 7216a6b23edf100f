use Rattle.std.proofs.Common.{rules}
use Rattle.c_eval_state.proofs.Spanned.{push-seen}
use Rattle.c_eval_state.proofs.arrays.Arrays.push.Goals as goal

pub invariant_of-self-in-Ok : goal.invariant_of-self-in-Ok
invariant_of-self-in-Ok c =
    (push-seen c.self.inside.elements.items c.extend_from_slice.new.self.items c.args.elements.now
    c.self.inside.spans.items c.push.new.self.items c.args.self.now c.self.view_is c.self.invariant
    c.in-Ok.ensures.items (search (rules, c.in_ok-push.ensures.items))).0

pub returns-in-Ok : goal.returns-in-Ok
returns-in-Ok c =
    (push-seen c.self.inside.elements.items c.extend_from_slice.new.self.items c.args.elements.now
    c.self.inside.spans.items c.push.new.self.items c.args.self.now c.self.view_is c.self.invariant
    c.in-Ok.ensures.items (search (rules, c.in_ok-push.ensures.items))).1

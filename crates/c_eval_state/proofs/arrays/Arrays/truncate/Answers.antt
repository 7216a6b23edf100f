use Rattle.std.proofs.Common.{◌<◌, length, rules}
use Rattle.c_eval_state.proofs.Spanned.{truncate-seen}
use Rattle.c_eval_state.proofs.arrays.Arrays.truncate.Goals as goal

pub invariant_of-self : goal.invariant_of-self
invariant_of-self c =
    let spans = c.self.inside.spans.items in
    let less : c.args.count < length spans = search (rules, c.if-count-len.true) in
    (truncate-seen c.self.inside.elements.items c.truncate.new.self.items spans c.truncate-then-count-len.new.self.items
    c.args.self.now c.args.count c.index.result.now c.self.view_is c.self.invariant less c.index.ensures
    c.truncate.ensures.items c.truncate-then-count-len.ensures.items).0

pub returns-then-count-len : goal.returns-then-count-len
returns-then-count-len c =
    let spans = c.self.inside.spans.items in
    let less : c.args.count < length spans = search (rules, c.if-count-len.true) in
    (truncate-seen c.self.inside.elements.items c.truncate.new.self.items spans c.truncate-then-count-len.new.self.items
    c.args.self.now c.args.count c.index.result.now c.self.view_is c.self.invariant less c.index.ensures
    c.truncate.ensures.items c.truncate-then-count-len.ensures.items).1

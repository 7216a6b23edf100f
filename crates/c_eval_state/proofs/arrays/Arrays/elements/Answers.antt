use Rattle.std.proofs.Common.{◌<◌, length, rules}
use Rattle.c_eval_state.proofs.Spanned.{read-within}
use Rattle.c_eval_state.proofs.arrays.Arrays.elements.Goals as goal

pub piece-requires : goal.piece-requires
piece-requires c =
    let spans = c.self.inside.spans.items in
    let xs = c.self.inside.elements.items in
    let less : c.args.array < length spans = search (rules, c.if-array-len.false) in
    rw c.deref.ensures.value
    (read-within xs spans c.args.array c.index.result.now c.self.invariant less c.index.ensures)

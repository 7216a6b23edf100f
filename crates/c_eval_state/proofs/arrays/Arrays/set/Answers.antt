use Rattle.std.proofs.Common.{◌≡◌, ◌<◌, ◌+◌, length, rules}
use Rattle.std.specs.Vec.{with_items}
use Rattle.std.proofs.lemmas.List.{with_items_is}
use Rattle.std.specs.Prelude.{slice_set}
use Rattle.c_eval_state.proofs.Spanned.{read-within, set-seen}
use Rattle.c_eval_state.proofs.arrays.Arrays.set.Goals as goal

pub set_piece-requires-clause-within : goal.set_piece-requires-clause-within
set_piece-requires-clause-within c =
    let spans = c.self.inside.spans.items in
    let xs = c.self.inside.elements.items in
    let less : c.args.array < length spans = search (rules, c.if-array-len.false) in
    rw c.deref_mut.ensures.value
    (read-within xs spans c.args.array c.index-span.result.now c.self.invariant less c.index-span.ensures)

pub returns : goal.returns
returns c =
    let spans = c.self.inside.spans.items in
    let xs = c.self.inside.elements.items in
    let s = c.index-span.result.now in
    let less : c.args.array < length spans = search (rules, c.if-array-len.false) in
    let is : (with_items c.self.inside.elements c.set_piece.new.elements).items
    ≡ slice_set xs (s.start + c.args.index) c.args.value = search (rules, with_items_is) in
    set-seen xs _ spans c.args.self.now c.args.array c.args.index c.args.value s c.self.view_is c.self.invariant less
    c.index-span.ensures c.if-index-span.false is

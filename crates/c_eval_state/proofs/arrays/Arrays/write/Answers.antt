use Rattle.std.proofs.Common.{◌≡◌, ◌<◌, length, rules}
use Rattle.std.specs.Vec.{with_items}
use Rattle.std.proofs.lemmas.List.{with_items_is}
use Rattle.c_eval_state.proofs.Spanned.{read-within, write-seen}
use Rattle.c_eval_state.proofs.arrays.Arrays.write.Goals as goal

pub write_piece-requires : goal.write_piece-requires
write_piece-requires c =
    let spans = c.self.inside.spans.items in
    let xs = c.self.inside.elements.items in
    let less : c.args.array < length spans = search (rules, c.if-array-len.true) in
    rw c.deref_mut.ensures.value
    (read-within xs spans c.args.array c.index-span.result.now c.self.invariant less c.index-span.ensures)

pub returns-then-array-len : goal.returns-then-array-len
returns-then-array-len c =
    let spans = c.self.inside.spans.items in
    let xs = c.self.inside.elements.items in
    let s = c.index-span.result.now in
    let less : c.args.array < length spans = search (rules, c.if-array-len.true) in
    let is : (with_items c.self.inside.elements c.write_piece.new.elements).items ≡ c.write_piece.new.elements =
    search (rules, with_items_is) in
    rw is (write-seen xs c.write_piece.new.elements spans c.args.self.now c.args.array c.args.text.now s c.self.view_is
    c.self.invariant less c.index-span.ensures
    (rw c.deref_mut.ensures.value at c.write_piece.ensures.before)
    (rw c.deref_mut.ensures.value at c.write_piece.ensures.behind)
    (rw c.deref_mut.ensures.value at c.write_piece.ensures.here))

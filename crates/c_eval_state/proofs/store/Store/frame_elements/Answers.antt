use Rattle.std.proofs.Common.{◌≡◌, ◌∙◌, length, map, sym}
use Rattle.std.specs.Prelude.{Some, None}
use Rattle.c_eval_state.specs.Values.{held_of}
use Rattle.c_eval_state.specs.Kept.{frame_array}
use Rattle.c_eval_state.proofs.Named.{frame-read, frame-unread}
use Rattle.c_eval_state.proofs.store.Store.frame_elements.Goals as goal

pub returns-in-Some : goal.returns-in-Some
returns-in-Some c =
    let i = c.self.inside in
    let told : frame_array i.calls.items c.args.array c.args.depth ≡ Some c.in-Some.place =
    rw c.deref.ensures.value at (sym c.frame_array.ensures ∙ c.in-Some.is) in
    λ s. rw (← c.self.view_is) (c.elements.ensures ∙ sym (frame-read i.calls.items (map held_of i.locals.items) i.arrays
    (length i.locals.items) c.args.array c.args.depth c.in-Some.place c.self.invariant.nested told))

pub returns-in-None : goal.returns-in-None
returns-in-None c =
    let i = c.self.inside in
    let told : frame_array i.calls.items c.args.array c.args.depth ≡ None =
    rw c.deref.ensures.value at (sym c.frame_array.ensures ∙ c.in-None.is) in
    λ s. rw (← c.self.view_is) (sym (frame-unread i.calls.items (map held_of i.locals.items) i.arrays
    (length i.locals.items) c.args.array c.args.depth c.self.invariant.nested told))

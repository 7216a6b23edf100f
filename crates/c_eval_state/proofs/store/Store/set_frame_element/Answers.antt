use Rattle.std.proofs.Common.{◌≡◌, ◌∙◌, length, map, sym}
use Rattle.std.specs.Prelude.{Some, None}
use Rattle.c_eval_state.specs.Values.{held_of}
use Rattle.c_eval_state.specs.Kept.{frame_array}
use Rattle.std.proofs.Common.{w32, subst, to_z, of_z}
use Rattle.std.proofs.lemmas.Int.{to_z-of_z}
use Rattle.c_eval_state.specs.Spans.{SetsElement}
use Rattle.c_eval_state.proofs.Seen.{frame-element-written, frame-element-none}
use Rattle.c_eval_state.proofs.store.Store.set_frame_element.Goals as goal

pub returns-in-Some : goal.returns-in-Some
returns-in-Some c =
    let i = c.self.inside in
    let told : frame_array i.calls.items c.args.array c.args.depth ≡ Some c.in-Some.place =
    rw c.deref.ensures.value at (sym c.frame_array.ensures ∙ c.in-Some.is) in
    let same : to_z w32 (of_z w32 c.args.value) ≡ c.args.value =
    to_z-of_z w32 c.args.value (record { sfits = c.ranges.value.sfits }) in
    let sets = subst (λ v. SetsElement i.arrays c.set.new.self c.in-Some.place c.args.index v c.set.result) same
    c.set.ensures in
    λ s. rw (← c.self.view_is) (frame-element-written s i.objects i.calls.items (map held_of i.locals.items) i.arrays
    c.set.new.self (length i.locals.items) c.args.array c.args.depth c.in-Some.place c.args.index c.args.value
    c.set.result
    c.self.invariant.nested told sets)

pub returns-in-None : goal.returns-in-None
returns-in-None c =
    let i = c.self.inside in
    let told : frame_array i.calls.items c.args.array c.args.depth ≡ None =
    rw c.deref.ensures.value at (sym c.frame_array.ensures ∙ c.in-None.is) in
    λ s. rw (← c.self.view_is) (frame-element-none s i.objects i.calls.items (map held_of i.locals.items) i.arrays
    (length i.locals.items) c.args.array c.args.depth c.args.index c.args.value c.self.invariant.nested told)

use Rattle.std.proofs.Common.{◌≡◌, ◌∙◌, [], length, map, sym, ap, rules}
use Rattle.std.specs.Prelude.{slice_index_or, Some, None}
use Rattle.c_eval_state.specs.Values.{held_of}
use Rattle.c_eval_state.specs.Kept.{active_in, frame_array}
use Rattle.c_tree.specs.Evaluation.{text_then_zeros}
use Rattle.c_eval_state.proofs.Seen.{active-changed, own-changed, own-unchanged}
use Rattle.c_eval_state.proofs.store.Store.set_text.Goals as goal

pub returns-in-Some : goal.returns-in-Some
returns-in-Some c =
    let i = c.self.inside in
    let text = slice_index_or i.objects c.args.object [] in
    let count : c.len-depth.result ≡ length i.calls.items = search rules in
    let told : frame_array i.calls.items c.args.array (length i.calls.items) ≡ Some c.in-Some.place =
    rw (c.deref.ensures.value, count) at (sym c.frame_array.ensures ∙ c.in-Some.is) in
    λ s. rw (← c.self.view_is) (active-changed s i.objects _ _
    (ap (active_in i.calls.items (length i.calls.items) (map held_of i.locals.items))
    (rw c.elements.ensures at c.write.ensures)
    ∙ own-changed (λ row. text_then_zeros row text) i.calls.items (map held_of i.locals.items) i.arrays
    (length i.locals.items) c.args.array c.in-Some.place c.self.invariant.nested told))

pub returns-in_default : goal.returns-in_default
returns-in_default c =
    let i = c.self.inside in
    let text = slice_index_or i.objects c.args.object [] in
    let count : c.len-depth.result ≡ length i.calls.items = search rules in
    let told : frame_array i.calls.items c.args.array (length i.calls.items) ≡ None =
    rw (c.deref.ensures.value, count) at (sym c.frame_array.ensures ∙ c.in_default.is) in
    λ s. rw (← c.self.view_is) (active-changed s i.objects _ _
    (own-unchanged (λ row. text_then_zeros row text) i.calls.items (map held_of i.locals.items) i.arrays
    (length i.locals.items) c.args.array c.self.invariant.nested told))

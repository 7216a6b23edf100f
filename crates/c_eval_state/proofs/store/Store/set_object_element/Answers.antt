use Rattle.std.proofs.Common.{◌≡◌}
use Rattle.std.proofs.Common.{w32, subst, to_z, of_z}
use Rattle.std.proofs.lemmas.Int.{to_z-of_z}
use Rattle.c_eval_state.specs.Spans.{SetsElement}
use Rattle.c_eval_state.proofs.Seen.{static-written}
use Rattle.c_eval_state.proofs.store.Store.set_object_element.Goals as goal

pub returns : goal.returns
returns c =
    let i = c.self.inside in
    let same : to_z w32 (of_z w32 c.args.value) ≡ c.args.value =
    to_z-of_z w32 c.args.value (record { sfits = c.ranges.value.sfits }) in
    let sets = subst (λ v. SetsElement i.objects c.set.new.self c.args.object c.args.index v c.set.result) same
    c.set.ensures in
    λ s. rw (← c.self.view_is) (static-written s i.objects c.set.new.self _ c.args.object c.args.index c.args.value
    c.set.result sets)

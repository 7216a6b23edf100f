use Rattle.pcc_base.specs.Outcome as outcome
use Rattle.std.proofs.Common.{◌≡◌, pos}
use Rattle.c_eval_state.specs.Kept.{over}
use Rattle.std.proofs.Common.{w32, to_z, of_z}
use Rattle.std.proofs.lemmas.Int.{to_z-of_z}
use Rattle.c_eval_state.proofs.Seen.{written-same}
use Rattle.c_eval_state.proofs.store.Store.set_element_at.Goals as goal

pub returns-in-Static : goal.returns-in-Static
returns-in-Static c =
    let same : to_z w32 (of_z w32 c.args.value) ≡ c.args.value =
    to_z-of_z w32 c.args.value (record { sfits = c.ranges.value.sfits }) in
    λ s. rw c.in-Static.is (written-same (over s c.args.self.now) (over s c.set_object_element.new.self)
    (outcome.Static c.in-Static.object) (pos c.args.index) (to_z w32 (of_z w32 c.args.value)) c.args.value
    c.set_object_element.result same (c.set_object_element.ensures s))

pub returns-in-InFrame : goal.returns-in-InFrame
returns-in-InFrame c =
    let same : to_z w32 (of_z w32 c.args.value) ≡ c.args.value =
    to_z-of_z w32 c.args.value (record { sfits = c.ranges.value.sfits }) in
    λ s. rw c.in-InFrame.is (written-same (over s c.args.self.now) (over s c.set_frame_element.new.self)
    (outcome.InFrame c.in-InFrame.array c.in-InFrame.depth) (pos c.args.index) (to_z w32
    (of_z w32 c.args.value)) c.args.value
    c.set_frame_element.result same (c.set_frame_element.ensures s))

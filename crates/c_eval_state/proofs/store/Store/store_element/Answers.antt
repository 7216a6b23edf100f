use Rattle.std.proofs.Common.{◌≡◌, rules}
use Rattle.c_eval_state.specs.Values.{held_of}
use Rattle.c_eval_state.specs.Kept.{over}
use Rattle.std.proofs.Common.{w32, subst, to_z, of_z}
use Rattle.std.proofs.lemmas.Int.{to_z-of_z}
use Rattle.c_eval_state.specs.Kept.{Written}
use Rattle.c_eval_state.specs.Values.{name_of}
use Rattle.c_eval_state.proofs.Seen.{written-stored, written-same}
use Rattle.c_eval_state.proofs.store.Store.store_element.Goals as goal

pub returns : goal.returns
returns c =
    let same : to_z w32 (of_z w32 c.args.index) ≡ c.args.index =
    to_z-of_z w32 c.args.index (record { sfits = c.ranges.index.sfits }) in
    let number : to_z w32 (of_z w32 c.number.result) ≡ c.number.result =
    to_z-of_z w32 c.number.result (search rules) in
    λ s. let told = subst (λ i. Written (over s c.args.self.now) (over s c.set_element.new.self)
    (name_of c.args.array) i
    (to_z w32 (of_z w32 c.number.result)) c.set_element.result) same (c.set_element.ensures s) in
    written-stored (over s c.args.self.now) (over s c.set_element.new.self) (name_of c.args.array) c.args.index
    c.number.result (held_of c.args.value) c.set_element.result c.number.ensures
    (written-same (over s c.args.self.now) (over s c.set_element.new.self) (name_of c.args.array) c.args.index _
    c.number.result c.set_element.result number told)

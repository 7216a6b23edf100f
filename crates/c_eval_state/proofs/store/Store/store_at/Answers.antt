use Rattle.std.proofs.Common.{◌≡◌, pos, rules, w32, to_z, of_z}
use Rattle.std.proofs.lemmas.Int.{to_z-of_z}
use Rattle.c_eval_state.specs.Kept.{over}
use Rattle.c_eval_state.specs.Values.{held_of, name_of}
use Rattle.c_eval_state.proofs.Seen.{written-stored, written-same}
use Rattle.c_eval_state.proofs.store.Store.store_at.Goals as goal

pub returns : goal.returns
returns c =
    let number : to_z w32 (of_z w32 c.number.result) ≡ c.number.result =
    to_z-of_z w32 c.number.result (search rules) in
    λ s. written-stored (over s c.args.self.now) (over s c.set_element_at.new.self) (name_of c.args.array)
    (pos c.args.index) c.number.result (held_of c.args.value) c.set_element_at.result c.number.ensures
    (written-same (over s c.args.self.now) (over s c.set_element_at.new.self) (name_of c.args.array) (pos c.args.index)
    (to_z w32 (of_z w32 c.number.result)) c.number.result c.set_element_at.result number (c.set_element_at.ensures s))

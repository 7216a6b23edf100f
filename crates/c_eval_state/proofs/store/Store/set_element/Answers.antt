use Rattle.std.proofs.Common.{◌≡◌, ◌∙◌, sym, ap}
use Rattle.std.specs.Prelude.{Some, None}
use Rattle.c_eval_state.specs.Kept.{over}
use Rattle.std.proofs.Common.{w32, to_z, of_z}
use Rattle.std.proofs.lemmas.Int.{to_z-of_z}
use Rattle.c_eval_state.specs.Kept.{index_of}
use Rattle.c_eval_state.specs.Values.{name_of}
use Rattle.c_eval_state.proofs.Seen.{written-at, written-nowhere}
use Rattle.c_eval_state.proofs.store.Store.set_element.Goals as goal

pub returns-in-Some : goal.returns-in-Some
returns-in-Some c =
    let same : to_z w32 (of_z w32 c.args.value) ≡ c.args.value =
    to_z-of_z w32 c.args.value (record { sfits = c.ranges.value.sfits }) in
    let index : to_z w32 (of_z w32 c.args.index) ≡ c.args.index =
    to_z-of_z w32 c.args.index (record { sfits = c.ranges.index.sfits }) in
    let told : index_of c.args.index ≡ Some c.in-Some.index =
    ap index_of (sym index) ∙ (sym c.index_of.ensures ∙ c.in-Some.is) in
    λ s. written-at (over s c.args.self.now) (over s c.set_element_at.new.self) (name_of c.args.array) c.args.index
    c.in-Some.index _ c.args.value c.set_element_at.result told same (c.set_element_at.ensures s)

pub returns-in-None : goal.returns-in-None
returns-in-None c =
    let index : to_z w32 (of_z w32 c.args.index) ≡ c.args.index =
    to_z-of_z w32 c.args.index (record { sfits = c.ranges.index.sfits }) in
    let told : index_of c.args.index ≡ None = ap index_of (sym index) ∙ (sym c.index_of.ensures ∙ c.in-None.is) in
    λ s. written-nowhere (over s c.args.self.now) (name_of c.args.array) c.args.index c.args.value told

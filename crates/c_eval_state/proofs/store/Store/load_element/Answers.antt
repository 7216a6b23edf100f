use Rattle.std.proofs.Common.{◌≡◌, rules}
use Rattle.c_eval_state.specs.Kept.{over}
use Rattle.std.proofs.Common.{w32, subst, to_z, of_z}
use Rattle.std.proofs.lemmas.Int.{to_z-of_z}
use Rattle.c_eval_state.specs.Values.{name_of}
use Rattle.c_tree.specs.Store.{array_named, element_at}
use Rattle.c_eval_state.proofs.Seen.{read-some, read-none}
use Rattle.c_eval_state.proofs.store.Store.load_element.Goals as goal

pub returns-in-Some : goal.returns-in-Some
returns-in-Some c =
    let same : to_z w32 (of_z w32 c.args.index) ≡ c.args.index =
    to_z-of_z w32 c.args.index (record { sfits = c.ranges.index.sfits }) in
    λ s. let told = subst (λ n. c.element.result ≡ element_at (array_named (over s c.args.self.now)
    (name_of c.args.array)) n)
    same (c.element.ensures s) in
    read-some (over s c.args.self.now) _ c.element.result c.in-Some.element _ told c.in-Some.is
    (to_z-of_z w32 c.in-Some.element (search rules))

pub returns-in-None : goal.returns-in-None
returns-in-None c =
    let same : to_z w32 (of_z w32 c.args.index) ≡ c.args.index =
    to_z-of_z w32 c.args.index (record { sfits = c.ranges.index.sfits }) in
    λ s. let told = subst (λ n. c.element.result ≡ element_at (array_named (over s c.args.self.now)
    (name_of c.args.array)) n)
    same (c.element.ensures s) in
    read-none (over s c.args.self.now) _ c.element.result told c.in-None.is

use Rattle.std.proofs.Common.{rules, ◌≡◌, ◌∙◌, ℕ, ℤ, List, ◌∷◌, Option, Some, ap, subst, sym, w32}
use Rattle.std.proofs.lemmas.Int.{to_z-of_z}
use Rattle.c_tree.specs.declared.expression.Expression as built
use Rattle.c_tree.specs.declared.expression.Expression.TheViews.{the_lemmas}
use Rattle.c_tree.specs.Erased.{expression_of}
use Rattle.c_tree.specs.Evaluation.{Found, InLocal}
use Rattle.c_tree.specs.Program as typed
use Rattle.c_tree.specs.Store.{Held, HoldsNumber, State, held}
use Rattle.c_eval_laws.specs.Steps.{Configuration}
use Rattle.c_eval_state.specs.Kept.{Kept, over}
use Rattle.c_eval_state.specs.Values.{held_of}
use Rattle.c_eval_state.specs.Changes.{at_place, holding}
use Rattle.c_eval_state.specs.Left.{left_of}
use Rattle.c_eval_state.specs.declared.task.Task.TheVariants as tasks
use Rattle.c_eval.specs.AtOnce.{IsNumber, Shortened}
use Rattle.c_eval.proofs.Reaching.{assign_shortened, number_shortened, step_shortened}
use Rattle.c_eval.proofs.at_once.shorten.Goals as goal

-- a place that is found is one local
abbrev local_of : List Found → ℕ
local_of (InLocal k ∷ fs) = k
local_of _ = 0

held_there : (kept : Kept) (c d : Configuration) (v : Held) (j k : ℕ) → d ≡ at_place (InLocal j) c
    → d ≡ at_place (InLocal k) c → ((s : State) → v ≡ held (over s kept) j) → (s : State) → v ≡ held (over s kept) k
held_there kept c d v j k a b is = λ s.
    let same : j ≡ k = ap (λ (x : Configuration). local_of x.places) (sym a ∙ b) in
    is s ∙ ap (λ (i : ℕ). held (over s kept) i) same

pub returns-in_ok-hold-in-Some : goal.returns-in_ok-hold-in-Some
returns-in_ok-hold-in-Some c =
    let kept = c.args.store.now in
    let of = c.in-Assign-default-Local-default.of in
    let k = c.in-Assign-default-Local-default.local in
    let x : typed.Expression = expression_of c.in-Assign-default-Local-default.value.value in
    let n = c.in-Some.n in
    let same : expression_of c.args.e.now ≡ typed.Assign c.in-Assign-default-Local-default.of
    (typed.LocalPlace c.in-Assign-default-Local-default.local)
    (expression_of c.in-Assign-default-Local-default.value.value) = search (rules, the_lemmas) in
    let number : IsNumber x kept (Some n) =
    subst (λ (e : built.Expression). IsNumber (expression_of e) kept (Some n)) c.deref.ensures
    (subst (λ (r : Option ℤ). IsNumber (expression_of c.deref.result.now) kept r) c.in-Some.is c.number.ensures) in
    let place : left_of c.find.new.self ≡ at_place (InLocal c.in-Assign-default-Local-default.local)
    (left_of c.args.left.now) = search rules in
    let value : left_of c.hold.new.self ≡ holding (HoldsNumber c.in-Some.n) (left_of c.find.new.self) =
    rw (to_z-of_z w32 c.in-Some.n (search rules)) at c.in_ok-hold-in-Some.ensures in
    subst (λ (e : typed.Expression). Shortened e kept (left_of c.args.left.now) (left_of c.hold.new.self)
    (Some (tasks.Stores of))) (sym same)
    (assign_shortened kept (left_of c.args.left.now) (left_of c.hold.new.self) of k x n c.requires number
    (value ∙ ap (λ (d : Configuration). holding (HoldsNumber n) d) place))

pub returns-in_ok-hold-in-Step-default-default-Local : goal.returns-in_ok-hold-in-Step-default-default-Local
returns-in_ok-hold-in-Step-default-default-Local c =
    let kept = c.args.store.now in
    let of = c.in-Step-default-default-Local.of in
    let op = c.in-Step-default-default-Local.op in
    let k = c.in-Step-default-default-Local.local in
    let v : Held = held_of c.local.result in
    let same : expression_of c.args.e.now ≡ typed.Step c.in-Step-default-default-Local.of
    c.in-Step-default-default-Local.op (typed.LocalPlace c.in-Step-default-default-Local.local) =
    search (rules, the_lemmas) in
    let place : left_of c.find-in-Step-default-default-Local.new.self
    ≡ at_place (InLocal c.in-Step-default-default-Local.local) (left_of c.args.left.now) =
    search rules in
    let value : left_of c.hold-in-Step-default-default-Local.new.self
    ≡ holding (held_of c.local.result) (left_of c.find-in-Step-default-default-Local.new.self) =
    c.in_ok-hold-in-Step-default-default-Local.ensures in
    let there : (s : State) → held_of c.local.result ≡ held (over s c.args.store.now)
    c.in-Step-default-default-Local.local = held_there c.args.store.now (left_of c.args.left.now)
    (left_of c.find-in-Step-default-default-Local.new.self) (held_of c.local.result) _
    c.in-Step-default-default-Local.local c.in_ok-find-in-Step-default-default-Local.ensures place c.local.ensures in
    subst (λ (e : typed.Expression). Shortened e kept (left_of c.args.left.now)
    (left_of c.hold-in-Step-default-default-Local.new.self) (Some (tasks.Steps of op))) (sym same)
    (step_shortened kept (left_of c.args.left.now) (left_of c.hold-in-Step-default-default-Local.new.self) of op k v
    c.requires there (value ∙ ap (λ (d : Configuration). holding v d) place))

pub returns-in_ok-hold-in-Some-number : goal.returns-in_ok-hold-in-Some-number
returns-in_ok-hold-in-Some-number c =
    let kept = c.args.store.now in
    let e : typed.Expression = expression_of c.args.e.now in
    let n = c.in-Some-number.n in
    let number : IsNumber e kept (Some n) =
    subst (λ (r : Option ℤ). IsNumber e kept r) c.in-Some-number.is c.number-in_default.ensures in
    let value : left_of c.hold-in-Some-number.new.self
    ≡ holding (HoldsNumber c.in-Some-number.n) (left_of c.args.left.now) =
    rw (to_z-of_z w32 c.in-Some-number.n (search rules)) at c.in_ok-hold-in-Some-number.ensures in
    number_shortened kept (left_of c.args.left.now) (left_of c.hold-in-Some-number.new.self) e n c.requires number
    value

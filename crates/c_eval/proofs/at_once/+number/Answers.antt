use Rattle.std.proofs.Common.{rules, ◌≡◌, ℤ, Option, Some, subst, sym, w32}
use Rattle.std.proofs.lemmas.Int.{to_z-of_z}
use Rattle.c_tree.specs.declared.expression.Expression as built
use Rattle.c_tree.specs.declared.expression.Expression.TheViews.{the_lemmas}
use Rattle.c_tree.specs.Erased.{expression_of}
use Rattle.c_tree.specs.Operators.{working_type}
use Rattle.c_tree.specs.Program as typed
use Rattle.c_tree.specs.Program.{value_type}
use Rattle.c_tree.specs.declared.types.IntegerType.{IntegerType}
use Rattle.c_tree.specs.Store.{converted}
use Rattle.c_eval.specs.AtOnce.{IsApplied, IsNumber}
use Rattle.c_eval.proofs.Reaching.{number_binary, number_constant, number_local}
use Rattle.c_eval.proofs.at_once.+number.Goals as goal

pub returns-in-Constant : goal.returns-in-Constant
returns-in-Constant t c =
    let of = c.in-Constant.of in
    let n = c.in-Constant.n in
    let same : expression_of c.args.e.now ≡ typed.Constant of n = search (rules, the_lemmas) in
    let value : c.convert.result ≡ converted of n =
    rw (to_z-of_z w32 c.in-Constant.n (search rules)) at c.convert.ensures in
    let here : IsNumber (expression_of c.args.e.now) c.args.store.now (Some c.convert.result) =
    subst (λ (e : typed.Expression). IsNumber e c.args.store.now (Some c.convert.result)) (sym same)
    (subst (λ (k : ℤ). IsNumber (typed.Constant of n) c.args.store.now (Some k)) (sym value)
    (number_constant c.args.store.now of n)) in
    rw (to_z-of_z w32 c.convert.result (search rules)) here

pub returns-in-Read-default-Local : goal.returns-in-Read-default-Local
returns-in-Read-default-Local t c =
    let k = c.in-Read-default-Local.local in
    let same : expression_of c.args.e.now ≡ typed.Read c.in-Read-default-Local.field-0 (typed.LocalPlace k) =
    search (rules, the_lemmas) in
    subst (λ (e : typed.Expression). IsNumber e c.args.store.now c.local_number.result) (sym same)
    (number_local c.args.store.now c.in-Read-default-Local.field-0 k c.local_number.result c.local_number.ensures)

pub returns-in-Some-number : goal.returns-in-Some-number
returns-in-Some-number t c =
    let kept = c.args.store.now in
    let op = c.in-Binary.op in
    let m = c.in-Some.first in
    let n = c.in-Some-number.second in
    let x : typed.Expression = expression_of c.in-Binary.a.value in
    let y : typed.Expression = expression_of c.in-Binary.b.value in
    let same : expression_of c.args.e.now ≡ typed.Binary c.in-Binary.field-0 c.in-Binary.op
    (expression_of c.in-Binary.a.value) (expression_of c.in-Binary.b.value) = search (rules, the_lemmas) in
    let first : IsNumber x kept (Some m) =
    subst (λ (e : built.Expression). IsNumber (expression_of e) kept (Some m)) c.deref.ensures
    (subst (λ (r : Option ℤ). IsNumber (expression_of c.deref.result.now) kept r) c.in-Some.is c.number.ensures) in
    let second : IsNumber y kept (Some n) =
    subst (λ (e : built.Expression). IsNumber (expression_of e) kept (Some n)) c.deref-in-Some.ensures
    (subst (λ (r : Option ℤ). IsNumber (expression_of c.deref-in-Some.result.now) kept r) c.in-Some-number.is
    c.number-in-Some.ensures) in
    let within : IntegerType = working_type op (value_type x) (value_type y) in
    let applied : IsApplied within op m n c.applied.result =
    rw (
      to_z-of_z w32 c.in-Some.first (search rules),
      to_z-of_z w32 c.in-Some-number.second (search rules),
      c.operator_on.ensures.op,
      c.operator_on.ensures.within,
      c.deref-in-Some-number.ensures,
      c.deref-in-Some-number-2.ensures,
    ) at c.applied.ensures in
    subst (λ (e : typed.Expression). IsNumber e kept c.applied.result) (sym same)
    (number_binary kept c.in-Binary.field-0 op x y m n c.applied.result first second applied)

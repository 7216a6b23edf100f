use Rattle.std.proofs.Common.{rules, ap, sym, subst, ◌∙◌, true, false, pos, w32, FitsSigned}
use Rattle.std.specs.Prelude.{not}
use Rattle.std.specs.Ordering.{int_eq}
use Rattle.std.proofs.lemmas.Int.{to_z-of_z}
use Rattle.c_check_expressions.specs.Constants.{IsConstant}
use Rattle.c_check_expressions.proofs.Chosen.{chosen}
use Rattle.c_check_expressions.proofs.constant.Constant.conditional.Goals as goal

pub returns-in-Value : goal.returns-in-Value
returns-in-Value c t a b h k l =
    let fits : FitsSigned w32 c.in-Value.n = search rules in
    chosen c.args.of t a b c.in-Value.n true c.cast.result (subst (IsConstant t) c.in-Value.is h)
    (c.is_constant.ensures a k ∙ c.if-not-is_constant.false)
    (c.is_constant-else-not-is_constant.ensures b l ∙ c.if-not-is_constant-2.false)
    (ap (λ z. not (int_eq z (pos 0))) (sym (to_z-of_z w32 c.in-Value.n fits)) ∙ sym c.is_true.ensures
    ∙ c.if-is_true.true)
    (c.cast.ensures a k)

pub returns-in-Value-2 : goal.returns-in-Value-2
returns-in-Value-2 c t a b h k l =
    let fits : FitsSigned w32 c.in-Value.n = search rules in
    chosen c.args.of t a b c.in-Value.n false c.cast-in-Value-2.result (subst (IsConstant t) c.in-Value.is h)
    (c.is_constant.ensures a k ∙ c.if-not-is_constant.false)
    (c.is_constant-else-not-is_constant.ensures b l ∙ c.if-not-is_constant-2.false)
    (ap (λ z. not (int_eq z (pos 0))) (sym (to_z-of_z w32 c.in-Value.n fits)) ∙ sym c.is_true.ensures
    ∙ c.if-is_true.false)
    (c.cast-in-Value-2.ensures b l)

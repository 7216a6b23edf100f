use Rattle.std.proofs.Common.{◌≡◌, ap, refl, sym, subst, ◌∙◌, w32}
use Rattle.std.proofs.lemmas.Int.{to_z-of_z}
use Rattle.c_check_expressions.specs.Constants.{IsConstant}
use Rattle.c_check_expressions.specs.Judged.{IsIntegral}
use Rattle.c_tree.specs.Erased.{boxed_of, expression_of}
use Rattle.c_tree.specs.Program.{Constant}
use Rattle.c_tree.specs.declared.types.IntegerType.TheVariants.{Int}
use Rattle.c_check_expressions.proofs.named.number.Goals as goal

pub returns : goal.returns
returns c =
    let whole = ap (Constant Int) (to_z-of_z w32 c.args.value (record { sfits = c.ranges.value.sfits })) in
    let same = ap expression_of c.in_ok-new.ensures.ok in
    let is : boxed_of c.in_ok-new.field-0 ≡ Constant Int c.args.value = same ∙ whole in (
      is,
      (
        subst (λ e. IsConstant e c.of_number.result) (whole ∙ sym is) c.of_number.ensures,
        subst IsIntegral (sym is) (λ h. refl),
      ),
    )

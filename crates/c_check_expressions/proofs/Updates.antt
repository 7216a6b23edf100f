-- Assignments with an operator, of whose types none fits.
use Rattle.std.proofs.Common.{◌≡◌, [], ◌∷◌, false, Option, Some, None, ap, sym, subst, if◌then◌else◌}
use Rattle.std.specs.List.{list_any}
use Rattle.std.specs.Option.{option_map_or}
use Rattle.pcc_base.specs.declared.span.Span.{Span}
use Rattle.pcc_base.specs.declared.fault.Fault.{Fault}
use Rattle.pcc_base.specs.declared.fault.FaultKind.TheVariants.{PointerUse, TypeRule}
use Rattle.c_tree.specs.declared.expression.BinaryOp.{BinaryOp}
use Rattle.c_tree.specs.declared.types.ValueType.{ValueType}
use Rattle.c_tree.specs.Program.{value_type, Expression, Place, Update}
use Rattle.c_typing.specs.Checked.{fits}
use Rattle.c_typing.specs.Faults.{fault}
use Rattle.c_typing.specs.Rows.{can_assign, misfit, updated}
use Rattle.c_typing.specs.Types.{is_pointer}
use Rattle.c_check_expressions.specs.declared.judged.Judged.TheVariants.{Fails}
use Rattle.c_check_expressions.specs.Judged.{IsJudged}

pub unassigned : (op : BinaryOp) (at : Span) (of : ValueType) (place : Place) (e : Expression) (row : Option ValueType)
    (f : Fault) → option_map_or (λ t. can_assign of t false) row false ≡ false
    → f ≡ fault (if list_any is_pointer (of ∷ value_type e ∷ []) then PointerUse else TypeRule) at
    → IsJudged (updated op at of place e row) (Fails f)
unassigned op at of place e None f h is = ap Some (sym is)
unassigned op at of place e (Some result) f h is =
    subst (λ b. IsJudged (if b then fits (Update of op place e) else misfit at (of ∷ value_type e ∷ [])) (Fails f))
    (sym h) (ap Some (sym is))

-- Conditions and values of switches say nothing beside their trees.
use Rattle.std.proofs.Common.{refl, ◌∷◌, []}
use Rattle.pcc_base.specs.declared.span.Span.{Span}
use Rattle.c_tree.specs.declared.types.ValueType.{ValueType}
use Rattle.c_tree.specs.declared.types.ValueType.TheVariants.{Void, Integer, Pointer}
use Rattle.c_tree.specs.Program.{Expression, value_type}
use Rattle.c_typing.specs.Checked.{fits}
use Rattle.c_typing.specs.Rows.{is_scalar, misfit, selected, tested}
use Rattle.c_check_expressions.specs.Said.{IsQuiet}
use Rattle.c_check_expressions.proofs.Quiet.{quiet_if}

pub quiet_tested : (at : Span) (e : Expression) → IsQuiet (tested at e)
quiet_tested at e = quiet_if (is_scalar (value_type e)) (fits e) (misfit at (value_type e ∷ [])) refl tt

quiet_by : (of : ValueType) (at : Span) (e : Expression) → IsQuiet (selected of at e)
quiet_by Void at e = tt
quiet_by (Integer t) at e = refl
quiet_by (Pointer t) at e = tt

pub quiet_selected : (at : Span) (e : Expression) → IsQuiet (selected (value_type e) at e)
quiet_selected at e = quiet_by (value_type e) at e

-- What is returned, by the type of the function and whether there is a value (C99 6.8.6.4p1).
use Rattle.std.proofs.Common.{◌≡◌, refl, sym, subst, Option, Some, None}
use Rattle.pcc_base.specs.declared.span.Span.{Span}
use Rattle.c_tree.specs.declared.types.IntegerType.{IntegerType}
use Rattle.c_tree.specs.declared.types.ValueType.{ValueType}
use Rattle.c_tree.specs.declared.types.ValueType.TheVariants.{Integer, Pointer}
use Rattle.c_tree.specs.Program.{Expression}
use Rattle.c_typing.specs.Checked.{fits, if_fits}
use Rattle.c_typing.specs.Rows.{assigned}
use Rattle.c_typing.specs.Statements.{returned}
use Rattle.c_check_expressions.specs.declared.judged.Operand.{Operand}
use Rattle.c_check_expressions.specs.Judged.{IsOperandOf}
use Rattle.c_check_expressions.specs.Maybe.{IsOperandIfAny}

pub returned_integer : (of : ValueType) (t : IntegerType) (at : Span) (e : Expression) → of ≡ Integer t
    → if_fits (assigned of at e) (λ x. fits (Some x)) ≡ returned of at (Some e)
returned_integer of t at e h = subst (λ (o : ValueType). if_fits (assigned o at e) (λ x. fits (Some x))
    ≡ returned o at (Some e)) (sym h) refl

pub returned_pointer : (of : ValueType) (t : IntegerType) (at : Span) (e : Expression) → of ≡ Pointer t
    → if_fits (assigned of at e) (λ x. fits (Some x)) ≡ returned of at (Some e)
returned_pointer of t at e h = subst (λ (o : ValueType). if_fits (assigned o at e) (λ x. fits (Some x))
    ≡ returned o at (Some e)) (sym h) refl

pub with_none : (P : Option Expression → Type 0) (x : Option Expression) (v : Option Operand) → v ≡ None
    → IsOperandIfAny x v → P None → P x
with_none P None v h is p = p
with_none P (Some e) v h is p = absurd (subst (λ (u : Option Operand). IsOperandIfAny (Some e) u) h is)

pub with_some : (P : Option Expression → Type 0) (x : Option Expression) (v : Option Operand) (o : Operand)
    → v ≡ Some o → IsOperandIfAny x v → ((e : Expression) → IsOperandOf e o → P (Some e)) → P x
with_some P None v o h is p = absurd (subst (λ (u : Option Operand). IsOperandIfAny None u) h is)
with_some P (Some e) v o h is p = p e (subst (λ (u : Option Operand). IsOperandIfAny (Some e) u) h is)

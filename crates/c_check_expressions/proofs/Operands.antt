-- Operands of trees that are put together.
use Rattle.std.proofs.Common.{◌≡◌, true, false, ◌&&◌, sym, subst, ◌∙◌, true≢false}
use Rattle.std.specs.Global.{Box}
use Rattle.std.proofs.lemmas.Bool.{and_parts, false_from_ne_true}
use Rattle.c_tree.specs.declared.expression.BinaryOp.{BinaryOp}
use Rattle.c_tree.specs.declared.types.ValueType.{ValueType}
use Rattle.c_tree.specs.Program.{Expression, Binary, Conditional, Cast, value_type}
use Rattle.c_tree.specs.declared.expression.Expression.{Expression as Built}
use Rattle.c_tree.specs.Erased.{boxed_of}
use Rattle.c_check_expressions.specs.declared.constant.Constant.{Constant}
use Rattle.c_check_expressions.specs.Constants.{IsConstant}
use Rattle.c_typing.specs.Constants.{has_constant_form, is_integer_type}
use Rattle.c_check_expressions.specs.Judged.{IsIntegral}

-- the operand of a tree
pub operand_of : (tree : Box Built) (constant : Constant) (e : Expression) → boxed_of tree ≡ e → IsConstant e constant
    → IsIntegral e → (boxed_of tree ≡ e) × (IsConstant (boxed_of tree) constant × IsIntegral (boxed_of tree))
operand_of tree constant e is known integral =
    (is, (subst (λ x. IsConstant x constant) (sym is) known, subst IsIntegral (sym is) integral))

pub integral_binary : (of : ValueType) (op : BinaryOp) (a b : Expression) → IsIntegral a → IsIntegral b
    → (is_integer_type (value_type a) ≡ true → is_integer_type (value_type b) ≡ true → is_integer_type of ≡ true)
    → IsIntegral (Binary of op a b)
integral_binary of op a b ia ib types h =
    types (ia (and_parts (has_constant_form a) (has_constant_form b) h).0)
    (ib (and_parts (has_constant_form a) (has_constant_form b) h).1)

pub integral_conditional : (of : ValueType) (t a b : Expression) → IsIntegral a → IsIntegral b
    → (is_integer_type (value_type a) ≡ true → is_integer_type (value_type b) ≡ true → is_integer_type of ≡ true)
    → IsIntegral (Conditional of t a b)
integral_conditional of t a b ia ib types h =
    let both = (and_parts (has_constant_form t) (has_constant_form a && has_constant_form b) h).1 in
    types (ia (and_parts (has_constant_form a) (has_constant_form b) both).0)
    (ib (and_parts (has_constant_form a) (has_constant_form b) both).1)

-- `?:` of no integer type is no constant expression
pub not_constant : (of : ValueType) (t a b : Expression) → IsIntegral a → IsIntegral b
    → (is_integer_type (value_type a) ≡ true → is_integer_type (value_type b) ≡ true → is_integer_type of ≡ true)
    → is_integer_type of ≡ false → has_constant_form (Conditional of t a b) ≡ false
not_constant of t a b ia ib types other =
    false_from_ne_true (has_constant_form (Conditional of t a b)) (λ h. true≢false
    (sym (integral_conditional of t a b ia ib types h) ∙ other))

pub integral_cast : (to : ValueType) (e : Expression) → IsIntegral (Cast to e)
integral_cast to e h = (and_parts (is_integer_type to) (has_constant_form e) h).0

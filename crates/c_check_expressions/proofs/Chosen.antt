-- What `?:` is as a constant, by what is chosen.
use Rattle.std.proofs.Common.{◌≡◌, sym, ap, ◌∙◌, ℤ, pos, Bool, true, false, true≢false}
use Rattle.std.specs.Prelude.{if◌then◌else◌, ◌&&◌, not}
use Rattle.std.specs.Ordering.{int_eq}
use Rattle.c_tree.specs.declared.types.IntegerType.{IntegerType}
use Rattle.c_tree.specs.declared.types.ValueType.TheVariants.{Integer}
use Rattle.c_tree.specs.Program.{Expression, Conditional, Cast}
use Rattle.c_tree.specs.Operators.{is_true}
use Rattle.c_tree.specs.Store.{State, in_type, Gives, and_then}
use Rattle.c_tree.specs.Evaluation.{evaluate}
use Rattle.c_typing.specs.Constants.{has_constant_form, no_calls}
use Rattle.c_check_expressions.specs.Constants.{IsConstant}
use Rattle.c_check_expressions.specs.declared.constant.Constant.{Constant}
use Rattle.c_check_expressions.specs.declared.constant.Constant.TheVariants.{NotConstant, Traps, Value}

forms : (t a b : Expression) → has_constant_form t ≡ true → has_constant_form a ≡ true → has_constant_form b ≡ true
    → (has_constant_form t && (has_constant_form a && has_constant_form b)) ≡ true
forms t a b h k l =
    ap (λ x. x && (has_constant_form a && has_constant_form b)) h ∙ ap (λ x. x && has_constant_form b) k ∙ l

-- a conditional evaluates as the cast of what is chosen
evaluates : (of : IntegerType) (t a b : Expression) (n : ℤ) (test : Bool) (s : State) → IsConstant t (Value n)
    → not (int_eq n (pos 0)) ≡ test
    → evaluate no_calls (Conditional (Integer of) t a b) s
    ≡ evaluate no_calls (Cast (Integer of) (if test then a else b)) s
evaluates of t a b n true s h e =
    ap (λ r. and_then r (λ v u. and_then (if is_true v then evaluate no_calls a u else evaluate no_calls b u)
    (λ x w. Gives (in_type (Integer of) x) w))) (h.1 s)
    ∙ ap (λ c. and_then (if c then evaluate no_calls a s else evaluate no_calls b s)
    (λ x w. Gives (in_type (Integer of) x) w)) e
evaluates of t a b n false s h e =
    ap (λ r. and_then r (λ v u. and_then (if is_true v then evaluate no_calls a u else evaluate no_calls b u)
    (λ x w. Gives (in_type (Integer of) x) w))) (h.1 s)
    ∙ ap (λ c. and_then (if c then evaluate no_calls a s else evaluate no_calls b s)
    (λ x w. Gives (in_type (Integer of) x) w)) e

-- `?:` is what the cast of the chosen one is
pub chosen : (of : IntegerType) (t a b : Expression) (n : ℤ) (test : Bool) (r : Constant) → IsConstant t (Value n)
    → has_constant_form a ≡ true → has_constant_form b ≡ true → not (int_eq n (pos 0)) ≡ test
    → IsConstant (Cast (Integer of) (if test then a else b)) r → IsConstant (Conditional (Integer of) t a b) r
chosen of t a b n true NotConstant h k l e x = absurd (true≢false (sym k ∙ x))
chosen of t a b n false NotConstant h k l e x = absurd (true≢false (sym l ∙ x))
chosen of t a b n test (Traps trap) h k l e x =
    (forms t a b h.0 k l, λ s. evaluates of t a b n test s h e ∙ x.1 s)
chosen of t a b n test (Value v) h k l e x =
    (forms t a b h.0 k l, λ s. evaluates of t a b n test s h e ∙ x.1 s)

-- What the code's operands and answers are to the definitions of typing.
use Rattle.std.specs.Prelude.{◌≡◌, ◌∷◌, true, Some, if◌then◌else◌}
use Rattle.c_tree.specs.Program.{Expression, value_type}
use Rattle.c_tree.specs.Erased.{boxed_of}
use Rattle.c_check_expressions.specs.Constants.{IsConstant}
use Rattle.c_typing.specs.Faults.{least, precedes}
use Rattle.c_typing.specs.Checked.{Checked, Fits, Fails}
use Rattle.c_typing.specs.Constants.{has_constant_form, is_integer_type}
use Rattle.c_check_expressions.specs.declared.judged.Operand.{Operand}
use Rattle.c_check_expressions.specs.declared.judged.Judged.{Judged}
use Rattle.c_check_expressions.specs.declared.judged.Judged.TheVariants as answers

-- only integers have the form of constants
abbrev pub IsIntegral : Expression → Type 0
IsIntegral e = has_constant_form e ≡ true → is_integer_type (value_type e) ≡ true

-- What stands beside a tree is what it is as a constant.
abbrev pub IsOperand : Operand → Type 0
IsOperand o = IsConstant (boxed_of o.tree) o.constant × IsIntegral (boxed_of o.tree)

-- the operand of a typed tree
abbrev pub IsOperandOf : Expression → Operand → Type 0
IsOperandOf e o = (boxed_of o.tree ≡ e) × IsOperand o

-- What is answered is what the definition has: the operand of the tree that fits, or the least of its faults.
abbrev pub IsJudged : Checked Expression → Judged Operand → Type 0
IsJudged (Fits e notes) (answers.Fits o) = IsOperandOf e o
IsJudged (Fits e notes) (answers.Fails f) = ⊥
IsJudged (Fails first others) (answers.Fits o) = ⊥
IsJudged (Fails first others) (answers.Fails f) = least (first ∷ others) ≡ Some f

-- two parts: both values, or the least of the faults
abbrev pub joined_answers : {A B : Type 0} → Judged A → Judged B → Judged (A × B)
joined_answers (answers.Fits a) (answers.Fits b) = answers.Fits (a, b)
joined_answers (answers.Fits a) (answers.Fails g) = answers.Fails g
joined_answers (answers.Fails f) (answers.Fits b) = answers.Fails f
joined_answers (answers.Fails f) (answers.Fails g) = answers.Fails (if precedes g f then g else f)

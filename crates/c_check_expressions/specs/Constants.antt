-- What an expression is as an integer constant expression (C99 6.6), by what the source means.
use Rattle.std.specs.Prelude.{◌≡◌, true, false}
use Rattle.pcc_base.specs.Outcome.{Trapped}
use Rattle.c_tree.specs.Program.{Expression}
use Rattle.c_tree.specs.Store.{HoldsNumber, State, Gives, Ends}
use Rattle.c_tree.specs.Evaluation.{evaluate}
use Rattle.c_typing.specs.Constants.{has_constant_form, no_calls}
use Rattle.c_check_expressions.specs.declared.constant.Constant.{Constant}
use Rattle.c_check_expressions.specs.declared.constant.Constant.TheVariants.{NotConstant, Traps, Value}

-- It isn't of the form, or its evaluation gives this number or this trap in every state, and changes none.
abbrev pub IsConstant : Expression → Constant → Type 0
IsConstant e NotConstant = has_constant_form e ≡ false
IsConstant e (Traps trap) =
    (has_constant_form e ≡ true) × ((s : State) → evaluate no_calls e s ≡ Ends (Trapped trap) s)
IsConstant e (Value n) =
    (has_constant_form e ≡ true) × ((s : State) → evaluate no_calls e s ≡ Gives (HoldsNumber n) s)

-- What is answered of a part is what the definition has, whatever the part is.
use Rattle.std.specs.Prelude.{◌≡◌, ◌∷◌, Some}
use Rattle.c_typing.specs.Faults.{least}
use Rattle.c_typing.specs.Checked.{Checked, Fits, Fails}
use Rattle.c_check_expressions.specs.declared.judged.Judged.{Judged}
use Rattle.c_check_expressions.specs.declared.judged.Judged.TheVariants as answers

-- a value that stands for the definition's one, or the least of its faults
abbrev pub Stands : {X A : Type 0} → (X → A → Type 0) → Checked X → Judged A → Type 0
Stands R (Fits x notes) (answers.Fits a) = R x a
Stands R (Fits x notes) (answers.Fails f) = ⊥
Stands R (Fails first others) (answers.Fits a) = ⊥
Stands R (Fails first others) (answers.Fails f) = least (first ∷ others) ≡ Some f

-- What is answered of a part, and what it says beside its tree.
use Rattle.std.specs.Prelude.{◌≡◌, List, [], ◌++◌}
use Rattle.c_tree.specs.declared.types.ValueType.{ValueType}
use Rattle.c_tree.specs.Program.{Expression}
use Rattle.c_typing.specs.Checked.{Checked, Fits, Fails, Note}
use Rattle.c_check_expressions.specs.declared.judged.Operand.{Operand}
use Rattle.c_check_expressions.specs.declared.judged.Judged.{Judged}
use Rattle.c_check_expressions.specs.declared.judged.Judged.TheVariants as answers
use Rattle.c_check_expressions.specs.Judged.{IsOperandOf}
use Rattle.c_check_expressions.specs.Parts.{Stands}

-- Where a part fits, what it says stands behind what was said before; nothing is known of the notes where it fails.
abbrev pub IsGrown : {A : Type 0} → Checked A → List Note → List Note → Type 0
IsGrown (Fits value notes) before after = after ≡ before ++ notes
IsGrown (Fails first others) before after = Unit {0}

-- What is answered is what the definition has, and so are the notes.
abbrev pub IsSaid : {X A : Type 0} → (X → A → Type 0) → Checked X → Judged A → List Note → List Note → Type 0
IsSaid R c answer before after = Stands R c answer × IsGrown c before after

-- what a value that fits is
abbrev pub IfFits : {A : Type 0} → Judged A → (A → Type 0) → Type 0
IfFits (answers.Fits a) P = P a
IfFits (answers.Fails f) P = Unit {0}

-- the operands of two trees, and of three
abbrev pub AreOperandsOf : Expression × Expression → Operand × Operand → Type 0
AreOperandsOf es os = IsOperandOf es.0 os.0 × IsOperandOf es.1 os.1

abbrev pub AreThreeOperandsOf : Expression × (Expression × Expression) → Operand × (Operand × Operand) → Type 0
AreThreeOperandsOf es os = IsOperandOf es.0 os.0 × AreOperandsOf es.1 os.1

-- a type, and the operand of a tree
abbrev pub AreCastOf : ValueType × Expression → ValueType × Operand → Type 0
AreCastOf es os = (os.0 ≡ es.0) × IsOperandOf es.1 os.1

-- a part that says nothing beside its tree
abbrev pub IsQuiet : {A : Type 0} → Checked A → Type 0
IsQuiet (Fits value notes) = notes ≡ []
IsQuiet (Fails first others) = Unit {0}

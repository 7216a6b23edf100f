-- How what is answered of statements and their parts stands for what the definitions have.
use Rattle.std.specs.Prelude.{◌≡◌, List, map, Option, Vec}
use Rattle.std.specs.Global.{Box}
use Rattle.std.specs.declared.alloc.Global.{Global}
use Rattle.c_tree.specs.declared.expression.Expression.{Expression as Built}
use Rattle.c_tree.specs.declared.statement.First.{First as BuiltFirst}
use Rattle.c_tree.specs.declared.statement.Label.{Label}
use Rattle.c_tree.specs.declared.statement.Statement.{Statement as BuiltStatement}
use Rattle.c_tree.specs.Erased.{first_of, statement_of, statements_of}
use Rattle.c_tree.specs.Program.{Expression, First, Statement, Statements}
use Rattle.c_check_declarations.specs.InitialValues.{IsTree}
use Rattle.c_check_declarations.specs.ItemAnswers.{IsTreeIfAny}
use Rattle.c_check_statements.specs.Labels.{AreLabels}

abbrev pub IsStatement : Statement → BuiltStatement → Type 0
IsStatement x a = statement_of a ≡ x

-- the statements that a statement, or a declaration, is
abbrev pub AreListed : List Statement → Vec BuiltStatement Global → Type 0
AreListed xs v = map statement_of v.items ≡ xs

-- the statements of a block
abbrev pub AreStatements : Statements → Vec BuiltStatement Global → Type 0
AreStatements xs v = statements_of v.items ≡ xs

abbrev pub IsFirst : First → BuiltFirst → Type 0
IsFirst x a = first_of a ≡ x

-- ---- several parts

-- a condition, and what it decides on
abbrev pub AreTested : Expression × Statement → Box Built × BuiltStatement → Type 0
AreTested x a = IsTree x.0 a.0 × IsStatement x.1 a.1

-- the same of a `do`
abbrev pub AreRepeated : Statement × Expression → BuiltStatement × Box Built → Type 0
AreRepeated x a = IsStatement x.0 a.0 × IsTree x.1 a.1

-- a condition, and the statements where it holds and where it doesn't
abbrev pub AreBranches : Expression × (Statement × Statement) → Box Built × (BuiltStatement × BuiltStatement) → Type 0
AreBranches x a = IsTree x.0 a.0 × (IsStatement x.1.0 a.1.0 × IsStatement x.1.1 a.1.1)

-- the value of a switch, and its labels
abbrev pub AreSelected : Expression × List Label → Box Built × Vec Label Global → Type 0
AreSelected x a = IsTree x.0 a.0 × AreLabels x.1 a.1

-- with its statements
abbrev pub AreCases : Expression × (List Label × Statements)
    → Box Built × (Vec Label Global × Vec BuiltStatement Global) → Type 0
AreCases x a = IsTree x.0 a.0 × (AreLabels x.1.0 a.1.0 × AreStatements x.1.1 a.1.1)

-- the first part of a `for`, and its test
abbrev pub AreStart : First × Option Expression → BuiltFirst × Option (Box Built) → Type 0
AreStart x a = IsFirst x.0 a.0 × IsTreeIfAny x.1 a.1

-- with what follows each turn
abbrev pub AreHead : (First × Option Expression) × Option Expression
    → (BuiltFirst × Option (Box Built)) × Option (Box Built) → Type 0
AreHead x a = AreStart x.0 a.0 × IsTreeIfAny x.1 a.1

-- and its body
abbrev pub AreTurns : (First × Option Expression) × (Option Expression × Statement)
    → (BuiltFirst × Option (Box Built)) × (Option (Box Built) × BuiltStatement) → Type 0
AreTurns x a = AreStart x.0 a.0 × (IsTreeIfAny x.1.0 a.1.0 × IsStatement x.1.1 a.1.1)

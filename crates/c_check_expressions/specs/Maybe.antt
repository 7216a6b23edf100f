-- An expression that may be absent.
use Rattle.std.specs.Prelude.{Option, Some, None}
use Rattle.c_tree.specs.Program.{Expression}
use Rattle.c_check_expressions.specs.declared.judged.Operand.{Operand}
use Rattle.c_check_expressions.specs.Judged.{IsOperand, IsOperandOf}

-- the operand of a tree, where there is one
abbrev pub IsOperandIfAny : Option Expression → Option Operand → Type 0
IsOperandIfAny None None = Unit {0}
IsOperandIfAny None (Some o) = ⊥
IsOperandIfAny (Some e) None = ⊥
IsOperandIfAny (Some e) (Some o) = IsOperandOf e o

abbrev pub IsOperandWhere : Option Operand → Type 0
IsOperandWhere None = Unit {0}
IsOperandWhere (Some o) = IsOperand o

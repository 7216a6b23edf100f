-- Values of initialisers (C99 6.7.8).
use Rattle.std.specs.Prelude.{◌≡◌, Bool, true, false}
use Rattle.std.specs.Global.{Box}
use Rattle.pcc_base.specs.declared.span.Span.{Span}
use Rattle.pcc_base.specs.declared.fault.FaultKind.TheVariants.{Initialiser}
use Rattle.c_tree.specs.declared.expression.Expression.{Expression as Built}
use Rattle.c_tree.specs.Erased.{boxed_of, expression_of}
use Rattle.c_tree.specs.Program.{Expression}
use Rattle.c_typing.specs.Checked.{Checked, fails}

-- the tree of an expression
abbrev pub IsTree : Expression → Box Built → Type 0
IsTree x a = boxed_of a ≡ x

-- the same of a tree that is in no box
abbrev pub IsPlainTree : Expression → Built → Type 0
IsPlainTree x a = expression_of a ≡ x

-- one value too many is a fault at its first token
abbrev pub row_within : {A : Type 0} → Bool → (Span → Expression → Checked A) → Span → Expression → Checked A
row_within true row at e = row at e
row_within false row at e = fails Initialiser at

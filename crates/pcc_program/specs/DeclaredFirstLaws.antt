-- Each local of a typed program is declared before it is named.
use Rattle.std.specs.Prelude.{List}
use Rattle.std.specs.List.{AllByRecursion}
use Rattle.c_syntax.specs.Grammar.{IsExternal}
use Rattle.c_syntax.specs.Statements.{ExternalTree}
use Rattle.c_tree.specs.Program.{Program}
use Rattle.c_typing.specs.Typed.{Typed}
use Rattle.lower_laws.specs.Declared.{IsDeclaredFirst}

-- The typed program of raw trees of the grammar is so. It need not be within the limits, nor need the trees be those of
-- a text.
abbrev pub LocalsAreDeclaredFirst : Type 0
LocalsAreDeclaredFirst = (units : List (List ExternalTree)) (p : Program)
    → AllByRecursion (AllByRecursion IsExternal) units → Typed units p → IsDeclaredFirst p

-- Not so of every raw tree: one that the grammar doesn't make has a typed program that isn't.
abbrev pub GrammarIsNeeded : Type 0
GrammarIsNeeded = (units : List (List ExternalTree)) × (p : Program) × Typed units p × (IsDeclaredFirst p → ⊥)

-- The names of typed programs are identifiers.
use Rattle.std.specs.Prelude.{ℕ, List, flat_map}
use Rattle.std.specs.List.{AllByRecursion}
use Rattle.c_syntax.specs.Grammar.{IsExternal, unit_tokens}
use Rattle.c_syntax.specs.Statements.{ExternalTree}
use Rattle.c_tree.specs.Program.{Program}
use Rattle.c_typing.specs.Typed.{Typed}
use Rattle.c_check_laws.specs.Laws.{AreUnitsOf}
use Rattle.c_check_laws.specs.Named.{AreSpelled, IsNamed}

-- those of texts are names (C99 6.4.2.1)
abbrev pub IdentifiersHaveNames : Type 0
IdentifiersHaveNames = (texts : List (List ℕ)) (units : List (List ExternalTree)) → AreUnitsOf 0 texts units
    → AreSpelled (flat_map unit_tokens units)

-- the functions of a typed program, their locals and their arrays have identifiers of its files as names
abbrev pub ProgramsHaveNames : Type 0
ProgramsHaveNames = (units : List (List ExternalTree)) (p : Program)
    → AllByRecursion (AllByRecursion IsExternal) units → AreSpelled (flat_map unit_tokens units) → Typed units p
    → AllByRecursion IsNamed p.functions

-- Each array of a typed program is declared by an item of its own, and each function is defined by its definition.
use Rattle.std.specs.Prelude.{◌≡◌, ◌≤◌, List, length, map}
use Rattle.std.specs.List.{All}
use Rattle.c_syntax.specs.Statements.{ExternalTree}
use Rattle.c_tree.specs.Program.{Program}
use Rattle.c_tree.specs.Sizes.{function_size}
use Rattle.c_typing.specs.Typed.{Typed}
use Rattle.c_check_laws.specs.Names.{defined_names}

-- so no function has more arrays than tokens
abbrev pub ArraysAreDeclared : Type 0
ArraysAreDeclared = (units : List (List ExternalTree)) (p : Program) → Typed units p
    → All (λ f. length f.arrays ≤ function_size f) p.functions

-- the functions of a typed program have, in order, the names of the definitions of functions in its files
abbrev pub FunctionsAreNamed : Type 0
FunctionsAreNamed = (units : List (List ExternalTree)) (p : Program) → Typed units p
    → map (λ f. f.name) p.functions ≡ defined_names units

-- The names of the functions that files define.
use Rattle.std.specs.Prelude.{ℕ, List, flat_map, filter_map, Option, Some, None}
use Rattle.c_syntax.specs.Statements.{ExternalTree, FunctionTree, DeclaredTree}

-- the name of the function that an external declaration defines, where it is a function's definition (C99 6.9.1)
abbrev pub defined_name : ExternalTree → Option (List ℕ)
defined_name (FunctionTree specifiers d body) = Some d.name.name
defined_name (DeclaredTree d) = None

-- the names of the functions that files define, in the order of the text, file after file
abbrev pub defined_names : List (List ExternalTree) → List (List ℕ)
defined_names units = flat_map (filter_map defined_name) units

-- Each function of files that fit is defined once.
use Rattle.std.specs.Prelude.{◌≡◌, List}
use Rattle.c_syntax.specs.Statements.{ExternalTree}
use Rattle.c_tree.specs.Program.{Function}
use Rattle.c_typing.specs.Checked.{Note, Fits}
use Rattle.c_typing.specs.Names.{Numbers}
use Rattle.c_typing.specs.Typed.{judged}
use Rattle.c_check.specs.Tables.{AreDefinedOnce}

-- whichever numbers objects and functions have: the functions that the notes define are apart (C99 6.9p5)
abbrev pub FunctionsAreDefinedOnce : Type 0
FunctionsAreDefinedOnce = (numbers : Numbers) (units : List (List ExternalTree)) (functions : List Function)
    (notes : List Note) → judged numbers units ≡ Fits functions notes → AreDefinedOnce notes

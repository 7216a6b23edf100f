-- The raw trees of texts are what typing asks for.
use Rattle.std.specs.Prelude.{◌≤◌, ℕ, List, flat_map, length}
use Rattle.c_syntax.specs.Grammar.{unit_tokens}
use Rattle.c_syntax.specs.Statements.{ExternalTree}
use Rattle.c_typing.specs.Laws.{AreSources}
use Rattle.c_check_laws.specs.Named.{AreSpelled}
use Rattle.c_front.specs.Units.{HaveUnits}

-- their tokens are at different places, and their numbers are of `int`
abbrev pub UnitsAreSources : Type 0
UnitsAreSources = (texts : List (List ℕ)) (units : List (List ExternalTree)) → HaveUnits texts units → AreSources units

-- they have no more tokens than are read
abbrev pub UnitsAreFew : Type 0
UnitsAreFew = (texts : List (List ℕ)) (units : List (List ExternalTree)) → HaveUnits texts units
    → length (flat_map unit_tokens units) ≤ 0x10000

-- their identifiers are names
abbrev pub UnitsHaveNames : Type 0
UnitsHaveNames = (texts : List (List ℕ)) (units : List (List ExternalTree)) → HaveUnits texts units
    → AreSpelled (flat_map unit_tokens units)
